-- What `layouts_serve` ensures.
use Rattle.std.proofs.Common.{refl}
use Rattle.queue_keys.specs.Layouts.{plain}
use Rattle.queue_keys.specs.Names.{same}
use Rattle.message_places.proofs.Serving.{lawful}
use Rattle.message_places.proofs.texts.layouts_serve.Goals as goal

pub returns-clause-all : goal.returns-clause-all
returns-clause-all c = lawful

pub returns-clause-plain : goal.returns-clause-plain
unfolding same
returns-clause-plain c = lawful plain refl
