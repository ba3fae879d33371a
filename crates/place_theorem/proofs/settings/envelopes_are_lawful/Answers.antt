-- What `envelopes_are_lawful` ensures.
use Rattle.std.proofs.Common.{refl}
use Rattle.key_laws.proofs.EnvelopeFacts.{envelopes_serve}
use Rattle.key_laws.proofs.Settings.{lawful_setting}
use Rattle.command_blocks.specs.EnvelopeTexts.{texts}
use Rattle.queue_keys.specs.Layouts.{plain}
use Rattle.queue_keys.specs.Names.{same}
use Rattle.place_theorem.proofs.settings.envelopes_are_lawful.Goals as goal

pub returns-clause-layouts : goal.returns-clause-layouts
returns-clause-layouts c = λ l lawful. lawful_setting l texts lawful envelopes_serve

pub returns-clause-plain : goal.returns-clause-plain
unfolding same
returns-clause-plain c = lawful_setting plain texts refl envelopes_serve
