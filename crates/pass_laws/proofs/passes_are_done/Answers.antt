use Rattle.pass_laws.proofs.Whole.{are_done}
use Rattle.pass_laws.proofs.passes_are_done.Goals as goal

pub returns : goal.returns
returns c token v end calls told block tells first none = are_done token v end calls told block tells first none
