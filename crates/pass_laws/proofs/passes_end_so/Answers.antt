use Rattle.pass_laws.proofs.Whole.{ends}
use Rattle.pass_laws.proofs.passes_end_so.Goals as goal

pub returns : goal.returns
returns c token v end calls told block tells = ends token v end calls told block tells
