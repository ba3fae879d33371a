use Rattle.return_laws.proofs.Ends.{ends}
use Rattle.return_laws.proofs.returns_end_so.Goals as goal

pub returns : goal.returns
returns c side t end calls told block tells = ends side t end calls told block.1 tells
