use Rattle.record_laws.proofs.Told.{determines}
use Rattle.record_laws.proofs.record_determines.Goals as goal

pub returns : goal.returns
returns c = determines
