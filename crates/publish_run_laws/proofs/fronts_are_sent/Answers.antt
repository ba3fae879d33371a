use Rattle.publish_run_laws.proofs.Fronts.{in_order}
use Rattle.publish_run_laws.proofs.fronts_are_sent.Goals as goal

pub returns : goal.returns
returns c = in_order
