use Rattle.task_laws.proofs.Faults.{again_too_long, never_too_long}
use Rattle.task_laws.proofs.faults_apart.Goals as goal

pub returns : goal.returns
returns c = (never_too_long, again_too_long)
