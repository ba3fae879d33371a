use Rattle.task_laws.proofs.AgainChanges.{again_changes}
use Rattle.task_laws.proofs.again_changes.Goals as goal

pub returns : goal.returns
returns c = again_changes
