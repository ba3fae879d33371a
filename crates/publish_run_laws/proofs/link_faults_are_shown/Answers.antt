use Rattle.publish_run_laws.proofs.Faults.{shown}
use Rattle.publish_run_laws.proofs.link_faults_are_shown.Goals as goal

pub returns : goal.returns
returns c = shown
