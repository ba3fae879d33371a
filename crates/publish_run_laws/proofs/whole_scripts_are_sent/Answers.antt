use Rattle.publish_run_laws.proofs.Wholes.{published}
use Rattle.publish_run_laws.proofs.whole_scripts_are_sent.Goals as goal

pub returns : goal.returns
returns c = published
