use Rattle.publish_laws.proofs.Sent.{sent}
use Rattle.publish_laws.proofs.publish_lines_send_tasks.Goals as goal

pub returns : goal.returns
returns c = sent
