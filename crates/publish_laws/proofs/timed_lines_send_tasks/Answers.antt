use Rattle.publish_laws.proofs.Timed.{timed_sent}
use Rattle.publish_laws.proofs.timed_lines_send_tasks.Goals as goal

pub returns : goal.returns
returns c = λ times s n x k p task j v some eta expires e. timed_sent times s n x k p task j some eta expires v e
