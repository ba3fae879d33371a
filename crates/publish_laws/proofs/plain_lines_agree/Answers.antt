use Rattle.publish_laws.proofs.Agreeing.{agree}
use Rattle.publish_laws.proofs.plain_lines_agree.Goals as goal

pub returns : goal.returns
returns c = agree
