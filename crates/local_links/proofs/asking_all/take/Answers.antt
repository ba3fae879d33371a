use Rattle.local_links.proofs.Heard.{served_over}
use Rattle.local_links.proofs.asking_all.take.Goals as goal

pub returns-in-Over-clause-served : goal.returns-in-Over-clause-served
returns-in-Over-clause-served c = λ first sent replies s. served_over first c.args.desk.now sent c.args.piece.now replies c.args.talking.now c.args.stage c.in-Over.is s
