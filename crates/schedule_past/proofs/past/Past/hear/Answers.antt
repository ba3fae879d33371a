use Rattle.std.proofs.lemmas.Result.{on_ok_weaker}
use Rattle.schedule_past.proofs.past.Past.hear.Goals as goal

pub returns-clause-left : goal.returns-clause-left
returns-clause-left c = on_ok_weaker c.note.result (λ noted. c.in_ok-cost.ensures.left) c.note.ensures.desk
