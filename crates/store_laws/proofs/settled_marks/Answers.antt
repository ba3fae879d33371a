-- By the entries in order.
use Rattle.store_laws.proofs.Settled.{marks_due}
use Rattle.store_laws.proofs.settled_marks.Goals as goal

pub returns : goal.returns
returns c = λ s at. marks_due s at
