use Rattle.envelope.proofs.MarkedSaid.{said_marked, is_marked-marked, priority-marked}
use Rattle.envelope_trees.proofs.MarkedTrees.{sorted-marked, marked_twice}
use Rattle.envelope_laws.proofs.laws.marks_stay.Goals as goal

pub returns-clause-twice : goal.returns-clause-twice
returns-clause-twice c = λ d. (sorted-marked d, marked_twice d)

pub returns-clause-said : goal.returns-clause-said
returns-clause-said c = λ d p e. (said_marked d p e, is_marked-marked d p e, priority-marked d)
