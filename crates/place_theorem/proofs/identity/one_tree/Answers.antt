-- What `one_tree` ensures.
use Rattle.place_theorem.proofs.Fresh.{one_tree as one}
use Rattle.place_theorem.proofs.identity.one_tree.Goals as goal

pub returns : goal.returns
returns g c = λ σ laws h p p' t b b' sound pre pre'. one (record { names = σ; laws = laws }) h p p' sound pre pre' t b b'
