-- What `one_publication` ensures.
use Rattle.place_theorem.proofs.Fresh.{one_publication as one}
use Rattle.place_theorem.proofs.identity.one_publication.Goals as goal

pub returns : goal.returns
returns g c = λ σ laws h p t b b' sound pre. one (record { names = σ; laws = laws }) h p sound pre t b b'
