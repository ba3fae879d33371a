-- What `fresh_tag` ensures.
use Rattle.place_theorem.proofs.Fresh.{fresh_tag as fresh}
use Rattle.place_theorem.proofs.identity.fresh_tag.Goals as goal

pub returns : goal.returns
returns g c = λ σ laws h p sound pre. fresh (record { names = σ; laws = laws }) h p sound pre
