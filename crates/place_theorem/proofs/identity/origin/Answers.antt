-- What `origin` ensures.
use Rattle.place_theorem.proofs.Origins.{identity_anywhere}
use Rattle.place_theorem.proofs.identity.origin.Goals as goal

pub returns : goal.returns
returns g c = λ σ laws. identity_anywhere (record { names = σ; laws = laws })
