-- What `somewhere` ensures.
use Rattle.place_theorem.proofs.Nowhere.{somewhere as is_somewhere}
use Rattle.place_theorem.proofs.places.somewhere.Goals as goal

pub returns : goal.returns
returns g c = λ σ laws. is_somewhere (record { names = σ; laws = laws })
