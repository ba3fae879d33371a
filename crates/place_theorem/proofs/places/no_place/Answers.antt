-- What `no_place` ensures.
use Rattle.place_theorem.proofs.Unborn.{unaccepted}
use Rattle.place_theorem.proofs.places.no_place.Goals as goal

pub returns : goal.returns
returns g c = λ σ laws. unaccepted (record { names = σ; laws = laws })
