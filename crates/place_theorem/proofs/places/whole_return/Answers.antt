-- What `whole_return` ensures.
use Rattle.place_theorem.proofs.Returned.{whole_return as returned}
use Rattle.place_theorem.proofs.places.whole_return.Goals as goal

pub returns : goal.returns
returns g c = λ σ laws. returned (record { names = σ; laws = laws })
