-- What `a_stop` ensures.
use Rattle.place_theorem.proofs.Stopped.{a_stop as stops}
use Rattle.place_theorem.proofs.places.a_stop.Goals as goal

pub returns : goal.returns
returns g c = λ σ laws. stops (record { names = σ; laws = laws })
