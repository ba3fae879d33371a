-- What `one_place` ensures.
use Rattle.place_theorem.proofs.Sound.{placed_one}
use Rattle.place_theorem.proofs.places.one_place.Goals as goal

pub returns : goal.returns
returns g c = λ σ laws. placed_one (record { names = σ; laws = laws })
