-- What `prefixes` ensures.
use Rattle.place_theorem.proofs.Prefixes.{prefix_sound}
use Rattle.place_theorem.proofs.places.prefixes.Goals as goal

pub returns : goal.returns
returns g c = prefix_sound
