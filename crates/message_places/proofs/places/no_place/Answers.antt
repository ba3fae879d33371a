-- What `no_place` ensures.
use Rattle.place_theorem.proofs.Unborn.{unaccepted as general}
use Rattle.message_places.proofs.Serving.{full}
use Rattle.message_places.proofs.places.no_place.Goals as goal

pub returns : goal.returns
returns g c = λ κ lawful. general (full κ lawful)
