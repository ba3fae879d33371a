-- What `whole_return` ensures.
use Rattle.place_theorem.proofs.Returned.{whole_return as general}
use Rattle.message_places.proofs.Serving.{full}
use Rattle.message_places.proofs.places.whole_return.Goals as goal

pub returns : goal.returns
returns g c = λ κ lawful. general (full κ lawful)
