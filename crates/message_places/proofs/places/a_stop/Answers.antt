-- What `a_stop` ensures.
use Rattle.place_theorem.proofs.Stopped.{a_stop as general}
use Rattle.message_places.proofs.Serving.{full}
use Rattle.message_places.proofs.places.a_stop.Goals as goal

pub returns : goal.returns
returns g c = λ κ lawful. general (full κ lawful)
