-- What `somewhere` ensures.
use Rattle.place_theorem.proofs.Nowhere.{somewhere as general}
use Rattle.message_places.proofs.Serving.{full}
use Rattle.message_places.proofs.places.somewhere.Goals as goal

pub returns : goal.returns
returns g c = λ κ lawful. general (full κ lawful)
