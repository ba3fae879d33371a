-- What `origin` ensures.
use Rattle.place_theorem.proofs.Origins.{identity_anywhere as general}
use Rattle.message_places.proofs.Serving.{full}
use Rattle.message_places.proofs.identity.origin.Goals as goal

pub returns : goal.returns
returns g c = λ κ lawful. general (full κ lawful)
