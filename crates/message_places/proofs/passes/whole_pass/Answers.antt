-- What `whole_pass` ensures.
use Rattle.place_theorem.proofs.Passing.{whole_pass as general}
use Rattle.message_places.proofs.Serving.{full}
use Rattle.message_places.proofs.passes.whole_pass.Goals as goal

pub returns : goal.returns
returns g c = λ κ lawful. general (full κ lawful)
