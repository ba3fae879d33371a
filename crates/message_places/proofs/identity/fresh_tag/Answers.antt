-- What `fresh_tag` ensures.
use Rattle.place_theorem.proofs.Fresh.{fresh_tag as general}
use Rattle.message_places.proofs.Serving.{full}
use Rattle.message_places.proofs.identity.fresh_tag.Goals as goal

pub returns : goal.returns
returns g c = λ κ lawful h p sound pre. general (full κ lawful) h p sound pre
