-- What `one_publication` ensures.
use Rattle.place_theorem.proofs.Fresh.{one_publication as general}
use Rattle.message_places.proofs.Serving.{full}
use Rattle.message_places.proofs.identity.one_publication.Goals as goal

pub returns : goal.returns
returns g c = λ κ lawful h p t b b' sound pre. general (full κ lawful) h p sound pre t b b'
