-- What `one_tree` ensures.
use Rattle.place_theorem.proofs.Fresh.{one_tree as general}
use Rattle.message_places.proofs.Serving.{full}
use Rattle.message_places.proofs.identity.one_tree.Goals as goal

pub returns : goal.returns
returns g c = λ κ lawful h p p' t b b' sound pre pre'. general (full κ lawful) h p p' sound pre pre' t b b'
