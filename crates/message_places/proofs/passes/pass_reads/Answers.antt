-- What `pass_reads` ensures.
use Rattle.place_theorem.proofs.Passing.{pass_reads as general}
use Rattle.message_places.proofs.Serving.{full}
use Rattle.message_places.proofs.passes.pass_reads.Goals as goal

pub returns : goal.returns
returns g c = λ κ lawful. general (full κ lawful)
