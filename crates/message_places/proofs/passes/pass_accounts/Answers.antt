-- What `pass_accounts` ensures.
use Rattle.place_theorem.proofs.Passing.{pass_accounts as general}
use Rattle.message_places.proofs.Serving.{full}
use Rattle.message_places.proofs.passes.pass_accounts.Goals as goal

pub returns : goal.returns
returns g c = λ κ lawful. general (full κ lawful)
