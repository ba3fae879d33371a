-- What `own_calls` ensures.
use Rattle.place_theorem.proofs.Sound.{client_is}
use Rattle.place_theorem.proofs.identity.own_calls.Goals as goal

pub returns : goal.returns
returns g c = λ h conn cl is. let k = client_is h conn cl is in k
