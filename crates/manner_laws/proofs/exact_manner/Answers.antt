-- What `exact_manner` ensures.
use Rattle.manner_laws.proofs.Ways.{exact_manner}
use Rattle.manner_laws.proofs.exact_manner.Goals as goal

pub returns : goal.returns
returns c = exact_manner
