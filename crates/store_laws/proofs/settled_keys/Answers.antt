-- By what is kept of a map.
use Rattle.store_laws.proofs.Settled.{drops_due}
use Rattle.store_laws.proofs.settled_keys.Goals as goal

pub returns : goal.returns
returns c = λ s at k. drops_due s at k
