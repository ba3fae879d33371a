-- By what is left of the map of connections.
use Rattle.store_laws.proofs.Connections.{is_gone}
use Rattle.store_laws.proofs.gone_law.Goals as goal

pub returns : goal.returns
returns c = λ s c. is_gone s c
