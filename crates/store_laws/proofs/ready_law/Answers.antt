-- By the words, and by the keys that they name.
use Rattle.store_laws.proofs.Waits.{ready_waits}
use Rattle.store_laws.proofs.ready_law.Goals as goal

pub returns : goal.returns
returns c = λ s at words h. ready_waits s at words h
