-- By the frames of the commands, one after the other.
use Rattle.store_laws.proofs.Law.{run_all_kept}
use Rattle.store_laws.proofs.queue_law.Goals as goal

pub returns : goal.returns
returns c = λ at m cs commands k. run_all_kept at m cs commands k
