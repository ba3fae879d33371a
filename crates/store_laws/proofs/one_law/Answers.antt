-- By the frame of each command.
use Rattle.store_laws.proofs.Law.{run_kept}
use Rattle.store_laws.proofs.one_law.Goals as goal

pub returns : goal.returns
returns c = λ e m command k. run_kept e m command k
