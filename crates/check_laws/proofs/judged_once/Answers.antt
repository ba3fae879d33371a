-- What `judged_once` ensures.
use Rattle.check_laws.proofs.Once.{once}
use Rattle.check_laws.proofs.judged_once.Goals as goal

pub returns : goal.returns
returns c = once
