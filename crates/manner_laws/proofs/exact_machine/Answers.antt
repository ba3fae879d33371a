-- What `exact_machine` ensures.
use Rattle.manner_laws.proofs.Ways.{exact_machine}
use Rattle.manner_laws.proofs.exact_machine.Goals as goal

pub returns : goal.returns
returns c = exact_machine
