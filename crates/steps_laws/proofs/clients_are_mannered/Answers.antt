-- What `clients_are_mannered` ensures.
use Rattle.steps_laws.proofs.Said.{all_mannered, whole_mannered}
use Rattle.steps_laws.proofs.clients_are_mannered.Goals as goal

pub returns-clause-busy : goal.returns-clause-busy
returns-clause-busy g = all_mannered

pub returns-clause-idle : goal.returns-clause-idle
returns-clause-idle g = whole_mannered
