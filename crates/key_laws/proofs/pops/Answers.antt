-- What `pops` ensures.
use Rattle.key_laws.proofs.Lists.{pops_are, length-pop_keys}
use Rattle.key_laws.proofs.Steps.{has_step}
use Rattle.key_laws.proofs.pops.Goals as goal

pub returns-clause-keys : goal.returns-clause-keys
returns-clause-keys c = pops_are

pub returns-clause-steps : goal.returns-clause-steps
returns-clause-steps c = has_step

pub returns-clause-count : goal.returns-clause-count
returns-clause-count c = length-pop_keys
