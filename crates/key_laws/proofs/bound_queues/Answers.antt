-- What `bound_queues` ensures.
use Rattle.key_laws.proofs.Looked.{lookups_tell, members_spell, one_lookup}
use Rattle.key_laws.proofs.bound_queues.Goals as goal

pub returns-clause-lookup : goal.returns-clause-lookup
returns-clause-lookup c = lookups_tell

pub returns-clause-only : goal.returns-clause-only
returns-clause-only c = one_lookup

pub returns-clause-members : goal.returns-clause-members
returns-clause-members c = members_spell
