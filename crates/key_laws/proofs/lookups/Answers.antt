-- What `lookups` ensures.
use Rattle.key_laws.proofs.Routes.{routes_are, routes_differ, binding_of-member}
use Rattle.key_laws.proofs.lookups.Goals as goal

pub returns-clause-keys : goal.returns-clause-keys
returns-clause-keys c = λ l s e r ms h. (routes_are l s e r ms h, routes_differ l s e r ms h)

pub returns-clause-members : goal.returns-clause-members
returns-clause-members c = binding_of-member
