use Rattle.std.proofs.Common.{◌≡◌, ◌≤◌, drop, length}
use Rattle.queue_keys.specs.Lookup.{lookup}
use Rattle.lookups.proofs.queues.lookup.Given as goal

abbrev pub invariant-members : goal.invariant-members
invariant-members l = (l.queues.items ≡ lookup l.routing_key (drop l.count l.members)) × (l.count ≤ length l.members)

abbrev pub decreases-members : goal.decreases-members
decreases-members l = l.count
