use Rattle.std.proofs.Common.{◌≡◌, map, take}
use Rattle.task_registry.proofs.registry.Registry.names.Given as goal

abbrev pub invariant-loop-body : goal.invariant-loop-body
invariant-loop-body g l = l.names.items ≡ map g.B.Body.name_of (take l.body-index l.body-items)
