use Rattle.std.proofs.Common.{◌≡◌, map, false, take}
use Rattle.std.specs.List.{list_any}
use Rattle.std.specs.Str.{bytes_eq}
use Rattle.task_registry.proofs.registry.Registry.run.Given as goal

abbrev pub invariant-loop-body : goal.invariant-loop-body
invariant-loop-body g l = list_any (bytes_eq l.name) (map g.B.Body.name_of (take l.body-index l.body-items)) ≡ false
