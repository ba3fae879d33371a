use Rattle.std.proofs.Common.{rules, ◌≡◌, sym}
use Rattle.task_registry.proofs.Found.{found}
use Rattle.task_registry.proofs.registry.Registry.has.Goals as goal

pub returns-then-eq : goal.returns-then-eq
returns-then-eq g c = sym (found g.B.Body.name_of c.args.name.now c.args.self.now.bodies.items c.loop-body.body-index c.body-item.result (search rules) (search rules) (search rules))
