use Rattle.std.proofs.Common.{rules, ◌≡◌}
use Rattle.task_registry.proofs.Found.{found}
use Rattle.task_registry.proofs.registry.Registry.run.Goals as goal

pub returns-in-Ok-clause-there : goal.returns-in-Ok-clause-there
returns-in-Ok-clause-there g c = found g.B.Body.name_of c.args.name.now c.args.self.now.bodies.items c.loop-body.body-index c.body-item.result (search rules) (search rules) (search rules)

pub returns-in-Err-clause-memory : goal.returns-in-Err-clause-memory
returns-in-Err-clause-memory g c = λ u. found g.B.Body.name_of c.args.name.now c.args.self.now.bodies.items c.loop-body.body-index c.body-item.result (search rules) (search rules) (search rules)
