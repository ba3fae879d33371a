use Rattle.std.proofs.Common.{ap, ◌∙◌}
use Rattle.schedule_world.proofs.Here.{nobody_gone}
use Rattle.schedule_world.proofs.Shelved.{books_of-empty}
use Rattle.schedule_world.proofs.Taken.{known_empty}
use Rattle.schedule_world.specs.Books.{books_of}
use Rattle.schedule_past.specs.Desks.{desk_with}
use Rattle.schedule_world.proofs.world.World.new.Goals as goal

pub invariant_of-result : goal.invariant_of-result
invariant_of-result c = record { known = known_empty c.new-2.result c.new.result.history.clients c.new-2.ensures; here = nobody_gone c.new-2.result c.new.result.history.entries (ap (λ d. d.entries) c.new.ensures) }

pub returns-clause-desk : goal.returns-clause-desk
returns-clause-desk c = ap (desk_with c.new.result) (ap books_of c.new-2.ensures ∙ books_of-empty) ∙ c.new.ensures
