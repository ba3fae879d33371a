use Rattle.std.proofs.Common.{inr, refl}
use Rattle.waiting_call.specs.declared.ending.WaitEnd.TheVariants.{Memory}
use Rattle.waiting_call.proofs.node.finish.Goals as goal

pub returns-in-Err : goal.returns-in-Err
returns-in-Err g c = (Memory, inr (refl, c.in_default.not-LinkFault), c.out_of_memory.ensures)
