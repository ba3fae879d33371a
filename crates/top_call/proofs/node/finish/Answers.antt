use Rattle.std.proofs.Common.{inr, refl}
use Rattle.top_call.specs.declared.ending.End.TheVariants.{Memory}
use Rattle.top_call.proofs.node.finish.Goals as goal

pub returns-in-Err : goal.returns-in-Err
returns-in-Err g c = (Memory, inr (refl, c.in_default.not-ReadFault), c.out_of_memory.ensures)
