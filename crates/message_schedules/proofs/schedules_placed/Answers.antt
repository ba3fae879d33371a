use Rattle.message_schedules.proofs.Program.{each_placed}
use Rattle.message_schedules.proofs.schedules_placed.Goals as goal

pub returns : goal.returns
returns c = each_placed
