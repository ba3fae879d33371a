use Rattle.message_schedules.proofs.Program.{craft}
use Rattle.message_schedules.proofs.program_crafts.Goals as goal

pub returns : goal.returns
returns c = craft
