use Rattle.message_schedules.proofs.Program.{sound}
use Rattle.message_schedules.proofs.schedules_sound.Goals as goal

pub returns : goal.returns
returns c = sound
