use Rattle.schedule_laws.proofs.Determined.{schedule_sound}
use Rattle.schedule_laws.proofs.schedules.Goals as goal

pub returns : goal.returns
returns c = schedule_sound
