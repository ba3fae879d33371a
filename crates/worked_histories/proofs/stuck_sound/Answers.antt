use Rattle.worked_histories.proofs.EachHistory.{stuck_sound}
use Rattle.worked_histories.proofs.stuck_sound.Goals as goal

pub returns : goal.returns
returns c = stuck_sound
