use Rattle.worked_histories.proofs.EachHistory.{contended_sound}
use Rattle.worked_histories.proofs.contended_sound.Goals as goal

pub returns : goal.returns
returns c = contended_sound
