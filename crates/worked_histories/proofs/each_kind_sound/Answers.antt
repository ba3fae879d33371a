use Rattle.worked_histories.proofs.EachHistory.{each_kind_sound}
use Rattle.worked_histories.proofs.each_kind_sound.Goals as goal

pub returns : goal.returns
returns c = each_kind_sound
