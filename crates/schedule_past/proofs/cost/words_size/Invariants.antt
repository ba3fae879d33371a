use Rattle.std.proofs.Common.{take}
use Rattle.schedule_model.specs.Costs.{words_size}
use Rattle.schedule_past.specs.Counted.{IsCounted}
use Rattle.schedule_past.proofs.cost.words_size.Given as goal

-- the size of the words so far
abbrev pub invariant-loop-word : goal.invariant-loop-word
invariant-loop-word l = IsCounted (words_size (take l.word-index l.words)) l.size
