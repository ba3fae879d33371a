use Rattle.std.proofs.Common.{◌++◌, List, ℕ, drop}
use Rattle.beat_times.specs.Due.{AreDue}
use Rattle.beat_times.proofs.entries.due.Given as goal

-- what is found and the rest that is due is all that is due
abbrev pub invariant-loop-index : goal.invariant-loop-index
invariant-loop-index l = (rest : List ℕ) → AreDue l.now l.index (drop l.index l.entries) rest → AreDue l.now 0 l.entries (l.found.items ++ rest)
