use Rattle.std.proofs.Common.{◌<◌, ℕ}
use Rattle.crontabs.specs.Found.{HasTimeIn}
use Rattle.crontabs.proofs.times.Times.some_between.Given as goal

-- no hour so far has one
abbrev pub invariant-loop-hour : goal.invariant-loop-hour
invariant-loop-hour l = (k : ℕ) → k < l.hour → HasTimeIn l.self l.low l.high k → ⊥
