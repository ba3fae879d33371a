use Rattle.std.proofs.Common.{◌<◌, ◌≤◌, ℕ}
use Rattle.crontabs.specs.Found.{HasMinuteIn}
use Rattle.crontabs.proofs.crontab.Crontab.some_between.Given as goal

-- no month so far has one
abbrev pub invariant-loop-month : goal.invariant-loop-month
invariant-loop-month l = (k : ℕ) → 23640 ≤ k → k < l.month → HasMinuteIn l.self l.first l.latest k → ⊥
