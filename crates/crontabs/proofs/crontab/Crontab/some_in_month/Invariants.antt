use Rattle.std.proofs.Common.{◌<◌, ℕ}
use Rattle.crontabs.specs.Found.{HasMinuteOn}
use Rattle.crontabs.proofs.crontab.Crontab.some_in_month.Given as goal

-- no day so far has one
abbrev pub invariant-loop-place : goal.invariant-loop-place
invariant-loop-place l = (k : ℕ) → k < l.place → HasMinuteOn l.self l.base l.first l.latest k → ⊥
