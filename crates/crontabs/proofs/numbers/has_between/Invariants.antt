use Rattle.std.proofs.Common.{◌≡◌, ◌<◌, ◌≤◌, ℕ, false}
use Rattle.crontabs.specs.Fields.{field_has}
use Rattle.crontabs.proofs.numbers.has_between.Given as goal

-- no number so far is there
abbrev pub invariant-loop-number : goal.invariant-loop-number
invariant-loop-number l = (k : ℕ) → l.low ≤ k → k < l.number → field_has l.field k ≡ false
