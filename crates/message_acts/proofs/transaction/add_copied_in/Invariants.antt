use Rattle.std.proofs.Common.{◌≡◌, ◌++◌, drop, filter, nat_le}
use Rattle.message_acts.specs.Numbers.{times}
use Rattle.message_acts.proofs.transaction.add_copied_in.Given as goal

abbrev pub invariant-loop-number : goal.invariant-loop-number
invariant-loop-number l = l.copied ++ filter (λ n. nat_le 2 (times n l.pushes)) (drop l.number-index l.pushes) ≡ l.initial.copied ++ filter (λ n. nat_le 2 (times n l.pushes)) l.pushes
