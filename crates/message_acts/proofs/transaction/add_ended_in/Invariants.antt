use Rattle.std.proofs.Common.{◌≡◌, ◌-◌, ◌++◌, drop, filter, length, not}
use Rattle.message_acts.specs.Numbers.{has}
use Rattle.message_acts.specs.Transactions.{taken}
use Rattle.message_acts.proofs.transaction.add_ended_in.Given as goal

abbrev pub invariant-loop-at : goal.invariant-loop-at
invariant-loop-at l = l.ended ++ filter (λ n. not (has n l.pushes)) (taken (drop l.at l.acts) (drop l.at l.answers)) ≡ l.initial.ended ++ filter (λ n. not (has n l.pushes)) (taken l.acts l.answers)

abbrev pub decreases-loop-at : goal.decreases-loop-at
decreases-loop-at l = length l.acts - l.at
