use Rattle.std.proofs.Common.{◌≡◌, ◌+◌, drop, if◌then◌else◌}
use Rattle.message_acts.specs.Numbers.{times}
use Rattle.message_acts.proofs.transaction.is_twice.Given as goal

abbrev pub invariant-loop-one : goal.invariant-loop-one
invariant-loop-one l = times l.number l.numbers ≡ (if l.found then 1 else 0) + times l.number (drop l.one-index l.numbers)
