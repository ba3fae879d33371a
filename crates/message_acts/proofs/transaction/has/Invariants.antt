use Rattle.std.proofs.Common.{◌≡◌, drop}
use Rattle.message_acts.specs.Numbers.{has}
use Rattle.message_acts.proofs.transaction.has.Given as goal

abbrev pub invariant-loop-one : goal.invariant-loop-one
invariant-loop-one l = has l.number l.numbers ≡ has l.number (drop l.one-index l.numbers)
