use Rattle.std.proofs.Common.{◌≡◌, ◌++◌, drop}
use Rattle.message_acts.specs.Transactions.{pushed}
use Rattle.message_acts.proofs.transaction.pushed.Given as goal

abbrev pub invariant-loop-act : goal.invariant-loop-act
invariant-loop-act l = l.numbers ++ pushed (drop l.act-index l.acts) ≡ pushed l.acts
