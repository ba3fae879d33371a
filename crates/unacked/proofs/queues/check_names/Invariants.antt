use Rattle.std.proofs.Common.{◌≡◌, take, true}
use Rattle.unacked.specs.Queues.{are_names}
use Rattle.unacked.proofs.queues.check_names.Given as goal

abbrev pub invariant-loop-name : goal.invariant-loop-name
invariant-loop-name l = are_names (take l.name-index l.names) ≡ true
