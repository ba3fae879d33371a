use Rattle.std.proofs.Common.{length}
use Rattle.store_sets.proofs.Takings.{PutIn}
use Rattle.store_sets.proofs.sets.put_in.Given as goal

abbrev pub invariant-loop-name : goal.invariant-loop-name
invariant-loop-name l = PutIn l.fn.members l.fn.names l.members l.names l.new

abbrev pub decreases-loop-name : goal.decreases-loop-name
decreases-loop-name l = length l.names
