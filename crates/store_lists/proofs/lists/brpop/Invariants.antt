use Rattle.std.proofs.Common.{◌≡◌, length}
use Rattle.store_model.specs.Lists.{brpop}
use Rattle.store_lists.proofs.lists.brpop.Given as goal

abbrev pub invariant-loop-key : goal.invariant-loop-key
invariant-loop-key l = brpop l.keys l.names ≡ brpop l.fn.keys l.fn.names

abbrev pub decreases-loop-key : goal.decreases-loop-key
decreases-loop-key l = length l.names
