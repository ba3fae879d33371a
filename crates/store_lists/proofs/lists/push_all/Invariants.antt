use Rattle.std.proofs.Common.{◌≡◌, length}
use Rattle.store_model.specs.Lists.{pushed_at_head}
use Rattle.store_lists.proofs.lists.push_all.Given as goal

abbrev pub invariant-loop-value : goal.invariant-loop-value
invariant-loop-value l = pushed_at_head l.values l.items ≡ pushed_at_head l.fn.values l.fn.items

abbrev pub decreases-loop-value : goal.decreases-loop-value
decreases-loop-value l = length l.values
