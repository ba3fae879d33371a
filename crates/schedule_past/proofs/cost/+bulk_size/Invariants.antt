use Rattle.std.proofs.Common.{sum_by, take}
use Rattle.schedule_model.specs.Costs.{bulk_size}
use Rattle.schedule_past.specs.Counted.{IsCounted}
use Rattle.schedule_past.proofs.cost.+bulk_size.Given as goal

-- the size of the items so far
abbrev pub invariant-loop-item : goal.invariant-loop-item
invariant-loop-item l = IsCounted (sum_by bulk_size (take l.item-index l.item-items)) l.size
