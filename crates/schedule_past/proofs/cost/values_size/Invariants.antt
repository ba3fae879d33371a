use Rattle.std.proofs.Common.{sum_by, take}
use Rattle.schedule_model.specs.Costs.{bulk_size}
use Rattle.schedule_past.specs.Counted.{IsCounted}
use Rattle.schedule_past.proofs.cost.values_size.Given as goal

-- the size of the values so far
abbrev pub invariant-loop-value : goal.invariant-loop-value
invariant-loop-value l = IsCounted (sum_by bulk_size (take l.value-index l.values)) l.size
