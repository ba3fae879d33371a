use Rattle.schedule_model.specs.Costs.{bulk_size}
use Rattle.schedule_past.proofs.Sizing.{counted_more}
use Rattle.schedule_past.proofs.cost.values_size.Goals as goal

pub loop-value-preserved : goal.loop-value-preserved
loop-value-preserved c =
    counted_more bulk_size c.args.values.now c.loop-value.value-index c.value-item.result c.loop-value.size c.bulk_size.result c.sum-size.result c.loop-value-test.true c.value-item.is c.bulk_size.ensures c.sum-size.ensures c.loop-value.invariant
