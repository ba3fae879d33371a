use Rattle.schedule_model.specs.Costs.{bulk_size}
use Rattle.schedule_past.proofs.Sizing.{counted_array, counted_more}
use Rattle.schedule_past.proofs.cost.+bulk_size.Goals as goal

pub returns-after-loop-item : goal.returns-after-loop-item
returns-after-loop-item t c = counted_array c.args.value.now c.in-Array.items c.as_slice-item-items.result.now c.loop-item.item-index c.loop-item.size c.loop-item.invariant c.loop-item-test.false c.as_slice-item-items.ensures c.in-Array.is

pub loop-item-preserved : goal.loop-item-preserved
loop-item-preserved t c =
    counted_more bulk_size c.as_slice-item-items.result.now c.loop-item.item-index c.item-item.result c.loop-item.size c.bulk_size.result c.sum-size.result c.loop-item-test.true c.item-item.is c.bulk_size.ensures c.sum-size.ensures c.loop-item.invariant
