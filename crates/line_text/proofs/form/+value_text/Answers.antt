use Rattle.line_text.proofs.Listed.{value_begun, value_more}
use Rattle.line_text.proofs.form.+value_text.Goals as goal

pub loop-item-init : goal.loop-item-init
loop-item-init g t c =
    value_begun (g.F.Form.form c.args.form.now) _ _ _ _ _ c.in_ok-extend_from_slice-in-Array.ensures.items c.in-Array.is c.as_slice-item-items.ensures

pub loop-item-preserved : goal.loop-item-preserved
loop-item-preserved g t c =
    value_more (g.F.Form.form c.args.form.now) _ _ _ _ _ _ _ _ c.loop-item-test.true c.item-item.is c.in_ok-extend_from_slice-in-Array-2.ensures.items c.in_ok-value_text-in-Array.ensures c.loop-item.invariant
