use Rattle.std.proofs.Common.{Some, ap, ◌∙◌}
use Rattle.wire_spelling.specs.Lengths.{joined}
use Rattle.wire_spelling.proofs.Fitting.{left_over}
use Rattle.wire_spelling.proofs.room.+spelled_length.Goals as goal

pub returns-in_err-length-in-Array-clause-is : goal.returns-in_err-length-in-Array-clause-is
returns-in_err-length-in-Array-clause-is t c =
    c.from_residual.ensures
    ∙ left_over c.args.value.now c.args.depth c.loop-item.length c.loop-item.item-index c.as_slice-item-items.result.now c.item-item.result c.joined.result
    c.loop-item.invariant.left c.loop-item-test.true c.item-item.is (c.joined.ensures.is ∙ ap (joined (Some c.loop-item.length)) c.spelled_length.ensures.is) c.in_err-length-in-Array.was
