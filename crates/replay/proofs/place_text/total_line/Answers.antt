use Rattle.std.proofs.Common.{◌++◌, ◌∙◌, ap}
use Rattle.replay.specs.Kinds.{totals}
use Rattle.replay.proofs.Reported.{totals_line}
use Rattle.replay.proofs.place_text.total_line.Goals as goal

pub returns : goal.returns
returns c =
    c.in_ok-total_text.ensures
    ∙ ((λ i. c.args.out.now.items ++ totals (c.total-lists.ensures i) (c.total-unacked.ensures i) (c.total-hands.ensures i) (c.total-ended.ensures i) (c.total-lost.ensures i) (c.total-copies.ensures i))
    ∙ ap (λ text. c.args.out.now.items ++ text) (totals_line _ _ _ _ _ _))
