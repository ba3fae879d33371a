use Rattle.std.proofs.Common.{sym, ◌∙◌}
use Rattle.std.proofs.lemmas.Result.{IfOk-weaker}
use Rattle.replay.proofs.Shaped.{from_envelope, past_envelope}
use Rattle.replay.proofs.legend.shape_of.Goals as goal

pub returns-in-Some : goal.returns-in-Some
returns-in-Some c = from_envelope c.args.bytes.now c.in-Some.shape (sym c.in-Some.is ∙ c.in_ok-shape.ensures)

pub returns-in-None : goal.returns-in-None
returns-in-None c = IfOk-weaker c.entry_or_tag.result _ _ (λ s h. h ∙ past_envelope c.args.bytes.now (sym c.in-None.is ∙ c.in_ok-shape.ensures)) c.entry_or_tag.ensures
