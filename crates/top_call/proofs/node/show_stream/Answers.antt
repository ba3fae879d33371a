use Rattle.std.proofs.Common.{sym, ◌∙◌}
use Rattle.top_call.proofs.Showings.{told_none, told_some}
use Rattle.top_call.proofs.node.show_stream.Goals as goal

pub returns-in-Some : goal.returns-in-Some
returns-in-Some g c =
    (c.show-shown.result, _, c.show-shown.ensures, told_some _ _ _ c.show-shown.result c.in-Some.end (sym c.told.ensures ∙ c.in-Some.is) c.finish.ensures)

pub returns-in-None : goal.returns-in-None
returns-in-None g c = (c.show-shown.result, _, c.show-shown.ensures, told_none c.show-shown.result (sym c.told.ensures ∙ c.in-None.is) _)
