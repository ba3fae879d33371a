use Rattle.std.proofs.Common.{List, subst, sym, ℕ}
use Rattle.place_model.specs.Shown.{history_of}
use Rattle.top_call.proofs.Endings.{text_of_run}
use Rattle.top_call.proofs.Makings.{made_of_fault}
use Rattle.top_call.specs.Endings.{MadeEnds}
use Rattle.top_call.specs.Replays.{IsHistoryText, made_lines}
use Rattle.top_call.specs.declared.ending.End.{End}
use Rattle.top_call.proofs.making.made_run.Goals as goal

pub returns-in-Ok-made_lines : goal.returns-in-Ok-made_lines
returns-in-Ok-made_lines c =
    subst (λ (s : List ℕ). IsHistoryText (made_lines c.args.messages) s c.in-Ok-made_lines.lines) c.requires
    (text_of_run (made_lines c.args.messages) c.args.text.now c.in-Ok-made_lines.lines (history_of c.in-Ok.ran.history) c.in-Ok.ensures.answer c.in-Ok-made_lines.ensures)

pub returns-in-Err : goal.returns-in-Err
returns-in-Err c = subst (λ (e : End). MadeEnds c.args.messages e) (sym c.end_of.ensures) (made_of_fault c.args.messages c.args.text.now c.requires c.in-Err.fault c.in-Err.ensures.answer)
