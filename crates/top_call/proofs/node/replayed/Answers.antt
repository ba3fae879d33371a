use Rattle.std.proofs.Common.{subst, sym}
use Rattle.place_model.specs.Shown.{history_of}
use Rattle.top_call.proofs.Endings.{asked_of, end_of_fault}
use Rattle.top_call.specs.Endings.{EndsAs}
use Rattle.top_call.specs.declared.ending.End.{End}
use Rattle.top_call.proofs.node.replayed.Goals as goal

pub returns-in-Ok-asked_text : goal.returns-in-Ok-asked_text
returns-in-Ok-asked_text c =
    subst (λ (e : End). EndsAs c.args.recording c.args.schedule.now e) (sym c.text_end.ensures)
    (asked_of c.args.recording c.args.schedule.now c.in-Ok-asked_text.text (history_of c.in-Ok.ran.history) c.in-Ok.ensures.answer c.in-Ok-asked_text.ensures)

pub returns-in-Err : goal.returns-in-Err
returns-in-Err c = subst (λ (e : End). EndsAs c.args.recording c.args.schedule.now e) (sym c.end_of.ensures) (end_of_fault c.args.recording c.args.schedule.now c.in-Err.fault c.in-Err.ensures.answer)
