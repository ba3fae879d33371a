use Rattle.std.proofs.Common.{sym, ◌∙◌}
use Rattle.line_text.specs.Lines.{lines_of}
use Rattle.schedule_model.specs.Programs.{program_craft}
use Rattle.schedule_world.specs.Desks.{desk_of}
use Rattle.schedule_world.specs.Runs.{HasEnded}
use Rattle.schedule_world.proofs.Numbered.{behind_header, past_else, past_then}
use Rattle.schedule_world.proofs.run.text_taken.Goals as goal
use Rattle.schedule_world.proofs.run.text_taken.Goals.{then-is_cut, else-is_cut}

pub returns : goal.returns
returns c =
    behind_header program_craft c.args.is_cut c.if-is_cut.header_fault (desk_of c.args.world.now) c.next-first.result _ _ (lines_of c.args.text.now) c.in-Some.field-0-0 c.in-Some.header.now (λ r. HasEnded r (desk_of c.lines_run.new.world) c.lines_run.result)
    (sym c.new-lines.ensures ∙ c.in-Some.ensures.steps) c.next-first.ensures.steps
    (elim c.if-is_cut.branch [ then-is_cut w ↦ past_then _ _ w.is_none.result _ _ w.if-is_cut.true w.is_none.ensures w.header_fault-is | else-is_cut w ↦ past_else _ _ _ w.if-is_cut.false (w.header_fault-is ∙ w.if-is_cut.false) ])
    c.in_default-header_fault.ensures c.requires c.lines_run.ensures
