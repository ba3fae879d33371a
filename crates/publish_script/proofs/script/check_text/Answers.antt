use Rattle.std.proofs.Common.{sym, ◌∙◌}
use Rattle.line_text.specs.LinesLeft.{lines_left}
use Rattle.publish_script.proofs.Checked.{wrong_checked}
use Rattle.publish_script.proofs.Numbered.{header_wrong}
use Rattle.publish_script.proofs.script.check_text.Goals as goal

pub returns-in-Some-header_fault : goal.returns-in-Some-header_fault
returns-in-Some-header_fault c =
    wrong_checked _ 1 c.in-Some-header_fault.reason _ c.bad-in-Some-header_fault.ensures
    (header_wrong c.args.seed c.args.is_cut _ (lines_left c.next.new.self) (lines_left c.next-first.new.self) c.in-Some.field-0-0 c.in-Some.header.now c.next-first.result c.ends_cut.result c.header_fault.result c.in-Some-header_fault.reason
    (sym c.new-lines.ensures ∙ c.in-Some.ensures.steps) c.next-first.ensures.steps (c.ends_cut.ensures (lines_left c.next-first.new.self)) c.header_fault.ensures c.in-Some-header_fault.is)
