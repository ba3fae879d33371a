use Rattle.std.proofs.Common.{◌++◌, append_assoc, ap, subst, sym, ◌∙◌}
use Rattle.wire_show.specs.Runs.{HasGivenLines}
use Rattle.wire_show.specs.Shows.{value_line}
use Rattle.wire_show.proofs.Showings.{gave_fault, gave_line, gave_none}
use Rattle.wire_show.proofs.showing.Showing.add_next.Goals as goal

pub returns-in-Ok-clause-gives : goal.returns-in-Ok-clause-gives
returns-in-Ok-clause-gives c =
    let next = rw c.in-Ok-Some.field-0-is at c.in-Ok-Some.ensures.next in
    λ stream text h.
    let old = c.args.self.now.lines.ready.items in
    let line = value_line c.in-Ok-Some.value in
    subst (HasGivenLines c.next.new.self stream) (append_assoc text old line ∙ ap (λ l. text ++ l) (sym c.in-Ok.ensures.ok))
    (gave_line c.args.self.now.decoder c.next.new.self stream (text ++ old) h c.in-Ok-Some.value next)

pub returns-in-Ok-None-clause-gives : goal.returns-in-Ok-None-clause-gives
returns-in-Ok-None-clause-gives c =
    let next = rw c.in-Ok-None.field-0-is at c.in-Ok-None.ensures.next in
    λ stream text h. gave_none c.args.self.now.decoder c.next.new.self stream (text ++ c.args.self.now.lines.ready.items) h next

pub returns-in-Err-Bad-clause-gives : goal.returns-in-Err-Bad-clause-gives
returns-in-Err-Bad-clause-gives c =
    let next = rw c.in-Err-Bad.field-0-is at c.in-Err-Bad.ensures.next in
    rw c.in-Err-Bad.field-0-is (λ stream text h. gave_fault c.args.self.now.decoder c.next.new.self stream (text ++ c.args.self.now.lines.ready.items) h _ _ next)
