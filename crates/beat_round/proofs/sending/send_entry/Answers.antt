use Rattle.std.proofs.Common.{sym, subst}
use Rattle.beat_round.specs.Rounds.{HasNotSent, IsDrafting, IsEntryDraft}
use Rattle.beat_round.proofs.Sendings.{sent_stops, sent_whole}
use Rattle.beat_round.proofs.sending.send_entry.Goals as goal

pub returns-in-Ok-clause-sent : goal.returns-in-Ok-clause-sent
returns-in-Ok-clause-sent g c =
    let d = subst (IsDrafting c.args.entry.now c.in-Some.tag.0) c.in-Some-2.is c.in_ok-draft.ensures in
    sent_whole g.D.Desk.goes g.D.Desk.fault g.D.Desk.stopped g.T.Steps.client g.T.Steps.left (g.C.Clock.gives c.args.clock.now) c.args.desk.now c.run_block.new.desk c.args.steps.now c.run_block.new.steps
    c.args.entry.now c.in-Some.tag.0 c.in_ok-new.field-0.value (sym c.in-Some.ensures) (subst (IsEntryDraft c.args.entry.now c.in-Some.tag.0) (sym c.in_ok-new.ensures.ok) d.0) c.in-Ok.field-0 c.in-Ok.ensures.run

pub returns-clause-sent : goal.returns-clause-sent
returns-clause-sent g c =
    let d = subst (IsDrafting c.args.entry.now c.in-Some.tag.0) c.in-Some-2.is c.in_ok-draft.ensures in
    let goes = g.D.Desk.goes in
    subst (HasNotSent goes g.D.Desk.fault g.D.Desk.stopped g.T.Steps.client g.T.Steps.left (g.C.Clock.gives c.args.clock.now) c.args.desk.now c.run_block.new.desk c.args.steps.now c.run_block.new.steps c.args.entry.now)
    (sym c.stop_end.ensures)
    (sent_stops goes g.D.Desk.fault g.D.Desk.stopped g.T.Steps.client g.T.Steps.left (g.C.Clock.gives c.args.clock.now) c.args.desk.now c.run_block.new.desk c.args.steps.now c.run_block.new.steps
    c.args.entry.now c.in-Some.tag.0 c.in_ok-new.field-0.value (sym c.in-Some.ensures) (subst (IsEntryDraft c.args.entry.now c.in-Some.tag.0) (sym c.in_ok-new.ensures.ok) d.0) c.in-Err.fault c.in-Err.ensures.run)
