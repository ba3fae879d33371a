use Rattle.std.proofs.Common.{◌++◌, ◌∷◌, [], Ok, arith, subst, ◌∙◌}
use Rattle.steps.specs.Trips.{trip}
use Rattle.block_runs.specs.Runs.{HasSaidNext}
use Rattle.block_runs.proofs.Told.{earlier_kind, had_more, handed_kind, rest_stops, said_on}
use Rattle.block_runs.proofs.saying.say_all.Goals as goal

pub returns-in_err-is_on-clause-said : goal.returns-in_err-is_on-clause-said
returns-in_err-is_on-clause-said g c =
    let i = c.more.invariant in
    rest_stops g.D.Desk.goes g.met.D.Desk.joins (g.C.Clock.gives c.args.clock.now) g.D.Desk.fault g.D.Desk.stopped g.T.Steps.left g.T.Steps.had g.T.Steps.ended
    c.args.desk.now c.more.desk c.say_next.new.desk c.args.steps.now c.more.steps c.say_next.new.steps c.store_moment-at.result i.said.0 c.in_err-is_on.field-0.0 c.from_residual.result c.from_residual.ensures.1
    c.store_moment-at.ensures.small (c.now.result, c.now.ensures, c.store_moment-at.ensures.moment) i.said.1 i.on c.in_err-is_on.ensures.said

pub more-preserved : goal.more-preserved
more-preserved g c =
    let i = c.more.invariant in
    let gives = g.C.Clock.gives c.args.clock.now in
    let n = subst (λ b. HasSaidNext g.D.Desk.goes g.D.Desk.fault g.D.Desk.stopped g.T.Steps.left g.T.Steps.had g.T.Steps.ended c.store_moment-at.result c.more.desk c.say_next.new.desk c.more.steps c.say_next.new.steps (Ok b)) c.if-not-is_on.false c.in_ok-is_on.ensures.said in
    let s = said_on g.D.Desk.goes g.met.D.Desk.joins gives g.T.Steps.left c.args.desk.now c.more.desk c.say_next.new.desk c.args.steps.now c.more.steps c.say_next.new.steps c.store_moment-at.result i.said.0 n.0 n.1 c.store_moment-at.ensures.small (c.now.result, c.now.ensures, c.store_moment-at.ensures.moment) i.said.1 n.2 n.4.left_is in
    record {
      said = (i.said.0 ++ trip c.store_moment-at.result n.0 n.1 ∷ [], s, had_more g.T.Steps.had c.args.steps.now c.more.steps c.say_next.new.steps i.said.0 (trip c.store_moment-at.result n.0 n.1 ∷ []) i.said.2 n.4.more);
      is_open = n.3;
      client = c.in_ok-is_on.ensures.client ∙ i.client;
      on = n.4.on;
      counts = record { later_faults = omega (arith, i.counts.later_faults, c.in_ok-is_on.ensures.counts.later_faults); later_ends = omega (arith, i.counts.later_ends, c.in_ok-is_on.ensures.counts.later_ends) };
      end = n.4.end;
    }

pub returns-in_err-is_on-clause-kinds : goal.returns-in_err-is_on-clause-kinds
returns-in_err-is_on-clause-kinds g c =
    let i = c.more.invariant in
    let faults = g.D.Desk.faults in
    let ends = g.D.Desk.ends in
    handed_kind g.D.Desk.remote g.D.Desk.shared (faults c.args.desk.now) (faults c.say_next.new.desk) (ends c.args.desk.now) (ends c.say_next.new.desk) c.in_err-is_on.field-0.0 c.from_residual.result c.from_residual.ensures.1
    (earlier_kind g.D.Desk.remote g.D.Desk.shared (faults c.args.desk.now) (faults c.more.desk) (faults c.say_next.new.desk) (ends c.args.desk.now) (ends c.more.desk) (ends c.say_next.new.desk) c.in_err-is_on.field-0.0 i.counts.later_faults i.counts.later_ends c.in_err-is_on.ensures.kinds)
