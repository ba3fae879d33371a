use Rattle.std.proofs.Common.{arith}
use Rattle.sessions.proofs.Asked.{asked_all}
use Rattle.sessions.proofs.talking.answer_all.Goals as goal

pub values-preserved : goal.values-preserved
values-preserved g c =
    let answers = rw c.in-Ok-true.field-0-test at c.in-Ok-true.ensures.answers in
    record {
      opened = c.in-Ok-true.ensures.open;
      placed = c.in-Ok-true.ensures.placed;
      talks = λ first stream sent s. answers first stream sent (c.values.invariant.talks first stream sent s);
    }

pub returns-in-Ok-false-clause-answers : goal.returns-in-Ok-false-clause-answers
returns-in-Ok-false-clause-answers g c =
    let answers = rw c.in-Ok-false.field-0-test at c.in-Ok-false.ensures.answers in
    λ first stream sent s. answers first stream sent (c.values.invariant.talks first stream sent s)

pub returns-in-Err-clause-answers : goal.returns-in-Err-clause-answers
returns-in-Err-clause-answers g c = λ first stream sent s. c.in-Err.ensures.answers first stream sent (c.values.invariant.talks first stream sent s)

pub returns-clause-answers : goal.returns-clause-answers
returns-clause-answers g c = λ first stream sent s.
    asked_all g.D.Desk.goes (g.C.Clock.gives c.args.clock.now) first c.values.desk stream sent c.values.talking c.pending.result (c.values.invariant.talks first stream sent s) c.pending.ensures (omega (arith, c.values-test.false))
