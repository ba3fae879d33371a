use Rattle.std.proofs.Common.{arith}
use Rattle.sessions.proofs.Asked.{asked_all}
use Rattle.local_links.specs.LocalTalks.{IsBeginning, desk_goes}
use Rattle.local_links.proofs.asking_all.answer_all.Goals as goal

pub values-preserved : goal.values-preserved
values-preserved c =
    let answers = rw c.in-Ok-true.field-0-test at c.in-Ok-true.ensures.answers in
    record {
      opened = c.in-Ok-true.ensures.open;
      placed = c.in-Ok-true.ensures.placed;
      talks = λ first stream sent s. answers first stream sent (c.values.invariant.talks first stream sent s);
    }

pub returns-in-Ok-false-clause-answers : goal.returns-in-Ok-false-clause-answers
returns-in-Ok-false-clause-answers c =
    let answers = rw c.in-Ok-false.field-0-test at c.in-Ok-false.ensures.answers in
    λ first stream sent s. answers first stream sent (c.values.invariant.talks first stream sent s)

pub returns-in-Err-clause-answers : goal.returns-in-Err-clause-answers
returns-in-Err-clause-answers c = λ first stream sent s. c.in-Err.ensures.answers first stream sent (c.values.invariant.talks first stream sent s)

pub returns-clause-answers : goal.returns-clause-answers
returns-clause-answers c = λ first stream sent s.
    asked_all desk_goes IsBeginning first c.values.desk stream sent c.values.talking c.pending.result (c.values.invariant.talks first stream sent s) c.pending.ensures (omega (arith, c.values-test.false))
