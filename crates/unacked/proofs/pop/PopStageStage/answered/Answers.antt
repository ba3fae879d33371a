use Rattle.std.proofs.Common.{◌≡◌, ℕ, ap, subst}
use Rattle.store_model.specs.Words.{Words}
use Rattle.unacked.specs.Pops.{HasKept, popping_left}
use Rattle.unacked.specs.Steps.{answered_left, course_left}
use Rattle.unacked.proofs.Pops.{asked_left, step_left}
use Rattle.unacked.proofs.pop.PopStageStage.answered.Goals as goal

pub returns-in-Asking-clause-left : goal.returns-in-Asking-clause-left
returns-in-Asking-clause-left c = asked_left c.popped.result c.args.self.at c.in-Asking.field-0 c.args.answer.now c.in-Asking.is c.popped.ensures.left

pub returns-clause-left : goal.returns-clause-left
returns-clause-left c =
    step_left c.in-Keeping.delivery.value c.in-Keeping.step c.answered.result c.kept.result c.args.self.at c.args.answer.now (ap popping_left c.in-Keeping.is)
    (subst (λ held. HasKept held.value c.answered.result c.kept.result) c.in-Keeping.delivery-is c.kept.ensures)
    (subst (λ step. (index : ℕ → Words) (table : Words) → course_left index table c.answered.result ≡ answered_left index table step c.args.answer.now) c.in-Keeping.step-is c.answered.ensures.left)
