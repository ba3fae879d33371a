use Rattle.passes.specs.declared.passing.Passing.TheVariants.{Lock, Range, Returning, Releasing}
use Rattle.passes.proofs.Going.{moved_left, moved_tells, stage_left, stage_tells, stages_left, stages_tell}
use Rattle.passes.proofs.pass.PassStageStage.answered.Goals as goal

pub returns-in-Lock-clause-left : goal.returns-in-Lock-clause-left
returns-in-Lock-clause-left c = stage_left c.locked.result c.args.self Lock c.args.answer.now c.in-Lock.is c.locked.ensures.left

pub returns-in-Lock-clause-tells : goal.returns-in-Lock-clause-tells
returns-in-Lock-clause-tells c = stage_tells c.locked.result c.args.self Lock c.args.answer.now c.in-Lock.is c.locked.ensures.tells

pub returns-in-Range-clause-left : goal.returns-in-Range-clause-left
returns-in-Range-clause-left c = stages_left c.ranged.result c.args.self Range c.args.answer.now c.in-Range.is c.ranged.ensures.left

pub returns-in-Range-clause-tells : goal.returns-in-Range-clause-tells
returns-in-Range-clause-tells c = stages_tell c.ranged.result c.args.self Range c.args.answer.now c.in-Range.is c.ranged.ensures.tells

pub returns-in-Returning-clause-left : goal.returns-in-Returning-clause-left
returns-in-Returning-clause-left c =
    stages_left c.tried.result c.args.self (Returning c.in-Returning.trying c.in-Returning.returns) c.args.answer.now c.in-Returning.is
    (moved_left c.tried.result c.args.self.terms c.args.answer.now _ _ _ _ c.in-Returning.trying-is c.in-Returning.returns-is c.tried.ensures.left)

pub returns-in-Returning-clause-tells : goal.returns-in-Returning-clause-tells
returns-in-Returning-clause-tells c =
    stages_tell c.tried.result c.args.self (Returning c.in-Returning.trying c.in-Returning.returns) c.args.answer.now c.in-Returning.is
    (moved_tells c.tried.result c.args.answer.now _ _ _ _ c.in-Returning.trying-is c.in-Returning.returns-is c.tried.ensures.tells)

pub returns-in-Releasing-clause-left : goal.returns-in-Releasing-clause-left
returns-in-Releasing-clause-left c = stage_left c.released.result c.args.self (Releasing c.in-Releasing.release c.in-Releasing.end) c.args.answer.now c.in-Releasing.is c.released.ensures.left

pub returns-in-Releasing-clause-tells : goal.returns-in-Releasing-clause-tells
returns-in-Releasing-clause-tells c = stage_tells c.released.result c.args.self (Releasing c.in-Releasing.release c.in-Releasing.end) c.args.answer.now c.in-Releasing.is c.released.ensures.tells
