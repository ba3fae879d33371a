use Rattle.unacked.proofs.Ends.{ran_tells}
use Rattle.unacked.proofs.end.EndStageStage.answered.Goals as goal

pub returns-in-Ran-clause-tells : goal.returns-in-Ran-clause-tells
returns-in-Ran-clause-tells c plan calls last is h = ran_tells calls last c.args.answer.now c.in-Ran.removed is c.in-Ran.ensures.ran
