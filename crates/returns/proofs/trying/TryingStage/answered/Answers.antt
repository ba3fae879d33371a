use Rattle.returns.proofs.Told.{plan_tells}
use Rattle.returns.proofs.trying.TryingStage.answered.Goals as goal

pub returns-clause-tells : goal.returns-clause-tells
returns-clause-tells c = plan_tells c.took.result c.args.self c.args.answer.now c.took.ensures.tells
