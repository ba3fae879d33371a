use Rattle.unacked.proofs.Steps.{run_told}
use Rattle.unacked.proofs.step.Step.answered.Goals as goal

pub returns-in-Run-clause-ran : goal.returns-in-Run-clause-ran
returns-in-Run-clause-ran c = run_told c.args.answer.now c.ran.result c.ran.ensures
