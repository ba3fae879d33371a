use Rattle.schedule_laws.proofs.Steps.{ends, runs}
use Rattle.schedule_laws.proofs.runs_are_steps.Goals as goal

pub returns-clause-steps : goal.returns-clause-steps
returns-clause-steps c = runs

pub returns-clause-ends : goal.returns-clause-ends
returns-clause-ends c = ends
