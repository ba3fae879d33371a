-- What `runs_are_mannered` ensures.
use Rattle.steps_laws.proofs.Said.{run_mannered}
use Rattle.steps_laws.proofs.runs_are_mannered.Goals as goal

pub returns : goal.returns
returns g c = λ clock seed before desk desk2 steps steps2 errand result said run. run_mannered seed before (g.T.Steps.client steps) errand run.trips run.rest said run.lawful run.said.trace
