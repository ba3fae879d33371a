-- What `errands_begin` ensures.
use Rattle.steps_laws.proofs.Said.{errand_front, errand_off}
use Rattle.steps_laws.proofs.errands_begin.Goals as goal

pub returns : goal.returns
returns g = λ c errand calls left lawful t. (errand_front c errand lawful calls left t, errand_off c errand calls left t)
