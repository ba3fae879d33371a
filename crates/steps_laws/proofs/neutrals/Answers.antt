-- What `neutrals` ensures.
use Rattle.steps_laws.proofs.Asides.{all_found, found}
use Rattle.steps_laws.proofs.neutrals.Goals as goal

pub returns : goal.returns
returns g = λ words. (found words, all_found words)
