-- By the kinds of commands.
use Rattle.store_laws.proofs.Elsewhere.{elsewhere_apply}
use Rattle.store_laws.proofs.step_law.Goals as goal

pub returns : goal.returns
returns c = λ s at c words. elsewhere_apply s at c words
