use Rattle.serving_laws.proofs.Histories.{serving}
use Rattle.serving_laws.proofs.serving_is_a_history.Goals as goal

pub returns : goal.returns
returns g c = λ clock turns m left closed closed2 ends all. serving (g.C.Clock.gives clock) turns m left closed closed2 ends all
