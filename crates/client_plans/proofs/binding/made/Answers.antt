use Rattle.std.proofs.Common.{Ok, ap}
use Rattle.routes.specs.Declares.{declaration_plan}
use Rattle.steps.specs.Errands.{Planned}
use Rattle.client_plans.proofs.binding.made.Goals as goal

pub returns : goal.returns
returns c = λ w. record { lawful = tt; errand_is = ap (λ d. Ok (Planned (declaration_plan d))) c.in_ok-new.ensures.ok }
