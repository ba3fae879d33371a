use Rattle.std.proofs.Common.{◌∙◌, ap, subst, sym, IfSome}
use Rattle.steps.specs.Ends.{TellsOfErrand}
use Rattle.client_core.proofs.Works.{client_tells}
use Rattle.client_core.specs.Works.{live_end}
use Rattle.client_core.proofs.client.ClientCoreSteps.end.Goals as goal

pub returns-clause-tells : goal.returns-clause-tells
returns-clause-tells c = λ client errand trips had.
    subst (λ o. IfSome o (TellsOfErrand errand trips)) (ap (λ b. live_end b c.args.self.now.work) had.live ∙ sym c.end.ensures.given) (client_tells c.args.self.now client errand trips had)
