use Rattle.std.proofs.Common.{◌++◌, ◌∷◌, [], subst, sym}
use Rattle.passes.specs.Passes.{PassHad}
use Rattle.passes.proofs.Telling.{still_tells}
use Rattle.passes.proofs.terms.Terms.released.Goals as goal

pub returns-in-Next-clause-tells : goal.returns-in-Next-clause-tells
returns-in-Next-clause-tells c calls last e had = subst (λ s. PassHad (calls ++ last ∷ []) s) (sym c.at.ensures) (still_tells calls last c.args.end had)

pub returns-in-Over-clause-tells : goal.returns-in-Over-clause-tells
returns-in-Over-clause-tells c calls last e had = still_tells calls last c.args.end had
