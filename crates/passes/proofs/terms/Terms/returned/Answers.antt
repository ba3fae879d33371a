use Rattle.std.proofs.Common.{subst, sym}
use Rattle.passes.specs.Passes.{HasEnded, PassHad}
use Rattle.passes.proofs.Telling.{one_stuck}
use Rattle.passes.proofs.terms.Terms.returned.Goals as goal

pub returns-in-Contended-clause-had : goal.returns-in-Contended-clause-had
returns-in-Contended-clause-had c calls h =
    subst (λ s. PassHad calls s) (sym c.releases.ensures) (one_stuck c.args.returns c.in-Contended.tag calls (subst (λ e. HasEnded c.args.returns e calls) c.in-Contended.is h))

pub returns-in-Moved-clause-had : goal.returns-in-Moved-clause-had
returns-in-Moved-clause-had c calls h = c.further.ensures.had calls (subst (λ e. HasEnded c.args.returns e calls) c.in-Moved.is h)

pub returns-in-Gone-clause-had : goal.returns-in-Gone-clause-had
returns-in-Gone-clause-had c calls h = c.further-in-Gone.ensures.had calls (subst (λ e. HasEnded c.args.returns e calls) c.in-Gone.is h)

pub returns-in-Stayed-clause-had : goal.returns-in-Stayed-clause-had
returns-in-Stayed-clause-had c calls h = c.further-in-Stayed.ensures.had calls (subst (λ e. HasEnded c.args.returns e calls) c.in-Stayed.is h)
