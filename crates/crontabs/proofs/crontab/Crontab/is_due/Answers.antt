use Rattle.std.proofs.Common.{◌≡◌, ◌+◌, ◌/◌, ◌<◌, min, leb, arith, false, sym, subst, IsTrue, ◌↔◌, ◌∙◌}
use Rattle.std.proofs.lemmas.Bool.Decides.{nat_tests}
use Rattle.crontabs.specs.Crontabs.{IsCronDue}
use Rattle.crontabs.specs.Found.{SomeMinute}
use Rattle.crontabs.proofs.Searches.{due_found, lesser, not_due}
use Rattle.crontabs.proofs.crontab.Crontab.is_due.Goals as goal

pub returns-then-first-latest : goal.returns-then-first-latest
returns-then-first-latest c =
    due_found c.args.self.now c.args.last c.args.now c.some_between.result
    (subst (λ b. IsTrue c.some_between.result ↔ SomeMinute c.args.self.now (c.args.last / 60 + 1) b) (c.min-latest.ensures ∙ lesser (c.args.now / 60) 4223371679) c.some_between.ensures)

pub returns-else-first-latest : goal.returns-else-first-latest
returns-else-first-latest c =
    let latest : c.min-latest.result ≡ min (c.args.now / 60) 4223371679 = c.min-latest.ensures ∙ lesser (c.args.now / 60) 4223371679 in
    let out : leb (c.args.last / 60 + 1) c.min-latest.result ≡ false = grind (arith, nat_tests, c.if-first-latest.false) in
    let none : min (c.args.now / 60) 4223371679 < c.args.last / 60 + 1 = omega (arith, latest, c.if-first-latest.false) in
    subst (λ r. IsTrue r ↔ IsCronDue c.args.self.now c.args.last c.args.now) (sym out) (not_due c.args.self.now c.args.last c.args.now none)
