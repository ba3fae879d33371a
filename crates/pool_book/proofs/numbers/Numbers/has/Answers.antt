use Rattle.std.proofs.Common.{◌≡◌, ◌∙◌, ◌<◌, arith, sym, ap}
use Rattle.std.proofs.lemmas.Bool.Decides.{nat_tests}
use Rattle.pool_book.specs.Books.{was_put}
use Rattle.pool_book.proofs.Topped.{above_all}
use Rattle.pool_book.proofs.numbers.Numbers.has.Goals as goal

pub returns-then-number-self : goal.returns-then-number-self
returns-then-number-self c =
    let up : c.self.inside.top < c.args.number = grind (arith, nat_tests, c.if-number-self.true) in
    sym (ap (was_put c.args.number) (sym c.self.view_is) ∙ above_all c.self.inside.top c.args.number c.self.inside.kept.items up c.self.invariant)
