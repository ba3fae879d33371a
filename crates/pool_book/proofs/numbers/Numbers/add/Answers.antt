use Rattle.std.proofs.Common.{◌≡◌, ◌∙◌, ◌∷◌, [], ◌++◌, true, nat_le, sym, ap, subst}
use Rattle.std.specs.List.{list_all}
use Rattle.pool_book.proofs.Topped.{with_one}
use Rattle.pool_book.proofs.numbers.Numbers.add.Goals as goal

pub invariant_of-self-2 : goal.invariant_of-self-2
invariant_of-self-2 c =
    ap (list_all (λ m. nat_le m c.max-self-inside.result)) c.in_ok-push.ensures.items
    ∙ subst (λ t. list_all (λ m. nat_le m t) (c.self.inside.kept.items ++ c.args.number ∷ []) ≡ true) (sym c.max-self-inside.ensures) (with_one c.self.inside.top c.args.number c.self.inside.kept.items c.self.invariant)
