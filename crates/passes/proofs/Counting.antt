-- Counting returns.
use Rattle.std.proofs.Common.{◌≡◌, ◌+◌, List, [], ◌∷◌, ◌++◌, refl, ap, ◌∙◌, arith}
use Rattle.returns.specs.declared.returned.Returned.{Returned}
use Rattle.returns.specs.declared.returned.Returned.TheVariants.{Moved, Gone, Stayed, Contended}
use Rattle.passes.specs.Counts.{counted, returned_count, tally}
use Rattle.passes.specs.Told.{IsOn}
use Rattle.passes.specs.declared.counts.Counts.{Counts}

-- two returns are counted in any order
counted_both : (e f : Returned) (c : Counts) → counted e (counted f c) ≡ counted f (counted e c)
counted_both Moved Moved c = refl
counted_both Moved Gone c = refl
counted_both Moved Stayed c = refl
counted_both Moved (Contended tag) c = refl
counted_both Gone Moved c = refl
counted_both Gone Gone c = refl
counted_both Gone Stayed c = refl
counted_both Gone (Contended tag) c = refl
counted_both Stayed Moved c = refl
counted_both Stayed Gone c = refl
counted_both Stayed Stayed c = refl
counted_both Stayed (Contended tag) c = refl
counted_both (Contended tag) Moved c = refl
counted_both (Contended tag) Gone c = refl
counted_both (Contended tag) Stayed c = refl
counted_both (Contended tag) (Contended other) c = refl

-- one more return at the end
pub tally_more : (ends : List Returned) (e : Returned) → tally (ends ++ e ∷ []) ≡ counted e (tally ends)
tally_more [] e = refl
tally_more (f ∷ ends) e = ap (counted f) (tally_more ends e) ∙ counted_both f e (tally ends)

pub one_more : (e : Returned) (c : Counts) → IsOn e → returned_count (counted e c) ≡ returned_count c + 1
one_more Moved c on = omega arith
one_more Gone c on = omega arith
one_more Stayed c on = omega arith
one_more (Contended tag) c on = absurd on
