-- Tests of numbers, texts and steps.
use Rattle.std.proofs.Common.{◌≡◌, ℕ, [], ◌∷◌, ◌++◌, Bool, true, false, not, ◌&&◌, ◌||◌, ◌==◌, refl, None, Some}
use Rattle.std.specs.Ordering.{nat_cmp}
use Rattle.std.specs.Cmp.Lexicographic.{slice_cmp}
use Rattle.std.specs.Cmp.{IsTotalOrder}
use Rattle.std.proofs.lemmas.Cmp.{nat_list_cmp_total}
use Rattle.std.proofs.lemmas.Bool.Decides.{Decides-eqb}
use Rattle.std.proofs.lemmas.Slice.Eq.{bytes_eq-Decides}
use Rattle.std.specs.FinMap.{IsAntisymmetric, nat_cmp-IsAntisymmetric, slice_cmp-IsAntisymmetric}
use Rattle.queue_keys.specs.Names.{Bytes, same, has_front}

pub bytes_total : IsTotalOrder (slice_cmp nat_cmp)
bytes_total = nat_list_cmp_total

pub bytes_anti : IsAntisymmetric (slice_cmp nat_cmp)
bytes_anti = slice_cmp-IsAntisymmetric nat_cmp-IsAntisymmetric

pub same-refl : (a : Bytes) → same a a ≡ true
unfolding same
same-refl a = (bytes_eq-Decides a a).1 refl

pub same_true : (a b : Bytes) → same a b ≡ true → a ≡ b
unfolding same
same_true a b e = (bytes_eq-Decides a b).0 e

pub same_false : (a b : Bytes) → (a ≡ b → ⊥) → same a b ≡ false
same_false a b n = go (same a b) refl
  where
    go : (t : Bool) → same a b ≡ t → t ≡ false
    go true e = absurd (n (same_true a b e))
    go false e = refl

pub and_true : (a b : Bool) → (a && b) ≡ true → (a ≡ true) × (b ≡ true)
and_true true b e = (refl, e)
and_true false b e = cc

pub or_false : (a b : Bool) → (a || b) ≡ false → (a ≡ false) × (b ≡ false)
or_false true b e = cc
or_false false b e = (refl, e)

pub not_true : (a : Bool) → not a ≡ true → a ≡ false
not_true true e = cc
not_true false e = refl

pub eqb-refl : (n : ℕ) → (n == n) ≡ true
eqb-refl n = (Decides-eqb n n).1 refl

pub eqb_true : (m n : ℕ) → (m == n) ≡ true → m ≡ n
eqb_true m n e = (Decides-eqb m n).0 e

pub false_true : {P : Type 0} → false ≡ true → P
false_true e = cc

pub none_some : {A : Type 0} (P : Type 0) (x : A) → None ≡ Some x → P
none_some P x e = cc

-- ---- fronts

pub has_front-front : (p k : Bytes) → has_front p (p ++ k) ≡ true
has_front-front [] k = refl
has_front-front (x ∷ p) k = rw (eqb-refl x) (has_front-front p k)
