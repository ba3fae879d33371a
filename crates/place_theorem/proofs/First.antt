-- The least key with a weight.
use Rattle.std.proofs.Common.{◌+◌, Bool, Equal, Greater, Less, List, None, Option, Ordering, Some, T, [], ap, arith, cond, false, is_eq, refl, suc, sym, true, zero, ℕ, ◌∙◌, ◌∷◌, ◌≡◌, ◌≤◌}
use Rattle.std.specs.Cmp.{IsTotalOrder}
use Rattle.std.specs.FinMap.{FinMap, IsAntisymmetric, entries, entries-insert, entries_sorted, get, get-entries, insert}
use Rattle.std.specs.FinMap.Entries.{by_order, find, is_sorted, put}
use Rattle.std.specs.Ordering.{eq_by_cmp}
use Rattle.store_laws.proofs.Maps.{first, less_none, second, tied_same}
use Rattle.place_model.specs.Counts.{total}
use Rattle.queue_keys.specs.Names.{same}
use Rattle.place_model.specs.PlaceOf.{first_with, pick}

pick_zero : {K : Type 0} (n : ℕ) (k : K) (o : Option K) → n ≡ 0 → pick n k o ≡ o
pick_zero zero k o e = refl
pick_zero (suc n) k o e = absurd (omega (arith, e))

-- where nothing weighs there is no first
pub first_none : {K X : Type 0} (f : K → X → ℕ) (es : List (K × X)) → total f es ≡ 0 → first_with f es ≡ None
first_none f [] z = refl
first_none f (e ∷ es) z =
    let a : f e.0 e.1 ≡ 0 = omega (arith, z) in
    let b : total f es ≡ 0 = omega (arith, z) in
    pick_zero (f e.0 e.1) e.0 (first_with f es) a ∙ first_none f es b

module _ {K X : Type 0} (R : K → K → Ordering) (o : IsTotalOrder R) (anti : IsAntisymmetric R) where
  found_part : (f : K → X → ℕ) (c : K) (x : X) (es : List (K × X)) → find R c es ≡ Some x → f c x ≤ total f es
  found_part f c x [] e = absurd (cc e)
  found_part f c x (y ∷ es) e = go (λ z. found_part f c x es z) (eq_by_cmp R c y.0) refl e
    where
      go : (find R c es ≡ Some x → f c x ≤ total f es) → (b : Bool) → eq_by_cmp R c y.0 ≡ b → cond b (Some y.1) (find R c es) ≡ Some x → f c x ≤ f y.0 y.1 + total f es
      go rest true same is =
          let a : y.1 ≡ x = cc is in
          let k : c ≡ y.0 = tied_same R o anti c y.0 same in
          let n : f c x ≡ f y.0 y.1 = ap (λ z. f z x) k ∙ ap (f y.0) (sym a) in
          omega (arith, n)
      go rest false same is = let r = rest is in omega (arith, r)

  only_list : (f : K → X → ℕ) (c : K) (x : X) (es : List (K × X)) → find R c es ≡ Some x → f c x ≡ 1 → total f es ≡ 1 → first_with f es ≡ Some c
  only_list f c x [] e one all = absurd (cc e)
  only_list f c x (y ∷ es) e one all = go (λ z n. only_list f c x es z one n) (eq_by_cmp R c y.0) refl e (f y.0 y.1) refl
    where
      go : (find R c es ≡ Some x → total f es ≡ 1 → first_with f es ≡ Some c) → (b : Bool) → eq_by_cmp R c y.0 ≡ b → cond b (Some y.1) (find R c es) ≡ Some x → (n : ℕ) → f y.0 y.1 ≡ n → pick n y.0 (first_with f es) ≡ Some c
      go rest true same is zero n =
          let a : y.1 ≡ x = cc is in
          let k : c ≡ y.0 = tied_same R o anti c y.0 same in
          let m : f c x ≡ f y.0 y.1 = ap (λ z. f z x) k ∙ ap (f y.0) (sym a) in
          absurd (omega (arith, m, n, one))
      go rest true same is (suc p) n = ap (λ z. Some z) (sym (tied_same R o anti c y.0 same))
      go rest false same is zero n = rest is (omega (arith, all, n))
      go rest false same is (suc p) n = let r = found_part f c x es is in absurd (omega (arith, r, one, all, n))

  -- the whole sum is one, and it is that of c
  pub first_only : (f : K → X → ℕ) (m : FinMap R X) (c : K) (x : X) → get m c ≡ Some x → f c x ≡ 1 → total f (entries m) ≡ 1 → first_with f (entries m) ≡ Some c
  first_only f m c x e one all = only_list f c x (entries m) (sym (get-entries m c) ∙ e) one all

  put_same : (f : K → X → ℕ) (c : K) (old new : X) (es : List (K × X)) → T (is_sorted R es) → find R c es ≡ Some old → f c new ≡ f c old → first_with f (put R c new es) ≡ first_with f es
  put_same f c old new [] s e w = absurd (cc e)
  put_same f c old new (y ∷ es) s e w = go (λ z. put_same f c old new es (second _ _ s) z w) (R c y.0) refl e
    where
      go : (find R c es ≡ Some old → first_with f (put R c new es) ≡ first_with f es) → (r : Ordering) → R c y.0 ≡ r → cond (is_eq r) (Some y.1) (find R c es) ≡ Some old → first_with f (by_order r ((c, new) ∷ y ∷ es) ((y.0, new) ∷ es) (y ∷ put R c new es)) ≡ pick (f y.0 y.1) y.0 (first_with f es)
      go rest Less p is = let n = less_none R o anti c y.0 es p (first _ _ s) in absurd (cc (n, is))
      go rest Equal p is =
          let k : c ≡ y.0 = anti c y.0 p in
          let a : y.1 ≡ old = cc is in
          let n : f y.0 new ≡ f y.0 y.1 = ap (λ z. f z new) (sym k) ∙ w ∙ ap (λ z. f z old) k ∙ ap (f y.0) (sym a) in
          ap (λ z. pick z y.0 (first_with f es)) n
      go rest Greater p is = ap (pick (f y.0 y.1) y.0) (rest is)

  -- another value of the same weight
  pub first_same : (f : K → X → ℕ) (m : FinMap R X) (c : K) (old new : X) → get m c ≡ Some old → f c new ≡ f c old → first_with f (entries (insert m c new)) ≡ first_with f (entries m)
  first_same f m c old new e w = ap (first_with f) (entries-insert o m c new) ∙ put_same f c old new (entries m) (entries_sorted m) (sym (get-entries m c) ∙ e) w
