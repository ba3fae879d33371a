-- Maps: what is there after a change, and sums over their entries.
use Rattle.std.proofs.Common.{◌≡◌, ◌≢◌, ◌⊎◌, inl, inr, ℕ, ◌+◌, List, [], ◌∷◌, Bool, true, false, cond, refl, sym, ap, subst, ◌∙◌, arith, None, Some, Option, T}
use Rattle.std.specs.Prelude.{not, is_some, bytes_eq}
use Rattle.std.specs.declared.cmp.Ordering.{Ordering}
use Rattle.std.specs.declared.cmp.Ordering.TheVariants.{Less, Equal, Greater}
use Rattle.std.specs.Ordering.{nat_cmp, eq_by_cmp, is_eq, is_lt}
use Rattle.std.specs.Cmp.{IsTotalOrder}
use Rattle.std.proofs.lemmas.Cmp.{nat_cmp_total}
use Rattle.std.specs.FinMap.{FinMap, get, insert, remove, empty, same_map, entries, entries_sorted, entries-insert, get-entries, get-insert, get-remove, IsAntisymmetric, nat_cmp-IsAntisymmetric, slice_cmp-IsAntisymmetric}
use Rattle.std.specs.FinMap.Entries.{find, put, is_sorted, below_all, by_order}
use Rattle.std.proofs.lemmas.Slice.Eq.{bytes_eq-Decides}
use Rattle.wire_values.specs.Order.{bytes_cmp}
use Rattle.store_tables.proofs.Maps.{bytes_total, bytes_anti}
use Rattle.store_model.specs.Words.{Bytes}

-- the sum of f over entries
abbrev pub total : {K X : Type 0} → (K → X → ℕ) → List (K × X) → ℕ
total f [] = 0
total f (e ∷ es) = f e.0 e.1 + total f es

-- what f gives for what a key has
abbrev pub weight : {K X : Type 0} → (K → X → ℕ) → K → Option X → ℕ
weight f k None = 0
weight f k (Some x) = f k x

equal : (r : Ordering) → is_eq r ≡ true → r ≡ Equal
equal Less p = cc
equal Equal p = refl
equal Greater p = cc

less : (r : Ordering) → T (is_lt r) → r ≡ Less
less Less p = refl
less Equal p = absurd p
less Greater p = absurd p

pub first : (a b : Bool) → T (Rattle.std.specs.Prelude.◌&&◌ a b) → T a
first true b p = tt
first false b p = p

pub second : (a b : Bool) → T (Rattle.std.specs.Prelude.◌&&◌ a b) → T b
second true b p = p
second false b p = absurd p

own_turn : (r : Ordering) → r ≡ Rattle.std.specs.Ordering.ordering_reverse r → r ≡ Equal
own_turn Less e = cc
own_turn Equal e = refl
own_turn Greater e = cc

module _ {K : Type 0} (R : K → K → Ordering) (o : IsTotalOrder R) (anti : IsAntisymmetric R) where
  pub tied_itself : (k : K) → eq_by_cmp R k k ≡ true
  tied_itself k = ap is_eq (own_turn (R k k) (o.antisymm k k))

  pub tied_same : (q k : K) → eq_by_cmp R q k ≡ true → q ≡ k
  tied_same q k e = anti q k (equal (R q k) e)

  pub untied : (q k : K) → q ≢ k → eq_by_cmp R q k ≡ false
  untied q k n = go (eq_by_cmp R q k) refl
    where
      go : (b : Bool) → eq_by_cmp R q k ≡ b → b ≡ false
      go true e = absurd (n (tied_same q k e))
      go false e = refl

  pub decided : (q k : K) → (q ≡ k) ⊎ (q ≢ k)
  decided q k = go (eq_by_cmp R q k) refl
    where
      go : (b : Bool) → eq_by_cmp R q k ≡ b → (q ≡ k) ⊎ (q ≢ k)
      go true e = inl (tied_same q k e)
      go false e = inr (λ s. let t = tied_itself q in let u : eq_by_cmp R q k ≡ true = subst (λ x. eq_by_cmp R q x ≡ true) s t in cc)

module _ {K X : Type 0} (R : K → K → Ordering) (o : IsTotalOrder R) (anti : IsAntisymmetric R) where
  pub get-insert_same : (m : FinMap R X) (k : K) (v : X) → get (insert m k v) k ≡ Some v
  get-insert_same m k v = get-insert o m k v k ∙ ap (λ b. cond b (Some v) (get m k)) (tied_itself R o anti k)

  pub get-insert_other : (m : FinMap R X) (k : K) (v : X) (q : K) → q ≢ k → get (insert m k v) q ≡ get m q
  get-insert_other m k v q n = get-insert o m k v q ∙ ap (λ b. cond b (Some v) (get m q)) (untied R o anti q k n)

  pub get-remove_same : (m : FinMap R X) (k : K) → get (remove m k) k ≡ None
  get-remove_same m k = get-remove o m k k ∙ ap (λ b. cond b None (get m k)) (tied_itself R o anti k)

  pub get-remove_other : (m : FinMap R X) (k q : K) → q ≢ k → get (remove m k) q ≡ get m q
  get-remove_other m k q n = get-remove o m k q ∙ ap (λ b. cond b None (get m q)) (untied R o anti q k n)

  pub below_none : (k : K) (es : List (K × X)) → T (below_all R k es) → find R k es ≡ None
  below_none k [] h = refl
  below_none k (e ∷ es) h = ap (λ r. cond (is_eq r) (Some e.1) (find R k es)) (less _ (first _ _ h)) ∙ below_none k es (second _ _ h)

  pub less_none : (k x : K) (es : List (K × X)) → R k x ≡ Less → T (below_all R x es) → find R k es ≡ None
  less_none k x [] p h = refl
  less_none k x (e ∷ es) p h = ap (λ r. cond (is_eq r) (Some e.1) (find R k es)) (o.trans k x e.0 p (less _ (first _ _ h))) ∙ less_none k x es p (second _ _ h)

  total-put : (f : K → X → ℕ) (k : K) (v : X) (es : List (K × X)) → T (is_sorted R es) → total f (put R k v es) + weight f k (find R k es) ≡ total f es + f k v
  total-put f k v [] h = omega arith
  total-put f k v (e ∷ es) h =
      elim (R k e.0) as (λ r. R k e.0 ≡ r → total f (by_order r ((k, v) ∷ e ∷ es) ((e.0, v) ∷ es) (e ∷ put R k v es)) + weight f k (cond (is_eq r) (Some e.1) (find R k es)) ≡ (f e.0 e.1 + total f es) + f k v) [
        | Less ↦ λ p. let n : weight f k (find R k es) ≡ 0 = ap (weight f k) (less_none k e.0 es p (first _ _ h)) in omega arith
        | Equal ↦ λ p. let s : k ≡ e.0 = anti k e.0 p in let a : f k v ≡ f e.0 v = ap (λ x. f x v) s in let b : f k e.1 ≡ f e.0 e.1 = ap (λ x. f x e.1) s in omega arith
        | Greater ↦ λ p. let r : total f (put R k v es) + weight f k (find R k es) ≡ total f es + f k v = total-put f k v es (second (below_all R e.0 es) (is_sorted R es) h) in omega (arith, r)
      ] refl

  pub total-insert : (f : K → X → ℕ) (m : FinMap R X) (k : K) (v : X) → total f (entries (insert m k v)) + weight f k (get m k) ≡ total f (entries m) + f k v
  total-insert f m k v = rw (entries-insert o m k v, get-entries m k) (total-put f k v (entries m) (entries_sorted m))

  back : (m : FinMap R X) (k : K) (v : X) → get m k ≡ Some v → insert (remove m k) k v ≡ m
  back m k v e = same_map o anti _ _ (λ q. go q (decided R o anti q k))
    where
      go : (q : K) → (q ≡ k) ⊎ (q ≢ k) → get (insert (remove m k) k v) q ≡ get m q
      go q (inl s) = subst (λ x. get (insert (remove m k) k v) x ≡ get m x) (sym s) (get-insert_same (remove m k) k v ∙ sym e)
      go q (inr n) = get-insert_other (remove m k) k v q n ∙ get-remove_other m k q n

  kept_all : (m : FinMap R X) (k : K) → get m k ≡ None → remove m k ≡ m
  kept_all m k e = same_map o anti _ _ (λ q. go q (decided R o anti q k))
    where
      go : (q : K) → (q ≡ k) ⊎ (q ≢ k) → get (remove m k) q ≡ get m q
      go q (inl s) = subst (λ x. get (remove m k) x ≡ get m x) (sym s) (get-remove_same m k ∙ sym e)
      go q (inr n) = get-remove_other m k q n

  pub total-remove : (f : K → X → ℕ) (m : FinMap R X) (k : K) → total f (entries (remove m k)) + weight f k (get m k) ≡ total f (entries m)
  total-remove f m k = go (get m k) refl
    where
      go : (r : Option X) → get m k ≡ r → total f (entries (remove m k)) + weight f k r ≡ total f (entries m)
      go None e = let s : total f (entries (remove m k)) ≡ total f (entries m) = ap (λ x. total f (entries x)) (kept_all m k e) in omega arith
      go (Some v) e =
          let s : total f (entries (insert (remove m k) k v)) ≡ total f (entries m) = ap (λ x. total f (entries x)) (back m k v e) in
          let t = total-insert f (remove m k) k v in
          let u : weight f k (get (remove m k) k) ≡ 0 = ap (weight f k) (get-remove_same m k) in
          omega arith

pub same-refl : (a : Bytes) → bytes_eq a a ≡ true
same-refl a = (bytes_eq-Decides a a).1 refl

pub same_true : (a b : Bytes) → bytes_eq a b ≡ true → a ≡ b
same_true a b e = (bytes_eq-Decides a b).0 e

pub same_false : (a b : Bytes) → a ≢ b → bytes_eq a b ≡ false
same_false a b n = go (bytes_eq a b) refl
  where
    go : (r : Bool) → bytes_eq a b ≡ r → r ≡ false
    go true e = absurd (n (same_true a b e))
    go false e = refl

pub same_or : (a b : Bytes) → (a ≡ b) ⊎ (a ≢ b)
same_or a b = decided bytes_cmp bytes_total bytes_anti a b

pub conn_or : (a b : ℕ) → (a ≡ b) ⊎ (a ≢ b)
conn_or a b = decided nat_cmp nat_cmp_total nat_cmp-IsAntisymmetric a b
