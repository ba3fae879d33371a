-- The map without the entries that are due, and what that does to sums.
use Rattle.std.proofs.Common.{◌≡◌, ◌≢◌, ◌⊎◌, inl, inr, ℕ, ◌+◌, List, [], ◌∷◌, ◌++◌, Bool, true, false, cond, refl, sym, ap, subst, ◌∙◌, arith, None, Some, Option}
use Rattle.std.specs.Prelude.{not, ◌||◌, is_some}
use Rattle.std.specs.List.{list_any}
use Rattle.std.specs.declared.cmp.Ordering.{Ordering}
use Rattle.std.specs.Ordering.{eq_by_cmp}
use Rattle.std.specs.Cmp.{IsTotalOrder}
use Rattle.std.specs.FinMap.{FinMap, get, remove, retain_keys, entries, keys, get-retain_keys, same_map, contains_key-keys, from_sorted, entries-from_sorted, get-from_sorted, IsAntisymmetric}
use Rattle.store_laws.proofs.Maps.{total}
use Rattle.store_laws.proofs.Maps.{weight, decided, untied, get-remove_same, get-remove_other, total-remove}

any-append : {K : Type 0} (p : K → Bool) (xs ys : List K) → list_any p (xs ++ ys) ≡ (list_any p xs || list_any p ys)
any-append p [] ys = refl
any-append p (x ∷ xs) ys = go (p x) (any-append p xs ys)
  where
    go : (b : Bool) → list_any p (xs ++ ys) ≡ (list_any p xs || list_any p ys) → (b || list_any p (xs ++ ys)) ≡ ((b || list_any p xs) || list_any p ys)
    go true h = refl
    go false h = h

left : (a b : Bool) → (a || b) ≡ false → a ≡ false
left true b e = cc e
left false b e = refl

right : (a b : Bool) → (a || b) ≡ false → b ≡ false
right true b e = cc e
right false b e = e

module _ {K X : Type 0} (R : K → K → Ordering) (o : IsTotalOrder R) (anti : IsAntisymmetric R) where
  -- ---- a sum is determined by the weights

  -- each key of the map is among these
  abbrev Within : List K → FinMap R X → Type 0
  Within ks m = (q : K) → list_any (eq_by_cmp R q) ks ≡ false → get m q ≡ None

  within-remove : (k : K) (ks : List K) (m : FinMap R X) → Within (k ∷ ks) m → Within ks (remove m k)
  within-remove k ks m w q n = go (decided R o anti q k)
    where
      go : (q ≡ k) ⊎ (q ≢ k) → get (remove m k) q ≡ None
      go (inl e) = subst (λ x. get (remove m k) x ≡ None) (sym e) (get-remove_same R o anti m k)
      go (inr ne) = get-remove_other R o anti m k q ne ∙ w q ((λ i. untied R o anti q k ne i || n i))

  same-remove : (f : K → X → ℕ) (k : K) (m n : FinMap R X) → ((q : K) → weight f q (get m q) ≡ weight f q (get n q)) → (q : K) → weight f q (get (remove m k) q) ≡ weight f q (get (remove n k) q)
  same-remove f k m n same q = go (decided R o anti q k)
    where
      go : (q ≡ k) ⊎ (q ≢ k) → weight f q (get (remove m k) q) ≡ weight f q (get (remove n k) q)
      go (inl e) = subst (λ x. weight f x (get (remove m k) x) ≡ weight f x (get (remove n k) x)) (sym e)
          (ap (weight f k) (get-remove_same R o anti m k) ∙ sym (ap (weight f k) (get-remove_same R o anti n k)))
      go (inr ne) = ap (weight f q) (get-remove_other R o anti m k q ne) ∙ same q ∙ sym (ap (weight f q) (get-remove_other R o anti n k q ne))

  none_total : (f : K → X → ℕ) (m : FinMap R X) → Within [] m → total f (entries m) ≡ 0
  none_total f m w =
      let same : from_sorted {R = R} [] ≡ m = same_map o anti _ _ (λ q. get-from_sorted R [] q tt ∙ sym (w q refl)) in
      ap (λ x. total f (entries x)) (sym same) ∙ ap (total f) (entries-from_sorted R [] tt)

  same_within : (f : K → X → ℕ) (ks : List K) (m n : FinMap R X) → Within ks m → Within ks n → ((q : K) → weight f q (get m q) ≡ weight f q (get n q)) → total f (entries m) ≡ total f (entries n)
  same_within f [] m n wm wn same = none_total f m wm ∙ sym (none_total f n wn)
  same_within f (k ∷ ks) m n wm wn same =
      let r = same_within f ks (remove m k) (remove n k) (within-remove k ks m wm) (within-remove k ks n wn) (same-remove f k m n same) in
      let a : total f (entries (remove m k)) + weight f k (get m k) ≡ total f (entries m) = total-remove R o anti f m k in
      let b : total f (entries (remove n k)) + weight f k (get n k) ≡ total f (entries n) = total-remove R o anti f n k in
      omega (arith, r, a, b, same k)

  none_of : (x : Option X) → is_some x ≡ false → x ≡ None
  none_of None e = refl
  none_of (Some x) e = cc e

  within_left : (m n : FinMap R X) → Within (keys m ++ keys n) m
  within_left m n q e = none_of (get m q) (contains_key-keys m q ∙ left _ _ (sym (any-append (eq_by_cmp R q) (keys m) (keys n)) ∙ e))

  within_right : (m n : FinMap R X) → Within (keys m ++ keys n) n
  within_right m n q e = none_of (get n q) (contains_key-keys n q ∙ right _ _ (sym (any-append (eq_by_cmp R q) (keys m) (keys n)) ∙ e))

  -- two maps with the same weights have the same sums
  pub total-same : (f : K → X → ℕ) (m n : FinMap R X) → ((q : K) → weight f q (get m q) ≡ weight f q (get n q)) → total f (entries m) ≡ total f (entries n)
  total-same f m n same = same_within f (keys m ++ keys n) m n (within_left m n) (within_right m n) same

  -- ---- what isn't due

  abbrev pub due_in : (X → Bool) → Option X → Bool
  due_in due None = false
  due_in due (Some x) = due x

  abbrev pub live : (X → Bool) → FinMap R X → FinMap R X
  live due m = retain_keys m (λ k. not (due_in due (get m k)))

  abbrev pub kept_if : (X → Bool) → Option X → Option X
  kept_if due x = cond (not (due_in due x)) x None

  pub get-live : (due : X → Bool) (m : FinMap R X) (q : K) → get (live due m) q ≡ kept_if due (get m q)
  get-live due m q = get-retain_keys m (λ k. not (due_in due (get m k))) q (λ x t. ap (λ y. not (due_in due (get m y))) (sym (anti q x t)))

  -- entries of weight 0 alone are due: the sums stay
  pub total-live : (f : K → X → ℕ) (due : X → Bool) (m : FinMap R X) → ((q : K) → due_in due (get m q) ≡ true → weight f q (get m q) ≡ 0) → total f (entries (live due m)) ≡ total f (entries m)
  total-live f due m light = total-same f (live due m) m (λ q. ap (weight f q) (get-live due m q) ∙ go q (due_in due (get m q)) refl)
    where
      go : (q : K) (b : Bool) → due_in due (get m q) ≡ b → weight f q (cond (not b) (get m q) None) ≡ weight f q (get m q)
      go q true e = sym (light q e)
      go q false e = refl
