-- Maps by numbers: what is there after a change.
use Rattle.std.proofs.Common.{◌≡◌, ◌≢◌, ◌⊎◌, inl, inr, ℕ, true, false, cond, None, Some, ap, sym, ◌∙◌, arith}
use Rattle.std.specs.Ordering.{nat_cmp, eq_by_cmp}
use Rattle.std.specs.FinMap.{FinMap, get, insert, get-insert, same_map, nat_cmp-IsAntisymmetric}
use Rattle.std.proofs.lemmas.Cmp.{nat_cmp_total}
use Rattle.std.proofs.lemmas.Grind.{common_steps}

-- equal or not
pub same_or : (a b : ℕ) → (a ≡ b) ⊎ (a ≢ b)
same_or a b = grind (arith, common_steps)

eq_itself : (a : ℕ) → eq_by_cmp nat_cmp a a ≡ true
eq_itself a = grind (arith, common_steps)

eq_other : (a b : ℕ) → a ≢ b → eq_by_cmp nat_cmp a b ≡ false
eq_other a b n = grind (arith, common_steps, n)

module _ {X : Type 0} where
  pub get_same : (m : FinMap nat_cmp X) (k : ℕ) (v : X) → get (insert m k v) k ≡ Some v
  get_same m k v = get-insert nat_cmp_total m k v k ∙ ap (λ b. cond b (Some v) (get m k)) (eq_itself k)

  pub get_other : (m : FinMap nat_cmp X) (k : ℕ) (v : X) (q : ℕ) → q ≢ k → get (insert m k v) q ≡ get m q
  get_other m k v q n = get-insert nat_cmp_total m k v q ∙ ap (λ b. cond b (Some v) (get m q)) (eq_other q k n)

  -- two changes of one key
  pub insert_twice : (m : FinMap nat_cmp X) (k : ℕ) (x y : X) → insert (insert m k x) k y ≡ insert m k y
  insert_twice m k x y = same_map nat_cmp_total nat_cmp-IsAntisymmetric _ _ (λ q. by q (same_or q k)) where
    by : (q : ℕ) → (q ≡ k) ⊎ (q ≢ k) → get (insert (insert m k x) k y) q ≡ get (insert m k y) q
    by q (inl e) = ap (get (insert (insert m k x) k y)) e ∙ (get_same (insert m k x) k y ∙ (sym (get_same m k y) ∙ ap (get (insert m k y)) (sym e)))
    by q (inr n) = get_other (insert m k x) k y q n ∙ (get_other m k x q n ∙ sym (get_other m k y q n))

  -- two changes of different keys
  pub insert_swap : (m : FinMap nat_cmp X) (c : ℕ) (x : X) (k : ℕ) (y : X) → k ≢ c → insert (insert m c x) k y ≡ insert (insert m k y) c x
  insert_swap m c x k y n = same_map nat_cmp_total nat_cmp-IsAntisymmetric _ _ (λ q. by q (same_or q c) (same_or q k)) where
    by : (q : ℕ) → (q ≡ c) ⊎ (q ≢ c) → (q ≡ k) ⊎ (q ≢ k) → get (insert (insert m c x) k y) q ≡ get (insert (insert m k y) c x) q
    by q (inl e) (inl f) = absurd (n (sym f ∙ e))
    by q (inl e) (inr f) = get_other (insert m c x) k y q f ∙ (ap (get (insert m c x)) e ∙ (get_same m c x ∙ (sym (get_same (insert m k y) c x) ∙ ap (get (insert (insert m k y) c x)) (sym e))))
    by q (inr e) (inl f) = ap (get (insert (insert m c x) k y)) f ∙ (get_same (insert m c x) k y ∙ (sym (get_same m k y) ∙ (ap (get (insert m k y)) (sym f) ∙ sym (get_other (insert m k y) c x q e))))
    by q (inr e) (inr f) = get_other (insert m c x) k y q f ∙ (get_other m c x q e ∙ (sym (get_other m k y q f) ∙ sym (get_other (insert m k y) c x q e)))

  -- who is known is another than who is not
  pub another : (m : FinMap nat_cmp X) (k c : ℕ) (v : X) → get m k ≡ Some v → get m c ≡ None → k ≢ c
  another m k c v some none e = let no : Some v ≡ None = sym some ∙ (ap (get m) e ∙ none) in absurd (cc no)
