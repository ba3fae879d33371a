-- Where a name stands among names in byte order.
use Rattle.std.proofs.Common.{◌≡◌, ℕ, suc, ◌+◌, Bool, true, false, List, [], ◌∷◌, ◌++◌, take, drop, refl, sym, ap, ◌∙◌, subst, arith}
use Rattle.std.specs.declared.cmp.Ordering.{Ordering}
use Rattle.std.specs.declared.cmp.Ordering.TheVariants.{Less, Equal, Greater}
use Rattle.std.specs.Ordering.{match_ordering}
use Rattle.wire_values.specs.Order.{bytes_cmp}
use Rattle.queue_keys.specs.Names.{Bytes}
use Rattle.queue_keys.specs.Lookup.{insert_once}
use Rattle.lookups.specs.Standings.{standing_from}

-- what was found of where a name stands fits where it is inserted
abbrev Stands : ℕ → Bytes → List Bytes → ℕ × Bool → Type 0
Stands k q xs (i, true) = insert_once q xs ≡ xs
Stands k q xs (i, false) = (j : ℕ) × (i ≡ k + j) × (insert_once q xs ≡ take j xs ++ q ∷ drop j xs)

further : (k : ℕ) (q x : Bytes) (xs : List Bytes) (s : ℕ × Bool) → Stands (suc k) q xs s → insert_once q (x ∷ xs) ≡ x ∷ insert_once q xs → Stands k q (x ∷ xs) s
further k q x xs (i, true) h e = e ∙ ap (λ (l : List Bytes). x ∷ l) h
further k q x xs (i, false) (j, is, at) e = (suc j, (let f : i ≡ k + suc j = omega (arith, is) in f), e ∙ ap (λ (l : List Bytes). x ∷ l) at)

stands : (k : ℕ) (q : Bytes) (xs : List Bytes) → Stands k q xs (standing_from k q xs)
stands k q [] = (0, (let f : k ≡ k + 0 = omega arith in f), refl)
stands k q (x ∷ xs) = by (bytes_cmp q x) refl (stands (suc k) q xs) where
  by : (o : Ordering) → bytes_cmp q x ≡ o → Stands (suc k) q xs (standing_from (suc k) q xs) → Stands k q (x ∷ xs) (match_ordering o (k, false) (k, true) (standing_from (suc k) q xs))
  by Less e h = (0, (let f : k ≡ k + 0 = omega arith in f), ap (λ o. match_ordering o (q ∷ x ∷ xs) (x ∷ xs) (x ∷ insert_once q xs)) e)
  by Equal e h = ap (λ o. match_ordering o (q ∷ x ∷ xs) (x ∷ xs) (x ∷ insert_once q xs)) e
  by Greater e h = further k q x xs (standing_from (suc k) q xs) h (ap (λ o. match_ordering o (q ∷ x ∷ xs) (x ∷ xs) (x ∷ insert_once q xs)) e)

-- a name that stands isn't added
pub there_already : (q : Bytes) (xs : List Bytes) (i : ℕ) (b : Bool) → (i, b) ≡ standing_from 0 q xs → b ≡ true → xs ≡ insert_once q xs
there_already q xs i b e t = let h : Stands 0 q xs (i, b) = subst (Stands 0 q xs) (sym e) (stands 0 q xs) in sym (by b h t) where
  by : (b : Bool) → Stands 0 q xs (i, b) → b ≡ true → insert_once q xs ≡ xs
  by true h t = h
  by false h t = absurd (cc)

-- another is, at its place
pub put_there : (q : Bytes) (xs : List Bytes) (i : ℕ) (b : Bool) → (i, b) ≡ standing_from 0 q xs → b ≡ false → take i xs ++ q ∷ drop i xs ≡ insert_once q xs
put_there q xs i b e t = let h : Stands 0 q xs (i, b) = subst (Stands 0 q xs) (sym e) (stands 0 q xs) in by b h t where
  by : (b : Bool) → Stands 0 q xs (i, b) → b ≡ false → take i xs ++ q ∷ drop i xs ≡ insert_once q xs
  by true h t = absurd (cc)
  by false (j, is, at) t = let same : i ≡ j = omega (arith, is) in subst (λ m. take m xs ++ q ∷ drop m xs ≡ insert_once q xs) (sym same) (sym at)
