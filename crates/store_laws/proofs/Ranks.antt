-- What a range by score gives are members of the sorted set.
use Rattle.std.proofs.Common.{◌≡◌, ◌⊎◌, inl, inr, ℕ, zero, suc, List, [], ◌∷◌, Bool, true, false, cond, refl, ap, subst, ◌∙◌, None, Some, Option, take, drop}
use Rattle.std.specs.Prelude.{◌&&◌, is_some, ℤ, int_le, int_lt, map, if◌then◌else◌}
use Rattle.std.specs.Ordering.{eq_by_cmp}
use Rattle.std.specs.FinMap.{entries, get-entries}
use Rattle.std.specs.FinMap.Entries.{find}
use Rattle.wire_values.specs.Order.{bytes_cmp}
use Rattle.store_tables.proofs.Maps.{bytes_total, bytes_anti}
use Rattle.store_model.specs.Words.{Bytes}
use Rattle.store_model.specs.Replies.{bulks}
use Rattle.store_model.specs.SortedSets.{ranked, between, ranks, ranks_answer}
use Rattle.store_model.specs.declared.held.Stored.{Stored}
use Rattle.store_model.specs.declared.held.Stored.TheVariants.{Scores}
use Rattle.store_laws.proofs.Maps.{tied_itself}
use Rattle.store_laws.proofs.Changes.{has_member}
use Rattle.store_laws.proofs.Answers.{bulks_parts}
use Rattle.store_laws.proofs.Elements.{IsAmong}

-- the members with scores between these bounds of what stands at a key, the highest first
abbrev pub ranks_of : ℤ → ℤ → ℕ → ℕ → Option Stored → List Bytes
ranks_of high low skip most (Some (Scores h)) = ranks high low skip most h
ranks_of high low skip most other = []

pub among_drop : (x : Bytes) (n : ℕ) (xs : List Bytes) → IsAmong x (drop n xs) → IsAmong x xs
among_drop x zero xs is = is
among_drop x (suc n) [] is = is
among_drop x (suc n) (y ∷ ys) is = inr (among_drop x n ys is)

pub among_take : (x : Bytes) (n : ℕ) (xs : List Bytes) → IsAmong x (take n xs) → IsAmong x xs
among_take x zero xs is = absurd is
among_take x (suc n) [] is = is
among_take x (suc n) (y ∷ ys) (inl e) = inl e
among_take x (suc n) (y ∷ ys) (inr is) = inr (among_take x n ys is)

-- the members of pairs
abbrev names_in : List (Bytes × ℤ) → List Bytes
names_in es = map (λ e. e.0) es

among_ranked : (x y : Bytes) (s : ℤ) (es : List (Bytes × ℤ)) → IsAmong x (names_in (ranked y s es)) → (x ≡ y) ⊎ IsAmong x (names_in es)
among_ranked x y s [] is = is
among_ranked x y s (e ∷ es) is = go (int_lt s e.1) (among_ranked x y s es) is
  where
    go : (b : Bool) → (IsAmong x (names_in (ranked y s es)) → (x ≡ y) ⊎ IsAmong x (names_in es)) → IsAmong x (names_in (if b then e ∷ ranked y s es else (y, s) ∷ e ∷ es)) → (x ≡ y) ⊎ IsAmong x (e.0 ∷ names_in es)
    go true rest (inl same) = inr (inl same)
    go true rest (inr there) = elim (rest there) [ inl same ↦ inl same | inr old ↦ inr (inr old) ]
    go false rest (inl same) = inl same
    go false rest (inr old) = inr old

among_between : (x : Bytes) (high low : ℤ) (es rs : List (Bytes × ℤ)) → IsAmong x (names_in (between high low es rs)) → IsAmong x (names_in rs) ⊎ IsAmong x (names_in es)
among_between x high low [] rs is = inl is
among_between x high low (e ∷ es) rs is = go (int_le low e.1 && int_le e.1 high) (λ r. among_between x high low es r) is
  where
    go : (b : Bool) → ((r : List (Bytes × ℤ)) → IsAmong x (names_in (between high low es r)) → IsAmong x (names_in r) ⊎ IsAmong x (names_in es)) → IsAmong x (names_in (between high low es (if b then ranked e.0 e.1 rs else rs))) → IsAmong x (names_in rs) ⊎ IsAmong x (e.0 ∷ names_in es)
    go true rest is' = elim (rest (ranked e.0 e.1 rs) is') [
      | inl here ↦ elim (among_ranked x e.0 e.1 rs here) [ inl same ↦ inr (inl same) | inr old ↦ inl old ]
      | inr there ↦ inr (inr there)
    ]
    go false rest is' = elim (rest rs is') [ inl here ↦ inl here | inr there ↦ inr (inr there) ]

among_find : (x : Bytes) (es : List (Bytes × ℤ)) → IsAmong x (names_in es) → is_some (find bytes_cmp x es) ≡ true
among_find x [] is = absurd is
among_find x (e ∷ es) (inl same) = subst (λ k. is_some (cond (eq_by_cmp bytes_cmp x k) (Some e.1) (find bytes_cmp x es)) ≡ true) same (ap (λ b. is_some (cond b (Some e.1) (find bytes_cmp x es))) (tied_itself bytes_cmp bytes_total bytes_anti x))
among_find x (e ∷ es) (inr is) = go (eq_by_cmp bytes_cmp x e.0) (among_find x es is)
  where
    go : (b : Bool) → is_some (find bytes_cmp x es) ≡ true → is_some (cond b (Some e.1) (find bytes_cmp x es)) ≡ true
    go true there = refl
    go false there = there

-- what a range gives is a member
pub among_ranks : (x : Bytes) (high low : ℤ) (skip most : ℕ) (o : Option Stored) → IsAmong x (ranks_of high low skip most o) → has_member o x ≡ true
among_ranks x high low skip most (Some (Scores h)) is =
    let a = among_drop x skip _ (among_take x most _ (among_take x 4096 _ is)) in
    elim (among_between x high low (entries h) [] a) [
      | inl none ↦ absurd none
      | inr here ↦ ap is_some (get-entries h x) ∙ among_find x (entries h) here
    ]
among_ranks x high low skip most None is = absurd is
among_ranks x high low skip most (Some other) is = absurd is

-- an array that a range is answered by has its members
pub ranks_are : (high low : ℤ) (skip most : ℕ) (ms : List Bytes) (o : Option Stored) → bulks ms ≡ ranks_answer high low skip most o → ms ≡ ranks_of high low skip most o
ranks_are high low skip most ms None e = bulks_parts ms [] e
ranks_are high low skip most ms (Some (Scores h)) e = bulks_parts ms (ranks high low skip most h) e
ranks_are high low skip most ms (Some other) e = absurd (cc e)
