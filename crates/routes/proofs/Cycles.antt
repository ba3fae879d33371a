-- A queue goes to the end of the round.
use Rattle.std.proofs.Common.{◌≡◌, ◌<◌, ◌≤◌, ◌+◌, ℕ, suc, Bool, true, false, List, [], ◌∷◌, ◌++◌, length, drop, take, get_or, None, Some, refl, sym, ap, ◌∙◌, subst, arith, rules, tests, append-nil}
use Rattle.std.proofs.lemmas.List.{drop_all, take_all}
use Rattle.std.proofs.lemmas.Bool.Decides.{nat_tests}
use Rattle.std.specs.List.{position, position_or_len, remove}
use Rattle.std.specs.Prelude.{◌||◌, nat_lt, not, if◌then◌else◌}
use Rattle.queue_keys.specs.Names.{Bytes, same}
use Rattle.queue_keys.proofs.Basics.{same_true}
use Rattle.routes.specs.Cycles.{has_queue, rotated, without_first}

place_some : (p : Bytes → Bool) (xs : List Bytes) (i : ℕ) → Some i ≡ position p xs → (i ≡ position_or_len p xs) × (position_or_len p xs < length xs)
place_some p xs i h = by (nat_lt (position_or_len p xs) (length xs)) refl h where
  by : (b : Bool) → nat_lt (position_or_len p xs) (length xs) ≡ b → Some i ≡ (if b then Some (position_or_len p xs) else None) → (i ≡ position_or_len p xs) × (position_or_len p xs < length xs)
  by true t e = (cc, search (rules, tests, t))
  by false t e = absurd (cc)

place_none : (p : Bytes → Bool) (xs : List Bytes) → None ≡ position p xs → length xs ≤ position_or_len p xs
place_none p xs h = by (nat_lt (position_or_len p xs) (length xs)) refl h where
  by : (b : Bool) → nat_lt (position_or_len p xs) (length xs) ≡ b → None ≡ (if b then Some (position_or_len p xs) else None) → length xs ≤ position_or_len p xs
  by true t e = absurd (cc)
  by false t e = grind (arith, nat_tests, t)

-- no queue has the name
none_on : (q x : Bytes) (xs : List Bytes) (b : Bool) → (length xs ≤ position_or_len (same q) xs → has_queue q xs ≡ false) → suc (length xs) ≤ (if not b then 1 + position_or_len (same q) xs else 0) → (b || has_queue q xs) ≡ false
none_on q x xs true h f = absurd (let g : suc (length xs) ≤ 0 = f in omega (arith, g))
none_on q x xs false h f = h (omega (arith, f))

none_has : (q : Bytes) (xs : List Bytes) → length xs ≤ position_or_len (same q) xs → has_queue q xs ≡ false
none_has q [] far = refl
none_has q (x ∷ xs) far = none_on q x xs (same q x) (none_has q xs) far

pub not_there : (q : Bytes) (xs : List Bytes) → None ≡ position (same q) xs → xs ≡ rotated q xs
not_there q xs h = sym (ap (λ b. if b then without_first q xs ++ q ∷ [] else xs) (none_has q xs (place_none (same q) xs h)))

-- the first of the name stands at this place
record IsAt (q : Bytes) (xs : List Bytes) (n : ℕ) : Type 0 where
  has : has_queue q xs ≡ true
  rest : without_first q xs ≡ remove xs n
  name : (d : Bytes) → get_or xs n d ≡ q

at_first : (q x : Bytes) (xs : List Bytes) → same q x ≡ true → IsAt q (x ∷ xs) 0
at_first q x xs e = record {
  has = ap (λ b. b || has_queue q xs) e;
  rest = ap (λ b. if b then xs else x ∷ without_first q xs) e;
  name = λ d. sym (same_true q x e);
}

at_later : (q x : Bytes) (xs : List Bytes) (n : ℕ) → same q x ≡ false → IsAt q xs n → IsAt q (x ∷ xs) (suc n)
at_later q x xs n e h = record {
  has = ap (λ b. b || has_queue q xs) e ∙ h.has;
  rest = ap (λ b. if b then xs else x ∷ without_first q xs) e ∙ ap (λ (l : List Bytes). x ∷ l) h.rest;
  name = h.name;
}

at_on : (q x : Bytes) (xs : List Bytes) (b : Bool) → same q x ≡ b → (position_or_len (same q) xs < length xs → IsAt q xs (position_or_len (same q) xs))
    → (if not b then 1 + position_or_len (same q) xs else 0) < suc (length xs) → IsAt q (x ∷ xs) (if not b then 1 + position_or_len (same q) xs else 0)
at_on q x xs true e h lt = at_first q x xs e
at_on q x xs false e h lt =
    let one : suc (position_or_len (same q) xs) ≡ 1 + position_or_len (same q) xs = omega arith in
    subst (IsAt q (x ∷ xs)) one (at_later q x xs (position_or_len (same q) xs) e (h (omega (arith, lt))))

stands_at : (q : Bytes) (xs : List Bytes) → position_or_len (same q) xs < length xs → IsAt q xs (position_or_len (same q) xs)
stands_at q [] lt = absurd (omega (arith, lt))
stands_at q (x ∷ xs) lt = at_on q x xs (same q x) refl (stands_at q xs) lt

-- the queue at a place goes to the end
pub moved : (q : Bytes) (xs new whole : List Bytes) (i : ℕ) → Some i ≡ position (same q) xs → ((d : Bytes) → new ≡ remove xs i ++ get_or xs i d ∷ []) → whole ≡ new → whole ≡ rotated q xs
moved q xs new whole i at is same_as =
    let p = place_some (same q) xs i at in
    let h : IsAt q xs i = subst (IsAt q xs) (sym p.0) (stands_at q xs p.1) in
    same_as ∙ is q ∙ ap (λ (l : List Bytes). l ++ get_or xs i q ∷ []) (sym h.rest) ∙ ap (λ (x : Bytes). without_first q xs ++ x ∷ []) (h.name q)
    ∙ sym (ap (λ b. if b then without_first q xs ++ q ∷ [] else xs) h.has)

-- a vector whose whole was written
pub written : (n : ℕ) (new old : List Bytes) → n ≡ length old → length new ≡ length old → take n (new ++ drop (length new) old) ≡ new
written n new old is long =
    let few : length old ≤ length new = omega (arith, long) in
    let all : length new ≤ n = omega (arith, is, long) in
    ap (λ (l : List Bytes). take n (new ++ l)) (drop_all (length new) old few) ∙ ap (take n) (append-nil new) ∙ take_all n new all
