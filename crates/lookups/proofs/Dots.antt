-- The first word of a text stands before its first dot.
use Rattle.std.proofs.Common.{◌≡◌, ℕ, suc, ◌+◌, ◌<◌, ◌≤◌, Bool, true, false, List, [], ◌∷◌, length, take, drop, Option, Some, None, refl, sym, ap, subst, ◌∙◌, arith, rules, tests}
use Rattle.std.proofs.lemmas.List.{drop_all, drop_more, take_all}
use Rattle.std.proofs.lemmas.Bool.Decides.{nat_tests}
use Rattle.std.specs.Prelude.{◌==◌, nat_lt, not, is_some, if◌then◌else◌}
use Rattle.std.specs.Borrow.{Bor}
use Rattle.std.specs.List.{position, position_or_len}
use Rattle.queue_keys.specs.Names.{Bytes}
use Rattle.queue_keys.specs.Patterns.{dotted_words, onto_words}
use Rattle.queue_keys.specs.Patterns.{is_none as no_words}
use Rattle.lookups.specs.WordsLeft.{told, words_in}

place_some : (p : ℕ → Bool) (xs : Bytes) (i : ℕ) → Some i ≡ position p xs → (i ≡ position_or_len p xs) × (position_or_len p xs < length xs)
place_some p xs i h = by (nat_lt (position_or_len p xs) (length xs)) refl h where
  by : (b : Bool) → nat_lt (position_or_len p xs) (length xs) ≡ b → Some i ≡ (if b then Some (position_or_len p xs) else None) → (i ≡ position_or_len p xs) × (position_or_len p xs < length xs)
  by true t e = (cc, search (rules, tests, t))
  by false t e = absurd (cc)

place_none : (p : ℕ → Bool) (xs : Bytes) → None ≡ position p xs → length xs ≤ position_or_len p xs
place_none p xs h = by (nat_lt (position_or_len p xs) (length xs)) refl h where
  by : (b : Bool) → nat_lt (position_or_len p xs) (length xs) ≡ b → None ≡ (if b then Some (position_or_len p xs) else None) → length xs ≤ position_or_len p xs
  by true t e = absurd (cc)
  by false t e = grind (arith, nat_tests, t)

-- each text has a first word
pub words_there : (t : Bytes) → (w : Bytes) × (ws : List Bytes) × (dotted_words t ≡ w ∷ ws)
words_there [] = ([], [], refl)
words_there (b ∷ t) =
    let h = words_there t in
    subst (λ (x : List Bytes). (w : Bytes) × (ws : List Bytes) × (onto_words b x ≡ w ∷ ws)) (sym h.2) (elim (b == 46) as (λ c. (w : Bytes) × (ws : List Bytes) × ((if c then [] ∷ h.0 ∷ h.1 else (b ∷ h.0) ∷ h.1) ≡ w ∷ ws)) [
      | true ↦ ([], h.0 ∷ h.1, refl)
      | false ↦ (b ∷ h.0, h.1, refl)
    ])

-- the words after the dot with which a text begins
abbrev after_dot : Bytes → List Bytes
after_dot [] = []
after_dot (b ∷ t) = dotted_words t

-- a byte before the first of some words
abbrev onto : ℕ → List Bytes → List Bytes
onto b [] = []
onto b (w ∷ ws) = (b ∷ w) ∷ ws

dots_at : (t : Bytes) → dotted_words t ≡ take (position_or_len (λ b. b == 46) t) t ∷ after_dot (drop (position_or_len (λ b. b == 46) t) t)
dots_at [] = refl
dots_at (b ∷ t) =
    let n = position_or_len (λ b. b == 46) t in
    let h = words_there t in
    let one : 1 + n ≡ suc n = omega arith in
    subst (λ (x : List Bytes). onto_words b x ≡ take (if not (b == 46) then 1 + n else 0) (b ∷ t) ∷ after_dot (drop (if not (b == 46) then 1 + n else 0) (b ∷ t))) (sym h.2)
    (elim (b == 46) as (λ c. (if c then [] ∷ h.0 ∷ h.1 else (b ∷ h.0) ∷ h.1) ≡ take (if not c then 1 + n else 0) (b ∷ t) ∷ after_dot (drop (if not c then 1 + n else 0) (b ∷ t))) [
      | true ↦ ap (λ (x : List Bytes). [] ∷ x) (sym h.2)
      | false ↦ ap (onto b) (sym h.2 ∙ dots_at t) ∙ ap (λ m. take m (b ∷ t) ∷ after_dot (drop m (b ∷ t))) (sym one)
    ])

-- the first word, where a dot stands
pub word_some : (t : Bytes) (i : ℕ) → position (λ b. b == 46) t ≡ Some i → dotted_words t ≡ take i t ∷ dotted_words (drop (i + 1) t)
word_some t i e =
    let p = place_some (λ b. b == 46) t i (sym e) in
    let here : dotted_words t ≡ take i t ∷ after_dot (drop i t) = subst (λ n. dotted_words t ≡ take n t ∷ after_dot (drop n t)) (sym p.0) (dots_at t) in
    let lt : i < length t = subst (λ n. n < length t) (sym p.0) p.1 in
    here ∙ ap (λ x. take i t ∷ after_dot x) (drop_more t i 0 lt)

-- and where none does
pub word_none : (t : Bytes) → position (λ b. b == 46) t ≡ None → dotted_words t ≡ t ∷ []
word_none t e =
    let far = place_none (λ b. b == 46) t (sym e) in
    let n = position_or_len (λ b. b == 46) t in
    dots_at t ∙ (λ i. take_all n t far i ∷ after_dot (drop_all n t far i))

-- a text has words
pub words_left : (o : Option (Bor Bytes)) (b : Bool) → not b ≡ is_some o → b ≡ no_words (words_in (told o))
words_left None true e = refl
words_left None false e = cc
words_left (Some t) true e = cc
words_left (Some t) false e = let h = words_there t.now in sym (ap no_words h.2)
