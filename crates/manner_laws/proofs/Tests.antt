-- Tests of words, and what an ask by a test says.
use Rattle.std.proofs.Common.{arith, ◌≡◌, ◌⊎◌, inl, inr, ℕ, ◌<◌, ◌≤◌, List, [], ◌∷◌, ◌++◌, Bool, true, false, not, ◌&&◌, refl, sym, ap, subst, None, Some, Option, unwrap_or, nat_lt}
use Rattle.std.specs.Prelude.{bytes_eq, is_some, nat_le, option_map, if◌then◌else◌}
use Rattle.std.proofs.lemmas.Slice.Eq.{bytes_eq-Decides}
use Rattle.std.proofs.lemmas.Bool.Decides.{nat_tests}
use Rattle.store_model.specs.Words.{Words, front}
use Rattle.queue_keys.specs.Names.{Bytes, is_name}
use Rattle.queue_keys.specs.QueueKeys.{Each}
use Rattle.manner_laws.specs.Spots.{Spot, Ask}
use Rattle.manner_laws.specs.Cursor.{same_words, only_if, if_said, is_text, all_names, spot_if, middle}

pub false_true : {P : Type 0} → false ≡ true → P
false_true e = cc

pub none_some : {A : Type 0} (P : Type 0) (x : A) → None ≡ Some x → P
none_some P x e = cc

pub some_parts : {A : Type 0} (x y : A) → Some x ≡ Some y → x ≡ y
some_parts x y e = ap (λ o. unwrap_or o x) e

pub bytes_itself : (a : Bytes) → bytes_eq a a ≡ true
bytes_itself a = (bytes_eq-Decides a a).1 refl

pub bytes_true : (a b : Bytes) → bytes_eq a b ≡ true → a ≡ b
bytes_true a b e = (bytes_eq-Decides a b).0 e

pub bytes_false : (a b : Bytes) → (a ≡ b → ⊥) → bytes_eq a b ≡ false
bytes_false a b n = go (bytes_eq a b) refl
  where
    go : (t : Bool) → bytes_eq a b ≡ t → t ≡ false
    go true e = absurd (n (bytes_true a b e))
    go false e = refl

pub and_true : (a b : Bool) → (a && b) ≡ true → (a ≡ true) × (b ≡ true)
and_true true b e = (refl, e)
and_true false b e = cc

pub both_true : (a b : Bool) → a ≡ true → b ≡ true → (a && b) ≡ true
both_true true b e f = f
both_true false b e f = cc

pub not_true : (a : Bool) → not a ≡ true → a ≡ false
not_true true e = cc
not_true false e = refl

pub not_false : (a : Bool) → a ≡ false → not a ≡ true
not_false true e = cc
not_false false e = refl

pub words_itself : (w : Words) → same_words w w ≡ true
words_itself [] = refl
words_itself (x ∷ xs) = both_true (bytes_eq x x) (same_words xs xs) (bytes_itself x) (words_itself xs)

pub words_true : (v w : Words) → same_words v w ≡ true → v ≡ w
words_true [] [] e = refl
words_true [] (y ∷ ys) e = false_true e
words_true (x ∷ xs) [] e = false_true e
words_true (x ∷ xs) (y ∷ ys) e =
    let h = and_true (bytes_eq x y) (same_words xs ys) e in
    let a = bytes_true x y h.0 in
    let b = words_true xs ys h.1 in
    cc

-- ---- asks

pub only_if_is : (b : Bool) (o : Option Ask) (q : Ask) → only_if b o ≡ Some q → (b ≡ true) × (o ≡ Some q)
only_if_is true o q e = (refl, e)
only_if_is false o q e = none_some _ q e

pub only_if-true : (b : Bool) (o : Option Ask) (q : Ask) → b ≡ true → o ≡ Some q → only_if b o ≡ Some q
only_if-true true o q e f = f
only_if-true false o q e f = false_true e

pub said : (w : Words) (q : Ask) → if_said w w q ≡ Some q
said w q = only_if-true (same_words w w) (Some q) q (words_itself w) refl

-- what holds of the words that are expected, holds of those that were said
pub moved : (P : Words → Ask → Type 0) (e w : Words) (q q' : Ask) → P e q → if_said e w q ≡ Some q' → P w q'
moved P e w q q' p h =
    let x = only_if_is (same_words e w) (Some q) q' h in
    subst (λ z. P z q') (words_true e w x.0) (subst (λ z. P e z) (some_parts q q' x.1) p)

pub split : {A : Type 0} (b : Bool) (x y : Option A) (q : A) → (if b then x else y) ≡ Some q → ((b ≡ true) × (x ≡ Some q)) ⊎ ((b ≡ false) × (y ≡ Some q))
split true x y q h = inl (refl, h)
split false x y q h = inr (refl, h)

pub pick_true : {A : Type 0} (b : Bool) (x y : Option A) (q : A) → b ≡ true → x ≡ Some q → (if b then x else y) ≡ Some q
pick_true true x y q e h = h
pick_true false x y q e h = false_true e

pub pick_false : {A : Type 0} (b : Bool) (x y : Option A) (q : A) → b ≡ false → y ≡ Some q → (if b then x else y) ≡ Some q
pick_false true x y q e h = false_true (sym e)
pick_false false x y q e h = h

pub is_text_is : (t : Bytes) (o : Option Bytes) → is_text t o ≡ true → o ≡ Some t
is_text_is t None e = false_true e
is_text_is t (Some x) e = ap (λ (y : Bytes). Some y) (sym (bytes_true t x e))

pub is_text-Some : (t : Bytes) (o : Option Bytes) → o ≡ Some t → is_text t o ≡ true
is_text-Some t o e = subst (λ z. is_text t z ≡ true) (sym e) (bytes_itself t)

pub not_some : (o : Option Bytes) → not (is_some o) ≡ true → o ≡ None
not_some None e = refl
not_some (Some x) e = false_true e

pub names_are : (qs : List Bytes) → all_names qs ≡ true → Each is_name qs
names_are [] e = tt
names_are (q ∷ qs) e = let h = and_true (is_name q) (all_names qs) e in (h.0, names_are qs h.1)

pub all_names-names : (qs : List Bytes) → Each is_name qs → all_names qs ≡ true
all_names-names [] h = refl
all_names-names (q ∷ qs) h = both_true (is_name q) (all_names qs) h.0 (all_names-names qs h.1)

pub le_true : (a b : ℕ) → nat_le a b ≡ true → a ≤ b
le_true a b e = grind (arith, nat_tests)

pub true_le : (a b : ℕ) → a ≤ b → nat_le a b ≡ true
true_le a b e = grind (arith, nat_tests)

pub lt_true : (a b : ℕ) → nat_lt a b ≡ true → a < b
lt_true a b e = grind (arith, nat_tests)

pub true_lt : (a b : ℕ) → a < b → nat_lt a b ≡ true
true_lt a b e = grind (arith, nat_tests)

front-last : (x : Bytes) (xs : List Bytes) (y : Bytes) → front x (xs ++ y ∷ []) ≡ x ∷ xs
front-last x [] y = refl
front-last x (z ∷ zs) y = ap (λ (r : List Bytes). x ∷ r) (front-last z zs y)

pub middle-between : (w k : Bytes) (ks : List Bytes) (y : Bytes) → middle (w ∷ k ∷ ks ++ y ∷ []) ≡ k ∷ ks
middle-between w k [] y = refl
middle-between w k (x ∷ xs) y = ap (λ (r : List Bytes). k ∷ r) (front-last x xs y)

-- ---- spots

pub spot_if_is : (b : Bool) (c d : Spot) → spot_if b c ≡ Some d → (b ≡ true) × (c ≡ d)
spot_if_is true c d e = (refl, some_parts c d e)
spot_if_is false c d e = none_some _ d e

pub spot_if-true : (b : Bool) (c : Spot) → b ≡ true → spot_if b c ≡ Some c
spot_if-true true c e = refl
spot_if-true false c e = false_true e

pub mapped : {A B : Type 0} (f : A → B) (o : Option A) (y : B) → option_map f o ≡ Some y → (x : A) × (o ≡ Some x) × (f x ≡ y)
mapped f None y e = none_some _ y e
mapped f (Some x) y e = (x, refl, some_parts (f x) y e)
