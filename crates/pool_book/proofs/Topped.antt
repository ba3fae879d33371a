-- Numbers below the highest of them.
use Rattle.std.proofs.Common.{◌≡◌, ◌<◌, ◌≤◌, ◌==◌, ◌&&◌, ◌||◌, ◌++◌, ℕ, Bool, true, false, List, [], ◌∷◌, nat_le, max, refl, sym, ap, ◌∙◌, arith}
use Rattle.std.specs.List.{list_all, list_any}
use Rattle.std.proofs.lemmas.Bool.Decides.{nat_tests}
use Rattle.pool_book.specs.Books.{was_put}

first_of : (a b : Bool) → (a && b) ≡ true → a ≡ true
first_of true b e = refl
first_of false b e = e

rest_of : (a b : Bool) → (a && b) ≡ true → b ≡ true
rest_of true b e = e
rest_of false true e = refl
rest_of false false e = e

both : (a b : Bool) → a ≡ true → b ≡ true → (a && b) ≡ true
both a b e f = ap (λ c. c && b) e ∙ f

not_it : (top number m : ℕ) → top < number → nat_le m top ≡ true → (m == number) ≡ false
not_it top number m up h = grind (arith, nat_tests)

-- a number above the highest isn't among them
pub above_all : (top number : ℕ) (ns : List ℕ) → top < number → list_all (λ m. nat_le m top) ns ≡ true → was_put number ns ≡ false
above_all top number [] up h = refl
above_all top number (m ∷ ns) up h =
    ap (λ b. b || was_put number ns) (not_it top number m up (first_of _ _ h)) ∙ above_all top number ns up (rest_of _ _ h)

up_to : (top more m : ℕ) → nat_le m top ≡ true → nat_le m (max top more) ≡ true
up_to top more m h = grind (arith, nat_tests)

one_to : (top more : ℕ) → nat_le more (max top more) ≡ true
one_to top more = grind (arith, nat_tests)

-- with one more they are below the higher of the two
pub with_one : (top more : ℕ) (ns : List ℕ) → list_all (λ m. nat_le m top) ns ≡ true → list_all (λ m. nat_le m (max top more)) (ns ++ more ∷ []) ≡ true
with_one top more [] h = both _ _ (one_to top more) refl
with_one top more (m ∷ ns) h = both _ _ (up_to top more m (first_of _ _ h)) (with_one top more ns (rest_of _ _ h))
