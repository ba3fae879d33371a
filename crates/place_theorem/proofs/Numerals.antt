-- The decimal text of a number is read as that number.
use Rattle.std.proofs.Common.{◌≡◌, ◌≢◌, ℕ, zero, suc, ◌-◌, ◌^◌, ◌<◌, ◌≤◌, ◌∷◌, true, false, nat_le, ◌==◌, if◌then◌else◌, refl, sym, ap, ◌∙◌, arith, Some, decimal}
use Rattle.std.specs.Prelude.{pos, negsuc}
use Rattle.std.proofs.lemmas.Bool.Decides.{nat_tests, Decides-eqb}
use Rattle.numerals.specs.Integers.{integer_of}
use Rattle.numerals.proofs.Texts.{integer_of_text}
use Rattle.queue_keys.specs.Texts.{difference}
use Rattle.place_model.specs.Passes.{less}

-- a number below 2 ^ 63 is read from its decimal text
pub integer_of-decimal : (n : ℕ) → n < 2 ^ 63 → integer_of (decimal n) ≡ Some (pos n)
integer_of-decimal n h = integer_of_text (pos n) h

-- numbers that the test takes for one are one
pub eqb_true : (m n : ℕ) → (m == n) ≡ true → m ≡ n
eqb_true m n e = (Decides-eqb m n).0 e

-- and others differ
pub off : (m n : ℕ) → (m == n) ≡ false → m ≢ n
off m n e i = let h : (m == n) ≡ true = (Decides-eqb m n).1 i in cc (e, h)

-- the text of a difference is read as it
pub integer_of-difference : (a b : ℕ) → a < 2 ^ 63 → b < 2 ^ 63 → integer_of (difference a b) ≡ Some (less a b)
integer_of-difference a b h i = elim (nat_le b a) as (λ t. nat_le b a ≡ t → integer_of (if t then decimal (a - b) else 45 ∷ decimal (b - a)) ≡ Some (if t then pos (a - b) else negsuc (b - a - 1))) [
  | true ↦ λ e. integer_of-decimal (a - b) (omega (arith, h))
  | false ↦ λ e. negative (b - a) (grind (arith, nat_tests, e)) (omega (arith, i))
] refl
  where
    negative : (n : ℕ) → 1 ≤ n → n < 2 ^ 63 → integer_of (45 ∷ decimal n) ≡ Some (negsuc (n - 1))
    negative zero p j = absurd (omega (arith, p))
    negative (suc k) p j =
        let one_less : suc k - 1 ≡ k = omega arith in
        integer_of_text (negsuc k) (omega (arith, j)) ∙ ap (λ i. Some (negsuc i)) (sym one_less)
