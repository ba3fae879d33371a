-- Numbers are what is written of them.
use Rattle.std.proofs.Common.{◌≡◌, ℕ, ℤ, ◌<◌, ◌≤◌, ◌^◌, Bool, true, false, List, [], ◌∷◌, ◌++◌, length, Some, None, Option, refl, sym, ap, ◌∙◌, arith, rules}
use Rattle.std.proofs.lemmas.Bool.Decides.{nat_tests}
use Rattle.std.proofs.lemmas.Fmt.{decimal-digits_value}
use Rattle.std.proofs.lemmas.Str.Parse.{IsNumeralModel, numerals_by_value}
use Rattle.std.specs.Prelude.{IfSome, decimal, nat_eq, nat_le, nat_lt, ◌&&◌, ◌||◌, if◌then◌else◌}
use Rattle.std.specs.Fmt.{signed_decimal}
use Rattle.numerals.specs.Integers.{integer_of}
use Rattle.numerals.proofs.Texts.{text_of_integer}
use Rattle.std.specs.Char.{is_ascii_digit}
use Rattle.std.specs.List.{list_all}
use Rattle.std.specs.Str.Parse.{digits_value}
use Rattle.line_text.specs.Numbers.{is_number, number_in}

own : IsNumeralModel (λ ds. list_all is_ascii_digit ds ≡ true) (digits_value 10)
own = numerals_by_value (λ ds. list_all is_ascii_digit ds ≡ true) (search rules)

both : (a b : Bool) → (a && b) ≡ true → (a ≡ true) × (b ≡ true)
both true b e = (refl, e)
both false b e = cc

some_is : (m n : ℕ) → Some m ≡ Some n → m ≡ n
some_is m n e = ap (value_or m) e where
  value_or : ℕ → Option ℕ → ℕ
  value_or d None = d
  value_or d (Some x) = x

-- a number's text is what is written of its value
pub number_text : (word : List ℕ) → is_number word ≡ true → digits_value 10 word < 2 ^ 64 → decimal (digits_value 10 word) ≡ word
number_text [] e small = absurd (cc)
number_text (d ∷ ds) e small = decimal-digits_value own (d ∷ ds) (both _ _ e).0 (omega arith) (one d ds (both _ _ e).1) small where
  one : (d : ℕ) (ds : List ℕ) → (nat_eq (length ds) 0 || nat_lt 48 d) ≡ true → d ≡ 48 → length (d ∷ ds) ≡ 1
  one d ds t z = by (nat_eq (length ds) 0) (nat_lt 48 d) refl refl t where
    by : (p q : Bool) → nat_eq (length ds) 0 ≡ p → nat_lt 48 d ≡ q → (p || q) ≡ true → length (d ∷ ds) ≡ 1
    by true q f g h = let none : length ds ≡ 0 = grind (arith, nat_tests) in omega (arith, none)
    by false true f g h = let above : 48 < d = grind (arith, nat_tests) in absurd (omega (arith, above, z))
    by false false f g h = absurd (cc)

-- a number within bounds
pub number_read : (high n : ℕ) (word : List ℕ) → high < 2 ^ 64 → Some n ≡ number_in 0 high word → (word ≡ decimal n) × (n ≤ high)
number_read high n word small e = by (is_number word) (nat_le 0 (digits_value 10 word)) (nat_le (digits_value 10 word) high) refl refl refl e where
  by : (p q r : Bool) → is_number word ≡ p → nat_le 0 (digits_value 10 word) ≡ q → nat_le (digits_value 10 word) high ≡ r → Some n ≡ (if p && q && r then Some (digits_value 10 word) else None) → (word ≡ decimal n) × (n ≤ high)
  by true true true f g h k =
      let same = some_is n (digits_value 10 word) k in
      let le : digits_value 10 word ≤ high = grind (arith, nat_tests, h) in
      (sym (number_text word f (omega (arith, le, small))) ∙ ap decimal (sym same), omega (arith, same, le))
  by true true false f g h k = absurd (cc)
  by true false r f g h k = absurd (cc)
  by false q r f g h k = absurd (cc)

-- a number's text, where one was read
pub number_said : (high : ℕ) (o : Option ℕ) (old word new : List ℕ) → high < 2 ^ 64 → o ≡ number_in 0 high word → old ≡ word ++ new → IfSome o (λ n. old ≡ decimal n ++ new)
number_said high None old word new small e f = tt
number_said high (Some n) old word new small e f = f ∙ ap (λ w. w ++ new) (number_read high n word small e).0

-- and its bound
pub number_bound : (high : ℕ) (o : Option ℕ) (word : List ℕ) → high < 2 ^ 64 → o ≡ number_in 0 high word → IfSome o (λ n. n ≤ high)
number_bound high None word small e = tt
number_bound high (Some n) word small e = (number_read high n word small e).1

-- an integer's text, where one was read
pub integer_said : (o : Option ℤ) (old word new : List ℕ) → o ≡ integer_of word → old ≡ word ++ new → IfSome o (λ z. old ≡ signed_decimal z ++ new)
integer_said None old word new e f = tt
integer_said (Some z) old word new e f = f ∙ ap (λ w. w ++ new) (text_of_integer word z (sym e))
