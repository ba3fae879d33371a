-- The spelling of an integer is what is written of it.
use Rattle.std.proofs.Common.{◌≡◌, ℕ, ℤ, pos, negsuc, zero, suc, ◌+◌, ◌-◌, ◌*◌, ◌/◌, ◌%◌, ◌^◌, ◌<◌, ◌≤◌, ◌≢◌, List, [], ◌∷◌, ◌++◌, length, Bool, true, false, nat_le, nat_lt, nat_eq, Option, Some, None, refl, sym, ap, subst, ◌∙◌, arith, append_assoc, append-nil}
use Rattle.std.specs.Prelude.{decimal, if◌then◌else◌, ◌&&◌}
use Rattle.std.specs.Fmt.{signed_decimal}
use Rattle.std.proofs.lemmas.Bool.Decides.{nat_tests}
use Rattle.std.proofs.lemmas.Fmt.{decimal_digit, decimal_step, decimal_by_steps}
use Rattle.numerals.specs.Integers.{digits_onto, magnitude_of, plain_integer, negative_integer, integer_of}

-- what a digit leads to
pub digit_on : (n b : ℕ) (bs : List ℕ) → 48 ≤ b → b ≤ 57 → n * 10 + (b - 48) < 2 ^ 64 → digits_onto n (b ∷ bs) ≡ digits_onto (n * 10 + (b - 48)) bs
digit_on n b bs low high small =
    let l : nat_le 48 b ≡ true = grind (arith, nat_tests) in
    let h : nat_le b 57 ≡ true = grind (arith, nat_tests) in
    let s : nat_lt (n * 10 + (b - 48)) (2 ^ 64) ≡ true = grind (arith, nat_tests) in
    rw (l, h, s) refl

-- what led to a number
pub digit_in : (n b m : ℕ) (bs : List ℕ) → digits_onto n (b ∷ bs) ≡ Some m → (48 ≤ b) × (b ≤ 57) × (n * 10 + (b - 48) < 2 ^ 64) × (digits_onto (n * 10 + (b - 48)) bs ≡ Some m)
digit_in n b m bs e = by (nat_le 48 b) (nat_le b 57) (nat_lt (n * 10 + (b - 48)) (2 ^ 64)) refl refl refl e where
  by : (p q r : Bool) → nat_le 48 b ≡ p → nat_le b 57 ≡ q → nat_lt (n * 10 + (b - 48)) (2 ^ 64) ≡ r → (if p && q then (if r then digits_onto (n * 10 + (b - 48)) bs else None) else None) ≡ Some m
      → (48 ≤ b) × (b ≤ 57) × (n * 10 + (b - 48) < 2 ^ 64) × (digits_onto (n * 10 + (b - 48)) bs ≡ Some m)
  by true true true x y z f = (grind (arith, nat_tests), grind (arith, nat_tests), grind (arith, nat_tests), f)
  by true true false x y z f = absurd (cc)
  by true false r x y z f = absurd (cc)
  by false q r x y z f = absurd (cc)

pub some_same : (n m : ℕ) → Some n ≡ Some m → n ≡ m
some_same n m e = ap (value_or n) e where
  value_or : ℕ → Option ℕ → ℕ
  value_or d None = d
  value_or d (Some x) = x

pub onto_bound : (n m : ℕ) (ds : List ℕ) → n < 2 ^ 64 → digits_onto n ds ≡ Some m → (n ≤ m) × (m < 2 ^ 64)
onto_bound n m [] small e = let same = some_same n m e in (omega (arith, same), omega (arith, same, small))
onto_bound n m (b ∷ bs) small e =
    let d = digit_in n b m bs e in
    let h = onto_bound (n * 10 + (b - 48)) m bs d.2 d.3 in
    (omega (arith, h.0), h.1)

-- one digit more, at the end
pub grows : (n b : ℕ) → 0 < n → 48 ≤ b → b ≤ 57 → n * 10 + (b - 48) < 2 ^ 64 → decimal (n * 10 + (b - 48)) ≡ decimal n ++ b ∷ []
grows n b some low high small =
    let front : (n * 10 + (b - 48)) / 10 ≡ n = omega (arith, low, high) in
    let end : 48 + (n * 10 + (b - 48)) % 10 ≡ b = omega (arith, low, high) in
    decimal_step (n * 10 + (b - 48)) (omega (arith, some)) small ∙ (λ i. decimal (front i) ++ (end i ∷ []))

text_of_onto : (n m : ℕ) (ds : List ℕ) → 0 < n → digits_onto n ds ≡ Some m → decimal m ≡ decimal n ++ ds
text_of_onto n m [] some e = ap decimal (sym (some_same n m e)) ∙ sym (append-nil (decimal n))
text_of_onto n m (b ∷ bs) some e =
    let d = digit_in n b m bs e in
    text_of_onto (n * 10 + (b - 48)) m bs (omega (arith, some)) d.3 ∙ ap (λ l. l ++ bs) (grows n b some d.0 d.1 d.2) ∙ append_assoc (decimal n) (b ∷ []) bs

-- digits that don't begin with 0
pub magnitude_first : (b : ℕ) (bs : List ℕ) → b ≢ 48 → magnitude_of (b ∷ bs) ≡ digits_onto 0 (b ∷ bs)
magnitude_first b [] other = refl
magnitude_first b (c ∷ bs) other = let f : nat_eq b 48 ≡ false = grind (arith, nat_tests) in rw f refl

-- a spelling without a sign is 0 alone, or digits of which the first isn't 0
pub data MagnitudeIs (digits : List ℕ) (n : ℕ) : Type 0 where
  IsZero : digits ≡ 48 ∷ [] → n ≡ 0 → MagnitudeIs digits n
  IsDigits : (b : ℕ) (bs : List ℕ) → digits ≡ b ∷ bs → b ≢ 48 → digits_onto 0 (b ∷ bs) ≡ Some n → MagnitudeIs digits n

pub magnitude_is : (digits : List ℕ) (n : ℕ) → magnitude_of digits ≡ Some n → MagnitudeIs digits n
magnitude_is [] n e = absurd (cc)
magnitude_is (b ∷ []) n e = by (nat_eq b 48) refl where
  by : (t : Bool) → nat_eq b 48 ≡ t → MagnitudeIs (b ∷ []) n
  by true t =
      let same : b ≡ 48 = grind (arith, nat_tests) in
      let d = digit_in 0 b n [] e in
      IsZero (ap (λ (x : ℕ). x ∷ []) same) (omega (arith, same, some_same (0 * 10 + (b - 48)) n d.3))
  by false t = IsDigits b [] refl (grind (arith, nat_tests)) e
magnitude_is (b ∷ c ∷ bs) n e = by (nat_eq b 48) refl e where
  by : (t : Bool) → nat_eq b 48 ≡ t → (if t then None else digits_onto 0 (b ∷ c ∷ bs)) ≡ Some n → MagnitudeIs (b ∷ c ∷ bs) n
  by true t f = absurd (cc)
  by false t f = IsDigits b (c ∷ bs) refl (grind (arith, nat_tests)) f

first_digit : (b m : ℕ) (bs : List ℕ) → b ≢ 48 → digits_onto 0 (b ∷ bs) ≡ Some m → (m < 2 ^ 64) × (b ∷ bs ≡ decimal m)
first_digit b m bs other e =
    let d = digit_in 0 b m bs e in
    let is : 48 + (0 * 10 + (b - 48)) ≡ b = omega (arith, d.0) in (
      (onto_bound (0 * 10 + (b - 48)) m bs d.2 d.3).1,
      sym (text_of_onto (0 * 10 + (b - 48)) m bs (omega (arith, other, d.0)) d.3 ∙ ap (λ l. l ++ bs) (decimal_digit (0 * 10 + (b - 48)) (omega (arith, d.1)) ∙ ap (λ (x : ℕ). x ∷ []) is)),
    )

one_digit : (b m : ℕ) → digits_onto 0 (b ∷ []) ≡ Some m → (m < 2 ^ 64) × (b ∷ [] ≡ decimal m)
one_digit b m e =
    let d = digit_in 0 b m [] e in
    let same = some_same (0 * 10 + (b - 48)) m d.3 in
    let is : 48 + m ≡ b = omega (arith, same, d.0) in
    (omega (arith, same, d.2), sym (decimal_digit m (omega (arith, same, d.1)) ∙ ap (λ (x : ℕ). x ∷ []) is))

-- what digits spell is written so
pub text_of_magnitude : (b : List ℕ) (m : ℕ) → magnitude_of b ≡ Some m → (m < 2 ^ 64) × (b ≡ decimal m)
text_of_magnitude [] m e = absurd (cc)
text_of_magnitude (b ∷ []) m e = one_digit b m e
text_of_magnitude (b ∷ c ∷ bs) m e = by (nat_eq b 48) refl e where
  by : (t : Bool) → nat_eq b 48 ≡ t → (if t then None else digits_onto 0 (b ∷ c ∷ bs)) ≡ Some m → (m < 2 ^ 64) × (b ∷ c ∷ bs ≡ decimal m)
  by true t f = absurd (cc)
  by false t f = first_digit b m (c ∷ bs) (grind (arith, nat_tests)) f

abbrev Builds : ℕ → List ℕ → Type 0
Builds n ds = (m : ℕ) (rest : List ℕ) → 0 < n → n < 2 ^ 64 → digits_onto n rest ≡ Some m → magnitude_of (ds ++ rest) ≡ Some m

builds_one : (n : ℕ) → n < 10 → Builds n ((48 + n) ∷ [])
builds_one n h m rest some l e =
    let is : 0 * 10 + (48 + n - 48) ≡ n = omega arith in
    magnitude_first (48 + n) rest (omega (arith, some)) ∙ digit_on 0 (48 + n) rest (omega arith) (omega (arith, h)) (omega (arith, h)) ∙ ap (λ (i : ℕ). digits_onto i rest) is ∙ e

builds_more : (n : ℕ) (ds : List ℕ) → 10 ≤ n → Builds (n / 10) ds → Builds n (ds ++ ((48 + n % 10) ∷ []))
builds_more n ds h before m rest some l e =
    let is : n / 10 * 10 + (48 + n % 10 - 48) ≡ n = omega arith in
    let digit : n % 10 < 10 = omega arith in
    ap magnitude_of (append_assoc ds ((48 + n % 10) ∷ []) rest)
    ∙ before m ((48 + n % 10) ∷ rest) (omega (arith, h)) (omega (arith, l)) (digit_on (n / 10) (48 + n % 10) rest (omega arith) (omega (arith, digit)) (omega (arith, is, l)) ∙ ap (λ (i : ℕ). digits_onto i rest) is ∙ e)

-- what is written of a number is its spelling
pub magnitude_of_text : (n : ℕ) → n < 2 ^ 64 → magnitude_of (decimal n) ≡ Some n
magnitude_of_text zero small = ap magnitude_of (decimal_digit 0 (omega arith))
magnitude_of_text (suc n) small = ap magnitude_of (sym (append-nil (decimal (suc n)))) ∙ decimal_by_steps Builds builds_one builds_more (suc n) small (suc n) [] (omega arith) small refl

no_minus : (b m : ℕ) (bs : List ℕ) → magnitude_of (b ∷ bs) ≡ Some m → nat_eq b 45 ≡ false
no_minus b m [] e = let d = digit_in 0 b m [] e in let low = d.0 in grind (arith, nat_tests)
no_minus b m (c ∷ bs) e = by (nat_eq b 48) refl e where
  by : (t : Bool) → nat_eq b 48 ≡ t → (if t then None else digits_onto 0 (b ∷ c ∷ bs)) ≡ Some m → nat_eq b 45 ≡ false
  by true t f = absurd (cc)
  by false t f = let d = digit_in 0 b m (c ∷ bs) f in let low = d.0 in grind (arith, nat_tests)

-- an integer that digits spell
pub plain_spelled : (b : List ℕ) (n : ℕ) → n < 2 ^ 63 → magnitude_of b ≡ Some n → integer_of b ≡ Some (pos n)
plain_spelled [] n small e = absurd (cc)
plain_spelled (b ∷ bs) n small e =
    let other = no_minus b n bs e in
    let within : nat_lt n (2 ^ 63) ≡ true = grind (arith, nat_tests) in
    rw other (ap plain_integer e ∙ rw within refl)

-- an integer that digits behind a minus sign spell
pub negative_spelled : (b : List ℕ) (n : ℕ) → n < 2 ^ 63 → magnitude_of b ≡ Some (suc n) → integer_of (45 ∷ b) ≡ Some (negsuc n)
negative_spelled b n small e =
    let within : nat_lt n (2 ^ 63) ≡ true = grind (arith, nat_tests) in
    ap negative_integer e ∙ rw within refl

abbrev pub IsMagnitude : ℤ → List ℕ → Type 0
IsMagnitude (pos n) b = (n < 2 ^ 63) × (magnitude_of b ≡ Some n)
IsMagnitude (negsuc n) b = (n < 2 ^ 63) × (bs : List ℕ) × (b ≡ 45 ∷ bs) × (magnitude_of bs ≡ Some (suc n))

plain_is : (b : List ℕ) (o : Option ℕ) (z : ℤ) → magnitude_of b ≡ o → plain_integer o ≡ Some z → IsMagnitude z b
plain_is b None z e f = absurd (cc)
plain_is b (Some n) z e f = by (nat_lt n (2 ^ 63)) refl f where
  by : (t : Bool) → nat_lt n (2 ^ 63) ≡ t → (if t then Some (pos n) else None) ≡ Some z → IsMagnitude z b
  by true t g = subst (λ (o : Option ℤ). is o) g (grind (arith, nat_tests), e) where
    is : Option ℤ → Type 0
    is None = Unit {0}
    is (Some y) = IsMagnitude y b
  by false t g = absurd (cc)

negative_is : (bs : List ℕ) (o : Option ℕ) (z : ℤ) → magnitude_of bs ≡ o → negative_integer o ≡ Some z → IsMagnitude z (45 ∷ bs)
negative_is bs None z e f = absurd (cc)
negative_is bs (Some zero) z e f = absurd (cc)
negative_is bs (Some (suc n)) z e f = by (nat_lt n (2 ^ 63)) refl f where
  by : (t : Bool) → nat_lt n (2 ^ 63) ≡ t → (if t then Some (negsuc n) else None) ≡ Some z → IsMagnitude z (45 ∷ bs)
  by true t g = subst (λ (o : Option ℤ). is o) g (grind (arith, nat_tests), bs, refl, e) where
    is : Option ℤ → Type 0
    is None = Unit {0}
    is (Some y) = IsMagnitude y (45 ∷ bs)
  by false t g = absurd (cc)

-- what an integer's spelling is made of
pub integer_is : (b : List ℕ) (z : ℤ) → integer_of b ≡ Some z → IsMagnitude z b
integer_is [] z e = absurd (cc)
integer_is (b ∷ bs) z e = by (nat_eq b 45) refl e where
  by : (t : Bool) → nat_eq b 45 ≡ t → (if t then negative_integer (magnitude_of bs) else plain_integer (magnitude_of (b ∷ bs))) ≡ Some z → IsMagnitude z (b ∷ bs)
  by true t f = let same : 45 ≡ b = grind (arith, nat_tests) in subst (λ (x : ℕ). IsMagnitude z (x ∷ bs)) same (negative_is bs (magnitude_of bs) z refl f)
  by false t f = plain_is (b ∷ bs) (magnitude_of (b ∷ bs)) z refl f

text_by : (b : List ℕ) (z : ℤ) → IsMagnitude z b → b ≡ signed_decimal z
text_by b (pos n) m = (text_of_magnitude b n m.1).1
text_by b (negsuc n) m = m.2 ∙ ap (λ l. 45 ∷ l) (text_of_magnitude m.1 (suc n) m.3).1

-- what spells an integer is what is written of it
pub text_of_integer : (b : List ℕ) (z : ℤ) → integer_of b ≡ Some z → b ≡ signed_decimal z
text_of_integer b z e = text_by b z (integer_is b z e)

-- an integer of 64 bits
abbrev pub IsWord : ℤ → Type 0
IsWord (pos n) = n < 2 ^ 63
IsWord (negsuc n) = n < 2 ^ 63

-- what is written of an integer spells it
pub integer_of_text : (z : ℤ) → IsWord z → integer_of (signed_decimal z) ≡ Some z
integer_of_text (pos n) small = plain_spelled (decimal n) n small (magnitude_of_text n (omega (arith, small)))
integer_of_text (negsuc n) small = negative_spelled (decimal (suc n)) n small (magnitude_of_text (suc n) (omega (arith, small)))
