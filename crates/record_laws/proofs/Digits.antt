-- A number tells itself and its end, where no digit follows.
use Rattle.std.proofs.Common.{◌≡◌, ℕ, ℤ, pos, negsuc, suc, ◌+◌, ◌<◌, ◌^◌, Bool, true, false, not, List, [], ◌∷◌, ◌++◌, refl, sym, ap, ◌∙◌, arith, rules, length}
use Rattle.std.specs.Prelude.{decimal, ◌&&◌, nat_eq, nat_lt}
use Rattle.std.proofs.lemmas.Bool.Decides.{nat_tests}
use Rattle.history_records.specs.Recordable.{is_integer}
use Rattle.std.specs.Char.{is_ascii_digit}
use Rattle.std.specs.List.{list_all}
use Rattle.std.specs.Fmt.{signed_decimal}
use Rattle.std.specs.Str.Parse.{digits_value}
use Rattle.std.proofs.lemmas.Fmt.{decimal_injective, digits_decimal, decimal_nonempty}
use Rattle.std.proofs.lemmas.Str.Parse.{IsNumeralModel, numerals_by_value}
use Rattle.record_laws.proofs.Apart.{heads, tails}

-- no digit stands first
abbrev pub no_digit : List ℕ → Bool
no_digit [] = true
no_digit (b ∷ bs) = not (is_ascii_digit b)

true_false : (b : Bool) → b ≡ true → not b ≡ true → ⊥
true_false true e f = cc
true_false false e f = cc

both : (a b : Bool) → (a && b) ≡ true → (a ≡ true) × (b ≡ true)
both true b e = (refl, e)
both false b e = cc

pub digits_apart : (xs ys r s : List ℕ) → list_all is_ascii_digit xs ≡ true → list_all is_ascii_digit ys ≡ true → no_digit r ≡ true → no_digit s ≡ true → xs ++ r ≡ ys ++ s → (xs ≡ ys) × (r ≡ s)
digits_apart [] [] r s a b c d e = (refl, e)
digits_apart [] (y ∷ ys) r s a b c d e = absurd (true_false (is_ascii_digit y) (both _ _ b).0 (sym (ap no_digit e) ∙ c))
digits_apart (x ∷ xs) [] r s a b c d e = absurd (true_false (is_ascii_digit x) (both _ _ a).0 (ap no_digit e ∙ d))
digits_apart (x ∷ xs) (y ∷ ys) r s a b c d e =
    let h = digits_apart xs ys r s (both _ _ a).1 (both _ _ b).1 c d (tails x y _ _ e) in
    let g = heads x y _ _ e in
    ((λ i. g i ∷ h.0 i), h.1)

own : IsNumeralModel (λ ds. list_all is_ascii_digit ds ≡ true) (digits_value 10)
own = numerals_by_value (λ ds. list_all is_ascii_digit ds ≡ true) (search rules)

pub decimal_digits : (n : ℕ) → n < 2 ^ 64 → list_all is_ascii_digit (decimal n) ≡ true
decimal_digits n h = digits_decimal own n h

pub decimal_apart : (m n : ℕ) (r s : List ℕ) → m < 2 ^ 64 → n < 2 ^ 64 → no_digit r ≡ true → no_digit s ≡ true → decimal m ++ r ≡ decimal n ++ s → (m ≡ n) × (r ≡ s)
decimal_apart m n r s a b c d e =
    let h = digits_apart (decimal m) (decimal n) r s (decimal_digits m a) (decimal_digits n b) c d e in
    (decimal_injective m n a b h.0, h.1)

-- ---- integers

-- an integer's sign
is_minus : List ℕ → Bool
is_minus [] = false
is_minus (b ∷ bs) = nat_eq b 45

digit_no_minus : (n : ℕ) (r : List ℕ) → n < 2 ^ 64 → is_minus (decimal n ++ r) ≡ false
unfolding is_minus
digit_no_minus n r h = by (decimal n) (decimal_digits n h) (decimal_nonempty n h) where
  by : (ds : List ℕ) → list_all is_ascii_digit ds ≡ true → 0 < length ds → is_minus (ds ++ r) ≡ false
  by [] a some = absurd (omega arith)
  by (d ∷ ds) a some = let is : is_ascii_digit d ≡ true = (both _ _ a).0 in grind (arith, nat_tests, is)

minus_clash : (b : Bool) → b ≡ false → b ≡ true → ⊥
minus_clash true e f = cc
minus_clash false e f = cc

bound : (n : ℕ) → nat_lt n (2 ^ 63) ≡ true → n < 2 ^ 64
bound n h = let lt : n < 2 ^ 63 = grind (arith, nat_tests) in omega (arith, lt)

bound_more : (n : ℕ) → nat_lt n (2 ^ 63) ≡ true → suc n < 2 ^ 64
bound_more n h = let lt : n < 2 ^ 63 = grind (arith, nat_tests) in omega (arith, lt)

pub signed_apart : (y z : ℤ) (r s : List ℕ) → is_integer y ≡ true → is_integer z ≡ true → no_digit r ≡ true → no_digit s ≡ true → signed_decimal y ++ r ≡ signed_decimal z ++ s → (y ≡ z) × (r ≡ s)
unfolding is_minus
signed_apart (pos m) (pos n) r s a b c d e =
    let m' : m < 2 ^ 64 = bound m a in
    let n' : n < 2 ^ 64 = bound n b in
    let h = decimal_apart m n r s m' n' c d e in
    ((λ i. pos (h.0 i)), h.1)
signed_apart (pos m) (negsuc n) r s a b c d e = absurd (minus_clash _ (digit_no_minus m r (bound m a)) (ap is_minus e))
signed_apart (negsuc m) (pos n) r s a b c d e = absurd (minus_clash _ (digit_no_minus n s (bound n b)) (sym (ap is_minus e)))
signed_apart (negsuc m) (negsuc n) r s a b c d e =
    let h = decimal_apart (suc m) (suc n) r s (bound_more m a) (bound_more n b) c d (tails 45 45 _ _ e) in
    let same : m ≡ n = omega (arith, h.0) in
    ((λ i. negsuc (same i)), h.1)
