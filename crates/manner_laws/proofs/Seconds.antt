-- The text of a moment less some seconds tells the seconds.
use Rattle.std.proofs.Common.{arith, ◌≡◌, ℕ, ◌+◌, ◌-◌, ◌^◌, ◌<◌, ◌≤◌, ◌%◌, [], ◌∷◌, ◌++◌, Bool, true, false, not, ◌==◌, refl, ap, ◌∙◌, decimal}
use Rattle.std.specs.Prelude.{nat_le, if◌then◌else◌}
use Rattle.std.specs.Str.Parse.{digits_value}
use Rattle.std.proofs.lemmas.Bool.Decides.{nat_tests}
use Rattle.std.proofs.lemmas.Fmt.{decimal_by_steps_wide, decimal_is_IsNumeral_wide}
use Rattle.queue_keys.specs.Names.{Bytes}
use Rattle.queue_keys.specs.Texts.{difference}
use Rattle.manner_laws.specs.Cursor.{seconds_before}
use Rattle.manner_laws.proofs.Tests.{false_true, le_true}

-- whether it begins, and not with a minus sign
abbrev is_plain : Bytes → Bool
is_plain [] = false
is_plain (b ∷ bs) = not (b == 45)

digit_plain : (d : ℕ) → d < 10 → not ((48 + d) == 45) ≡ true
digit_plain d h = grind (arith, nat_tests)

plain_more : (ds : Bytes) (x : ℕ) → is_plain ds ≡ true → is_plain (ds ++ x ∷ []) ≡ true
plain_more [] x e = false_true e
plain_more (b ∷ ds) x e = e

decimal_plain : (n : ℕ) → n < 10 ^ 64 → is_plain (decimal n) ≡ true
decimal_plain n h = decimal_by_steps_wide (λ n ds. is_plain ds ≡ true) (λ n i. digit_plain n i) (λ n ds i e. plain_more ds (48 + n % 10) e) n h

plain_seconds : (a : ℕ) (ds : Bytes) → is_plain ds ≡ true → seconds_before a ds ≡ a - digits_value 10 ds
plain_seconds a [] e = false_true e
plain_seconds a (b ∷ bs) e = go (b == 45) e
  where
    go : (t : Bool) → not t ≡ true → (if t then a + digits_value 10 bs else a - digits_value 10 (b ∷ bs)) ≡ a - digits_value 10 (b ∷ bs)
    go true f = false_true f
    go false f = refl

wide : (n : ℕ) → n < 2 ^ 64 → n < 10 ^ 64
wide n h = omega arith

less : (a b : ℕ) → a < 2 ^ 64 → a - b < 2 ^ 64
less a b h = omega arith

longer : (v : ℕ) → v < 2 ^ 32 → v < 2 ^ 64
longer v h = omega arith

back : (a v : ℕ) → v ≤ a → a - (a - v) ≡ v
back a v h = omega arith

forth : (a v : ℕ) → a ≤ v → a + (v - a) ≡ v
forth a v h = omega arith

not_le : (a v : ℕ) → nat_le v a ≡ false → a ≤ v
not_le a v e = grind (arith, nat_tests)

pub seconds_before-difference : (a v : ℕ) → a < 2 ^ 64 → v < 2 ^ 32 → seconds_before a (difference a v) ≡ v
seconds_before-difference a v h i = go (nat_le v a) refl
  where
    go : (t : Bool) → nat_le v a ≡ t → seconds_before a (if t then decimal (a - v) else 45 ∷ decimal (v - a)) ≡ v
    go true e =
        let w = wide (a - v) (less a v h) in
        plain_seconds a (decimal (a - v)) (decimal_plain (a - v) w) ∙ ap (λ z. a - z) (decimal_is_IsNumeral_wide (a - v) w).1 ∙ back a v (le_true v a e)
    go false e = let w = wide (v - a) (less v a (longer v i)) in ap (λ z. a + z) (decimal_is_IsNumeral_wide (v - a) w).1 ∙ forth a v (not_le a v e)
