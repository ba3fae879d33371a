-- The text that is written for what clock and calendar show is read as that. This serves the proofs of code.
use Rattle.std.proofs.Common.{◌≡◌, ℕ, zero, suc, ◌+◌, ◌-◌, ◌*◌, ◌/◌, ◌%◌, ◌<◌, ◌≤◌, ◌++◌, ◌∷◌, [], List, Bool, true, false, ◌==◌, nat_eq, cond, codes, Some, refl, ap, arith, pos, ◌-ℤ◌}
use Rattle.std.specs.Str.{IsAscii, IsUtf8}
use Rattle.std.proofs.lemmas.Str.{IsAscii-append, IsUtf8-from_ascii}
use Rattle.std.proofs.lemmas.Bool.Decides.{nat_tests}
use Rattle.jiff_core.proofs.SignedLemmas.{signed_arith}
use Rattle.moments.specs.CivilDays.{month_days}
use Rattle.moments.specs.CivilTimes.{civil_micros, is_civil, is_within_years}
use Rattle.moments.specs.MomentTexts.{civil_text, digit_count, fraction_micros, fraction_tail, fraction_text, front_civil, front_text, is_digit, moment_of, offset_minutes, tail_of, two_digits, two_text, zone_minutes}
use Rattle.moments.specs.declared.civil.CivilTime.{CivilTime}
use Rattle.moments.proofs.CivilBack.{IsReal, same_civil}

digit_is : (n : ℕ) → is_digit (48 + n % 10) ≡ true
digit_is n = grind (arith, nat_tests)

two_is : (n : ℕ) → two_digits (48 + n / 10 % 10) (48 + n % 10) ≡ Some (n % 100)
two_is n = rw (digit_is (n / 10), digit_is n) (let e : ((48 + n / 10 % 10) - 48) * 10 + ((48 + n % 10) - 48) ≡ n % 100 = omega arith in ap Some e)

month_short : (y m : ℕ) → month_days y m ≤ 31
month_short y m = grind arith

front_back : (c : CivilTime) → IsReal c → (rest : List ℕ) → front_civil (front_text c ++ rest) ≡ Some (record c { micros = 0 })
unfolding front_civil
front_back c r rest =
    rw (two_is (c.year / 100), two_is c.year, two_is c.month, two_is c.day, two_is c.hour, two_is c.minute, two_is c.second)
    (let e : record { year = c.year / 100 % 100 * 100 + c.year % 100; month = c.month % 100; day = c.day % 100; hour = c.hour % 100; minute = c.minute % 100; second = c.second % 100; micros = 0 } ≡ record c { micros = 0 } =
    same_civil _ _ (omega (arith, r.year_high)) (omega (arith, r.month_high)) (omega (arith, r.day_high, month_short c.year c.month)) (omega (arith, r.hour_in)) (omega (arith, r.minute_in)) (omega (arith, r.second_in)) refl in ap Some e)

no_offset : zone_minutes (codes "+00:00") ≡ Some (pos 0)
unfolding offset_minutes
no_offset = refl

digits_counted : (n : ℕ) → digit_count (two_text (n / 10000) ++ two_text (n / 100) ++ two_text n ++ codes "+00:00") ≡ 6
digits_counted n = rw (digit_is (n / 10000 / 10), digit_is (n / 10000), digit_is (n / 100 / 10), digit_is (n / 100), digit_is (n / 10), digit_is n) refl

fraction_back : (n : ℕ) → n ≤ 999999 → fraction_micros (two_text (n / 10000) ++ two_text (n / 100) ++ two_text n) ≡ Some n
unfolding fraction_micros
fraction_back n h = rw (two_is (n / 10000), two_is (n / 100), two_is n) (let e : (n / 10000 % 100 * 100 + n / 100 % 100) * 100 + n % 100 ≡ n = omega arith in ap Some e)

some_tail : (n : ℕ) → n ≤ 999999 → fraction_tail (two_text (n / 10000) ++ two_text (n / 100) ++ two_text n ++ codes "+00:00") ≡ Some (record { micros = n; offset = pos 0 })
unfolding fraction_tail
some_tail n h = rw (digits_counted n, fraction_back n h, no_offset) refl

tail_back : (n : ℕ) → n ≤ 999999 → tail_of (fraction_text n ++ codes "+00:00") ≡ Some (record { micros = n; offset = pos 0 })
tail_back zero h = rw no_offset refl
tail_back (suc n) h = let t : nat_eq (suc n) 0 ≡ false = grind (arith, nat_tests) in rw t (some_tail (suc n) h)

-- the text of what clock and calendar show is read as the moment at which they show it
pub text_back : (c : CivilTime) → IsReal c → is_civil c ≡ true → is_within_years (civil_micros c) ≡ true → moment_of (civil_text c) ≡ Some (civil_micros c)
unfolding moment_of
text_back c r civil within = rw (front_back c r (fraction_text c.micros ++ codes "+00:00"), tail_back c.micros r.micros_in, civil)
    (let e : civil_micros c -ℤ pos 0 ≡ civil_micros c = omega (arith, signed_arith) in rw (e, within) refl)

-- ---- ASCII

ascii_none : IsAscii []
ascii_none i = omega arith

ascii_cons : (a : ℕ) (xs : List ℕ) → a < 128 → IsAscii xs → IsAscii (a ∷ xs)
ascii_cons a xs h k zero = h
ascii_cons a xs h k (suc i) = k i

ascii_one : (a : ℕ) → a < 128 → IsAscii (a ∷ [])
ascii_one a h = ascii_cons a [] h ascii_none

ascii_two : (n : ℕ) → IsAscii (two_text n)
ascii_two n = ascii_cons (48 + n / 10 % 10) ((48 + n % 10) ∷ []) (omega arith) (ascii_one (48 + n % 10) (omega arith))

-- two digits and a byte before them
ascii_three : (a n : ℕ) → a < 128 → IsAscii (a ∷ two_text n)
ascii_three a n h = ascii_cons a (two_text n) h (ascii_two n)

ascii_digits : (n : ℕ) → IsAscii (codes "." ++ two_text (n / 10000) ++ two_text (n / 100) ++ two_text n)
ascii_digits n = IsAscii-append (46 ∷ two_text (n / 10000)) (two_text (n / 100) ++ two_text n) (ascii_three 46 (n / 10000) (omega arith)) (IsAscii-append (two_text (n / 100)) (two_text n) (ascii_two (n / 100)) (ascii_two n))

ascii_fraction : (n : ℕ) → IsAscii (fraction_text n)
ascii_fraction n = go (n == 0)
  where
    go : (b : Bool) → IsAscii (cond b [] (codes "." ++ two_text (n / 10000) ++ two_text (n / 100) ++ two_text n))
    go true = ascii_none
    go false = ascii_digits n

ascii_time : (c : CivilTime) → IsAscii ((84 ∷ two_text c.hour) ++ ((58 ∷ two_text c.minute) ++ (58 ∷ two_text c.second)))
ascii_time c =
    IsAscii-append (84 ∷ two_text c.hour) ((58 ∷ two_text c.minute) ++ (58 ∷ two_text c.second)) (ascii_three 84 c.hour (omega arith))
    (IsAscii-append (58 ∷ two_text c.minute) (58 ∷ two_text c.second) (ascii_three 58 c.minute (omega arith)) (ascii_three 58 c.second (omega arith)))

ascii_date : (c : CivilTime) → IsAscii ((two_text (c.year / 100) ++ two_text c.year) ++ ((45 ∷ two_text c.month) ++ (45 ∷ two_text c.day)))
ascii_date c =
    IsAscii-append (two_text (c.year / 100) ++ two_text c.year) ((45 ∷ two_text c.month) ++ (45 ∷ two_text c.day))
    (IsAscii-append (two_text (c.year / 100)) (two_text c.year) (ascii_two (c.year / 100)) (ascii_two c.year))
    (IsAscii-append (45 ∷ two_text c.month) (45 ∷ two_text c.day) (ascii_three 45 c.month (omega arith)) (ascii_three 45 c.day (omega arith)))

ascii_front : (c : CivilTime) → IsAscii (front_text c)
ascii_front c =
    IsAscii-append ((two_text (c.year / 100) ++ two_text c.year) ++ ((45 ∷ two_text c.month) ++ (45 ∷ two_text c.day))) ((84 ∷ two_text c.hour) ++ ((58 ∷ two_text c.minute) ++ (58 ∷ two_text c.second))) (ascii_date c) (ascii_time c)

ascii_zone : IsAscii (codes "+00:00")
ascii_zone = IsAscii-append (43 ∷ 48 ∷ 48 ∷ []) (58 ∷ 48 ∷ 48 ∷ []) (ascii_three 43 0 (omega arith)) (ascii_three 58 0 (omega arith))

-- what is written is ASCII
pub text_utf8 : (c : CivilTime) → IsUtf8 (civil_text c)
text_utf8 c =
    IsUtf8-from_ascii (civil_text c)
    (IsAscii-append (front_text c ++ fraction_text c.micros) (codes "+00:00") (IsAscii-append (front_text c) (fraction_text c.micros) (ascii_front c) (ascii_fraction c.micros)) ascii_zone)
