-- The text of each moment of the years 1 to 9999 is read as that moment.
use Rattle.std.proofs.Common.{◌≡◌, ℕ, zero, suc, inl, inr, ◌+◌, ◌-◌, ◌*◌, ◌/◌, ◌%◌, ◌<◌, ◌≤◌, true, false, nat_lt, Some, refl, sym, ap, ◌∙◌, subst, arith, ℤ, pos, neg_ℤ, ◌+ℤ◌, ◌≤ℤ◌, unsigned_abs}
use Rattle.std.proofs.lemmas.Bool.{cases_lt}
use Rattle.std.proofs.lemmas.Bool.Decides.{nat_tests}
use Rattle.jiff_core.specs.Calendar.{day_count}
use Rattle.jiff_core.proofs.CalendarLemmas.{days_from_civil-day_count}
use Rattle.jiff_core.proofs.DateLemmas.{days_from_civil-max}
use Rattle.jiff_core.proofs.MarchLemmas.{day_count-early}
use Rattle.jiff_core.proofs.SignedLemmas.{signed_arith}
use Rattle.moments.specs.CivilDays.{days_from_zero, days_of_first, days_to_year, month_days, year_days}
use Rattle.moments.specs.CivilTimes.{Passed, civil_at, civil_micros, civil_on, from_zero, is_within_years, micros_in_day, month_after, time_micros, year_after, year_of}
use Rattle.moments.specs.MomentTexts.{civil_text, moment_of, moment_text}
use Rattle.moments.specs.declared.civil.CivilTime.{CivilTime}
use Rattle.moments.proofs.CivilBack.{IsReal, is_real}
use Rattle.moments.proofs.KitCalendar.{day_is, size_is, within_is}
use Rattle.moments.proofs.TextsBack.{text_back}

-- ---- counts of days

next_year : (y : ℕ) → days_to_year (suc y) ≡ days_to_year y + year_days y
unfolding days_to_year
next_year y = refl

no_years : days_to_year 0 ≡ 0
unfolding days_to_year
no_years = refl

next_month : (y a : ℕ) → days_of_first y (suc a) ≡ days_of_first y a + month_days y (suc a)
unfolding days_of_first
next_month y a = refl

no_months : (y : ℕ) → days_of_first y 0 ≡ 0
unfolding days_of_first
no_months y = refl

eleven_months : days_of_first 9999 11 ≡ 334
unfolding days_of_first
eleven_months = refl

twelve_months : (y : ℕ) → days_of_first y 12 ≡ year_days y
unfolding days_of_first
twelve_months y = grind arith

first_day : day_count (pos 1) 1 1 ≡ 3652791
first_day = day_count-early (pos 1) 10000 1 1 refl (omega arith) (omega arith) (omega arith)

one_year : days_to_year 1 ≡ 366
one_year = omega (arith, next_year 0, no_years)

pub epoch_days : days_to_year 1970 ≡ 719528
epoch_days =
    let low = day_is 1 1 1 (omega arith) in
    omega (arith, signed_arith, low, first_day, days_from_civil-day_count (pos 1) 1 1, one_year, no_months 1)

pub last_days : days_to_year 10000 ≡ 3652425
last_days =
    let high = day_is 9999 12 31 (omega arith) in
    omega (arith, signed_arith, high, days_from_civil-max, epoch_days, eleven_months, next_year 9999)

-- ---- the year and the month of a day

record IsYearOf (y n k : ℕ) (p : Passed) : Type 0 where
  within : p.days < year_days p.at
  sum : days_to_year p.at + p.days ≡ days_to_year y + n
  low : y ≤ p.at
  high : p.at < y + k

year_here : (k y m : ℕ) → m < year_days y → year_after (suc k) y m ≡ record { at = y; days = m }
unfolding year_after
year_here k y m h = let t : nat_lt m (year_days y) ≡ true = grind (arith, nat_tests) in rw t refl

year_past : (k y m : ℕ) → year_days y ≤ m → year_after (suc k) y m ≡ year_after k (suc y) (m - year_days y)
unfolding year_after
year_past k y m h = let t : nat_lt m (year_days y) ≡ false = grind (arith, nat_tests) in rw t refl

year_found : (k y n : ℕ) → days_to_year y + n < days_to_year (y + k) → IsYearOf y n k (year_after k y n)
year_found zero y n h = let e : y + 0 ≡ y = omega arith in absurd (omega (arith, ap days_to_year e))
year_found (suc k) y n h =
    elim (cases_lt n (year_days y)) [
      | inl here ↦ subst (IsYearOf y n (suc k)) (sym (year_here k y n here)) (record { within = here; sum = refl; low = omega arith; high = omega arith })
      | inr past ↦
          let e : suc y + k ≡ y + suc k = omega arith in
          let i = year_found k (suc y) (n - year_days y) (omega (arith, next_year y, ap days_to_year e)) in
          subst (IsYearOf y n (suc k)) (sym (year_past k y n past)) (record { within = i.within; sum = omega (arith, i.sum, next_year y); low = omega (arith, i.low); high = omega (arith, i.high) })
    ]

record IsMonthOf (y a n k : ℕ) (p : Passed) : Type 0 where
  within : p.days < month_days y p.at
  sum : days_of_first y (p.at - 1) + p.days ≡ days_of_first y a + n
  low : suc a ≤ p.at
  high : p.at ≤ a + k

month_here : (k y a n : ℕ) → n < month_days y (suc a) → month_after (suc k) y (suc a) n ≡ record { at = suc a; days = n }
unfolding month_after
month_here k y a n h = let t : nat_lt n (month_days y (suc a)) ≡ true = grind (arith, nat_tests) in rw t refl

month_past : (k y a n : ℕ) → month_days y (suc a) ≤ n → month_after (suc k) y (suc a) n ≡ month_after k y (suc (suc a)) (n - month_days y (suc a))
unfolding month_after
month_past k y a n h = let t : nat_lt n (month_days y (suc a)) ≡ false = grind (arith, nat_tests) in rw t refl

month_found : (k y a n : ℕ) → days_of_first y a + n < days_of_first y (a + k) → IsMonthOf y a n k (month_after k y (suc a) n)
month_found zero y a n h = let e : a + 0 ≡ a = omega arith in absurd (omega (arith, ap (days_of_first y) e))
month_found (suc k) y a n h =
    elim (cases_lt n (month_days y (suc a))) [
      | inl here ↦
          let e : suc a - 1 ≡ a = omega arith in
          subst (IsMonthOf y a n (suc k)) (sym (month_here k y a n here)) (record { within = here; sum = ap (λ z. days_of_first y z + n) e; low = omega arith; high = omega arith })
      | inr past ↦
          let e : suc a + k ≡ a + suc k = omega arith in
          let i = month_found k y (suc a) (n - month_days y (suc a)) (omega (arith, next_month y a, ap (days_of_first y) e)) in
          subst (IsMonthOf y a n (suc k)) (sym (month_past k y a n past)) (record { within = i.within; sum = omega (arith, i.sum, next_month y a); low = omega (arith, i.low); high = omega (arith, i.high) })
    ]

-- ---- what is shown at a moment

-- what is shown so many days and microseconds after 1 January of year 0 is real, and lies as far from it
record IsShownAt (days time : ℕ) (c : CivilTime) : Type 0 where
  real : IsReal c
  days_are : days_from_zero c.year c.month c.day ≡ days
  time_is : time_micros c ≡ time

from_one : (days : ℕ) → 366 ≤ days → (p : Passed) → IsYearOf 0 days 10000 p → 1 ≤ p.at
from_one days low p y =
    elim (cases_lt 0 p.at) [
      | inl h ↦ h
      | inr none ↦
          let e : p.at ≡ 0 = omega arith in
          let w : p.days < 366 = subst (λ a. p.days < year_days a) e y.within in
          absurd (omega (arith, y.sum, ap days_to_year e, w))
    ]

shown : (days time : ℕ) → 366 ≤ days → days < 3652425 → time < micros_in_day → IsShownAt days time (civil_on (year_of days) time)
shown days time low high short =
    let y = year_found 10000 0 days (omega (arith, no_years, last_days)) in
    let p = year_of days in
    let first : 1 ≤ p.at = from_one days low p y in
    let m = month_found 12 p.at 0 p.days (omega (arith, y.within, twelve_months p.at, no_months p.at)) in
    record {
      real = record {
        year_low = first;
        year_high = omega (arith, y.high);
        month_low = m.low;
        month_high = m.high;
        day_low = omega arith;
        day_high = m.within;
        hour_in = omega arith;
        minute_in = omega arith;
        second_in = omega arith;
        micros_in = omega arith;
      };
      days_are = omega (arith, y.sum, m.sum, no_years, no_months p.at);
      time_is = omega arith;
    }

from_zero_is : (m : ℤ) → is_within_years m ≡ true → pos (from_zero m) ≡ m +ℤ pos (719528 * micros_in_day)
from_zero_is m h =
    let low : pos 1 ≤ℤ (m +ℤ pos (719528 * micros_in_day)) = omega (arith, signed_arith, (within_is m h).0) in
    ap (λ e. pos (unsigned_abs (m +ℤ pos (e * micros_in_day)))) epoch_days ∙ sym (size_is (m +ℤ pos (719528 * micros_in_day)) low)

at_shown : (m : ℤ) → civil_at m ≡ civil_on (year_of (from_zero m / micros_in_day)) (from_zero m % micros_in_day)
unfolding civil_at
at_shown m = refl

same_micros : (m : ℤ) (c : CivilTime) → IsShownAt (from_zero m / micros_in_day) (from_zero m % micros_in_day) c → pos (from_zero m) ≡ m +ℤ pos (719528 * micros_in_day) → civil_micros c ≡ m
same_micros m c i at = omega (arith, signed_arith, i.days_are, i.time_is, at, epoch_days)

back : (m : ℤ) → is_within_years m ≡ true → (c : CivilTime) → c ≡ civil_on (year_of (from_zero m / micros_in_day)) (from_zero m % micros_in_day) → IsShownAt (from_zero m / micros_in_day) (from_zero m % micros_in_day) (civil_on (year_of (from_zero m / micros_in_day)) (from_zero m % micros_in_day))
    → pos (from_zero m) ≡ m +ℤ pos (719528 * micros_in_day) → moment_of (civil_text c) ≡ Some m
back m h c e s at =
    let i = subst (IsShownAt (from_zero m / micros_in_day) (from_zero m % micros_in_day)) (sym e) s in
    let same = same_micros m c i at in
    text_back c i.real (is_real c i.real) (ap is_within_years same ∙ h) ∙ ap Some same

pub moments_back : (m : ℤ) → is_within_years m ≡ true → moment_of (moment_text m) ≡ Some m
moments_back m h =
    let at = from_zero_is m h in
    let bounds = within_is m h in
    let s = shown (from_zero m / micros_in_day) (from_zero m % micros_in_day) (omega (arith, signed_arith, at, bounds.0)) (omega (arith, signed_arith, at, bounds.1)) (omega arith) in
    back m h (civil_at m) (at_shown m) s at

pub years_end : (civil_micros (record { year = 1; month = 1; day = 1; hour = 0; minute = 0; second = 0; micros = 0 }) ≡ neg_ℤ (pos 62135596800000000))
    × (civil_micros (record { year = 9999; month = 12; day = 31; hour = 23; minute = 59; second = 59; micros = 999999 }) ≡ pos 253402300799999999)
years_end = (omega (arith, signed_arith, epoch_days, one_year, no_months 1), omega (arith, signed_arith, epoch_days, eleven_months, last_days, next_year 9999))
