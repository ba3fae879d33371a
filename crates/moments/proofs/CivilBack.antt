-- What clock and calendar show at a moment is found again from it. This serves the proofs of code.
use Rattle.std.proofs.Common.{◌≡◌, ℕ, zero, suc, inl, inr, ◌+◌, ◌-◌, ◌*◌, ◌/◌, ◌%◌, ◌<◌, ◌≤◌, true, false, nat_lt, refl, sym, ap, ◌∙◌, subst, arith, pos, ◌+ℤ◌, unsigned_abs}
use Rattle.std.proofs.lemmas.Bool.{cases_lt}
use Rattle.std.proofs.lemmas.Bool.Decides.{nat_tests}
use Rattle.jiff_core.specs.Calendar.{days_in_month, IsDate}
use Rattle.jiff_core.specs.Time.{IsTime}
use Rattle.jiff_core.specs.declared.civil.datetime.DateTime.{DateTime}
use Rattle.moments.specs.Shown.{IsSpellable}
use Rattle.jiff_core.proofs.CalendarLemmas.{day_of_year_bound}
use Rattle.jiff_core.proofs.SignedLemmas.{signed_arith}
use Rattle.moments.specs.CivilDays.{days_to_year, days_of_first, days_from_zero, year_days, month_days}
use Rattle.moments.specs.CivilTimes.{civil_at, civil_micros, civil_on, from_zero, is_civil, micros_in_day, time_micros, year_after, year_of, month_after, month_of}
use Rattle.moments.specs.declared.civil.CivilTime.{CivilTime}
use Rattle.moments.proofs.KitCalendar.{months_is}

-- years come one after the other
in_order : (a b : ℕ) → a ≤ b → days_to_year a ≤ days_to_year b
unfolding days_to_year
in_order a zero h = let e : a ≡ 0 = omega arith in subst (λ n. days_to_year n ≤ days_to_year 0) (sym e) (omega arith)
in_order a (suc b) h =
    elim (cases_lt b a) [
      | inl above ↦ let e : a ≡ suc b = omega arith in subst (λ n. days_to_year n ≤ days_to_year (suc b)) (sym e) (omega arith)
      | inr below ↦ omega (arith, in_order a b below)
    ]

year_here : (k y m : ℕ) → m < year_days y → year_after (suc k) y m ≡ record { at = y; days = m }
unfolding year_after
year_here k y m h = let t : nat_lt m (year_days y) ≡ true = grind (arith, nat_tests) in rw t refl

year_past : (k y m r : ℕ) → year_days y ≤ m → m - year_days y ≡ r → year_after (suc k) y m ≡ year_after k (suc y) r
unfolding year_after
year_past k y m r h e = let t : nat_lt m (year_days y) ≡ false = grind (arith, nat_tests) in rw (t, e) refl

next_year : (y : ℕ) → days_to_year (suc y) ≡ days_to_year y + year_days y
unfolding days_to_year
next_year y = refl

-- the year of a day that lies n days after 1 January of a year is that year
pub year_back : (k y year n : ℕ) → y ≤ year → year < y + k → n < year_days year → year_after k y ((days_to_year year - days_to_year y) + n) ≡ record { at = year; days = n }
year_back zero y year n low high within = absurd (omega arith)
year_back (suc k) y year n low high within =
    elim (cases_lt y year) [
      | inl later ↦
          year_past k y _ ((days_to_year year - days_to_year (suc y)) + n) (omega (arith, in_order (suc y) year later, next_year y)) (omega (arith, in_order (suc y) year later, next_year y))
          ∙ year_back k (suc y) year n later (omega arith) within
      | inr same ↦
          let e : year ≡ y = omega arith in
          let none : (days_to_year year - days_to_year y) + n ≡ n = omega (arith, ap days_to_year e) in
          ap (year_after (suc k) y) none ∙ year_here k y n (subst (λ z. n < year_days z) e within) ∙ ap (λ z. record { at = z; days = n }) (sym e)
    ]

-- ---- months

months_in_order : (y a b : ℕ) → a ≤ b → days_of_first y a ≤ days_of_first y b
unfolding days_of_first
months_in_order y a zero h = let e : a ≡ 0 = omega arith in subst (λ n. days_of_first y n ≤ days_of_first y 0) (sym e) (omega arith)
months_in_order y a (suc b) h =
    elim (cases_lt b a) [
      | inl above ↦ let e : a ≡ suc b = omega arith in subst (λ n. days_of_first y n ≤ days_of_first y (suc b)) (sym e) (omega arith)
      | inr below ↦ omega (arith, months_in_order y a b below)
    ]

month_here : (k y a n : ℕ) → n < month_days y (suc a) → month_after (suc k) y (suc a) n ≡ record { at = suc a; days = n }
unfolding month_after
month_here k y a n h = let t : nat_lt n (month_days y (suc a)) ≡ true = grind (arith, nat_tests) in rw t refl

month_past : (k y a n r : ℕ) → month_days y (suc a) ≤ n → n - month_days y (suc a) ≡ r → month_after (suc k) y (suc a) n ≡ month_after k y (suc (suc a)) r
unfolding month_after
month_past k y a n r h e = let t : nat_lt n (month_days y (suc a)) ≡ false = grind (arith, nat_tests) in rw (t, e) refl

next_month : (y a : ℕ) → days_of_first y (suc a) ≡ days_of_first y a + month_days y (suc a)
unfolding days_of_first
next_month y a = refl

no_months : (y : ℕ) → days_of_first y 0 ≡ 0
unfolding days_of_first
no_months y = refl

no_years : days_to_year 0 ≡ 0
unfolding days_to_year
no_years = refl

-- the month of a day that lies n days after the first of a month is that month
month_back : (k y a b n : ℕ) → a ≤ b → b < a + k → n < month_days y (suc b) → month_after k y (suc a) ((days_of_first y b - days_of_first y a) + n) ≡ record { at = suc b; days = n }
month_back zero y a b n low high within = absurd (omega arith)
month_back (suc k) y a b n low high within =
    elim (cases_lt a b) [
      | inl later ↦
          month_past k y a _ ((days_of_first y b - days_of_first y (suc a)) + n) (omega (arith, months_in_order y (suc a) b later, next_month y a)) (omega (arith, months_in_order y (suc a) b later, next_month y a))
          ∙ month_back k y (suc a) b n later (omega arith) within
      | inr same ↦
          let e : b ≡ a = omega arith in
          let none : (days_of_first y b - days_of_first y a) + n ≡ n = omega (arith, ap (days_of_first y) e) in
          ap (month_after (suc k) y (suc a)) none ∙ month_here k y a n (subst (λ z. n < month_days y (suc z)) e within) ∙ ap (λ z. record { at = suc z; days = n }) (sym e)
    ]

-- ---- the whole

-- the parts of a date and time of the years 1 to 9999
pub record IsReal (c : CivilTime) : Type 0 where
  pub year_low : 1 ≤ c.year
  pub year_high : c.year ≤ 9999
  pub month_low : 1 ≤ c.month
  pub month_high : c.month ≤ 12
  pub day_low : 1 ≤ c.day
  pub day_high : c.day ≤ month_days c.year c.month
  pub hour_in : c.hour ≤ 23
  pub minute_in : c.minute ≤ 59
  pub second_in : c.second ≤ 59
  pub micros_in : c.micros ≤ 999999

pub real_is : (c : CivilTime) → is_civil c ≡ true → IsReal c
real_is c h = record {
  year_low = grind (arith, nat_tests);
  year_high = grind (arith, nat_tests);
  month_low = grind (arith, nat_tests);
  month_high = grind (arith, nat_tests);
  day_low = grind (arith, nat_tests);
  day_high = grind (arith, nat_tests);
  hour_in = grind (arith, nat_tests);
  minute_in = grind (arith, nat_tests);
  second_in = grind (arith, nat_tests);
  micros_in = grind (arith, nat_tests);
}

pub is_real : (c : CivilTime) → IsReal c → is_civil c ≡ true
is_real c r = grind (arith, nat_tests)

-- a datetime of the kit in a year from 1 on shows such a date and time
pub real_of : (dt : DateTime) (year micros : ℕ) → dt.date.year ≡ pos year → 1 ≤ year → micros ≤ 999999
    → IsReal (record { year = year; month = dt.date.month; day = dt.date.day; hour = dt.time.hour; minute = dt.time.minute; second = dt.time.second; micros = micros })
real_of dt year micros e low high =
    let in_month = subst (λ z. dt.date.day ≤ days_in_month z dt.date.month) e dt.date.day_in.1 in
    record {
      year_low = low;
      year_high = omega (arith, signed_arith, dt.date.year_in);
      month_low = dt.date.month_in.0;
      month_high = dt.date.month_in.1;
      day_low = dt.date.day_in.0;
      day_high = in_month;
      hour_in = omega (arith, dt.time.hour_in);
      minute_in = omega (arith, dt.time.minute_in);
      second_in = omega (arith, dt.time.second_in);
      micros_in = high;
    }

-- such a date and time is one of the kit, and so is no other
pub parts_real : (c : CivilTime) → IsSpellable c → 1 ≤ c.year → IsDate (pos c.year) (pos c.month) (pos c.day) × IsTime (pos c.hour) (pos c.minute) (pos c.second) (pos (c.micros * 1000)) → IsReal c
parts_real c s low k = record {
  year_low = low;
  year_high = omega (arith, s.year);
  month_low = omega (arith, signed_arith, k.0.1.0);
  month_high = omega (arith, signed_arith, k.0.1.1);
  day_low = omega (arith, signed_arith, k.0.2.0);
  day_high = omega (arith, signed_arith, k.0.2.1);
  hour_in = omega (arith, signed_arith, k.1.0.1);
  minute_in = omega (arith, signed_arith, k.1.1.1);
  second_in = omega (arith, signed_arith, k.1.2.1);
  micros_in = omega (arith, s.micros);
}

pub real_parts : (c : CivilTime) → IsReal c → IsDate (pos c.year) (pos c.month) (pos c.day) × IsTime (pos c.hour) (pos c.minute) (pos c.second) (pos (c.micros * 1000))
real_parts c r = (
  ((omega (arith, signed_arith), omega (arith, signed_arith, r.year_high)), (omega (arith, signed_arith, r.month_low), omega (arith, signed_arith, r.month_high)), (omega (arith, signed_arith, r.day_low), omega (arith, signed_arith, r.day_high))),
  ((omega (arith, signed_arith), omega (arith, signed_arith, r.hour_in)), (omega (arith, signed_arith), omega (arith, signed_arith, r.minute_in)), (omega (arith, signed_arith), omega (arith, signed_arith, r.second_in)), (omega (arith, signed_arith), omega (arith, signed_arith, r.micros_in))),
)

pub same_civil : (a b : CivilTime) → a.year ≡ b.year → a.month ≡ b.month → a.day ≡ b.day → a.hour ≡ b.hour → a.minute ≡ b.minute → a.second ≡ b.second → a.micros ≡ b.micros → a ≡ b
same_civil a b e1 e2 e3 e4 e5 e6 e7 = λ i. record { year = e1 i; month = e2 i; day = e3 i; hour = e4 i; minute = e5 i; second = e6 i; micros = e7 i }

-- a year's days before a date
day_within : (c : CivilTime) → IsReal c → days_of_first c.year (c.month - 1) + (c.day - 1) < year_days c.year
day_within c r =
    let bound = day_of_year_bound (pos c.year) c.month c.day ((omega (arith, signed_arith), omega (arith, signed_arith, r.year_high)), (r.month_low, r.month_high), (r.day_low, r.day_high)) in
    omega (arith, months_is c.year (c.month - 1), bound, r.day_low)

zero_is : (c : CivilTime) → from_zero (civil_micros c) ≡ days_from_zero c.year c.month c.day * micros_in_day + time_micros c
zero_is c =
    let e : civil_micros c +ℤ pos (days_to_year 1970 * micros_in_day) ≡ pos (days_from_zero c.year c.month c.day * micros_in_day + time_micros c) = omega (arith, signed_arith) in
    ap unsigned_abs e

year_is : (c : CivilTime) → IsReal c → year_of (days_from_zero c.year c.month c.day) ≡ record { at = c.year; days = days_of_first c.year (c.month - 1) + (c.day - 1) }
year_is c r =
    let e : days_from_zero c.year c.month c.day ≡ (days_to_year c.year - days_to_year 0) + (days_of_first c.year (c.month - 1) + (c.day - 1)) = omega (arith, no_years) in
    ap year_of e ∙ year_back 10000 0 c.year (days_of_first c.year (c.month - 1) + (c.day - 1)) (omega arith) (omega (arith, r.year_high)) (day_within c r)

month_is : (c : CivilTime) → IsReal c → month_of (record { at = c.year; days = days_of_first c.year (c.month - 1) + (c.day - 1) }) ≡ record { at = c.month; days = c.day - 1 }
month_is c r =
    let e : days_of_first c.year (c.month - 1) + (c.day - 1) ≡ (days_of_first c.year (c.month - 1) - days_of_first c.year 0) + (c.day - 1) = omega (arith, no_months c.year) in
    let m : suc (c.month - 1) ≡ c.month = omega (arith, r.month_low) in
    ap (month_after 12 c.year 1) e
    ∙ month_back 12 c.year 0 (c.month - 1) (c.day - 1) (omega arith) (omega (arith, r.month_high)) (subst (λ z. c.day - 1 < month_days c.year z) (sym m) (omega (arith, r.day_high, r.day_low)))
    ∙ ap (λ z. record { at = z; days = c.day - 1 }) m

time_within : (c : CivilTime) → IsReal c → time_micros c < micros_in_day
time_within c r = omega (arith, r.hour_in, r.minute_in, r.second_in, r.micros_in)

on_is : (c : CivilTime) → IsReal c → civil_on (record { at = c.year; days = days_of_first c.year (c.month - 1) + (c.day - 1) }) (time_micros c) ≡ c
on_is c r =
    same_civil _ c refl (ap (λ p. p.at) (month_is c r)) (ap (λ p. suc p.days) (month_is c r) ∙ omega (arith, r.day_low))
    (omega (arith, r.minute_in, r.second_in, r.micros_in)) (omega (arith, r.hour_in, r.minute_in, r.second_in, r.micros_in)) (omega (arith, r.hour_in, r.minute_in, r.second_in, r.micros_in)) (omega (arith, r.micros_in))

-- what clock and calendar show at the moment at which they show this is this
pub civil_back : (c : CivilTime) → IsReal c → civil_at (civil_micros c) ≡ c
unfolding civil_at
civil_back c r =
    let days : from_zero (civil_micros c) / micros_in_day ≡ days_from_zero c.year c.month c.day = omega (arith, zero_is c, time_within c r) in
    let time : from_zero (civil_micros c) % micros_in_day ≡ time_micros c = omega (arith, zero_is c, time_within c r) in
    ap (λ n. civil_on (year_of n) (from_zero (civil_micros c) % micros_in_day)) days
    ∙ ap (λ n. civil_on (year_of (days_from_zero c.year c.month c.day)) n) time
    ∙ ap (λ p. civil_on p (time_micros c)) (year_is c r)
    ∙ on_is c r
