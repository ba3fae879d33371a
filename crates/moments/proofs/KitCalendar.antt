-- The kit's calendar has these days, and its datetimes these microseconds. This serves the proofs of code.
use Rattle.std.proofs.Common.{◌≡◌, ℕ, zero, suc, ◌+◌, ◌-◌, ◌*◌, ◌%◌, ◌^◌, ◌<◌, ◌≤◌, true, refl, ap, ◌∙◌, arith, ℤ, pos, negsuc, neg_ℤ, ◌-ℤ◌, ◌*ℤ◌, ◌≤ℤ◌, unsigned_abs}
use Rattle.std.specs.Prelude.{int_div}
use Rattle.std.proofs.lemmas.Int.{by_lt_z, ints}
use Rattle.jiff_core.specs.declared.civil.datetime.DateTime.{DateTime}
use Rattle.jiff_core.specs.Calendar.{days_of_years, days_of_months, day_count, days_from_civil, days_in_year}
use Rattle.jiff_core.proofs.CalendarLemmas.{day_count-lt_year, days_from_civil-day_count}
use Rattle.jiff_core.proofs.DateLemmas.{civil}
use Rattle.jiff_core.proofs.MarchLemmas.{day_count-early}
use Rattle.jiff_core.specs.Date.{epoch_day, IsYmd}
use Rattle.jiff_core.specs.DateTime.{civil_nanos}
use Rattle.jiff_core.specs.Time.{time_nanos, IsHms}
use Rattle.jiff_core.proofs.SignedLemmas.{signed_arith}
use Rattle.jiff_core.proofs.DateTimeLemmas.{civil_nanos-parts, time_nanos_bound}
use Rattle.moments.specs.CivilDays.{days_to_year, days_of_first, day_number, year_days}
use Rattle.moments.specs.CivilTimes.{civil_micros, is_within_years, time_micros}
use Rattle.moments.specs.Shown.{Shows}
use Rattle.moments.specs.declared.civil.CivilTime.{CivilTime}

shifted : (n : ℕ) → pos (n + 10000) -ℤ pos 10000 ≡ pos n
shifted n = omega (arith, signed_arith)

next_year : (n : ℕ) → days_of_years (suc (n + 10000)) ≡ days_of_years (n + 10000) + year_days n
unfolding days_of_years
next_year n = ap (λ z. days_of_years (n + 10000) + days_in_year z) (shifted n)

years_is : (y : ℕ) → days_of_years (y + 10000) ≡ days_of_years 10000 + days_to_year y
unfolding days_to_year
years_is zero = omega arith
years_is (suc y) =
    let e : suc y + 10000 ≡ suc (y + 10000) = omega arith in
    ap days_of_years e ∙ omega (arith, next_year y, years_is y)

-- so many months of a year have as many days by the kit
pub months_is : (y n : ℕ) → days_of_months (pos y) n ≡ days_of_first y n
unfolding days_of_months days_of_first
months_is y zero = refl
months_is y (suc n) = omega (arith, months_is y n)

count_is : (y m d : ℕ) → 1 ≤ d → day_count (pos y) m d ≡ days_of_years 10000 + (days_to_year y + (days_of_first y (m - 1) + (d - 1)))
unfolding day_count
count_is y m d h = omega (arith, years_is y, months_is y (m - 1))

no_month : days_of_first 1970 0 ≡ 0
unfolding days_of_first
no_month = refl

first_is : day_count (pos 1970) 1 1 ≡ days_of_years 10000 + days_to_year 1970
first_is = omega (arith, count_is 1970 1 1 (omega arith), no_month)

-- the kit's day number of a date of the years from 0 on is its day number
pub day_is : (y m d : ℕ) → 1 ≤ d → days_from_civil (pos y) m d ≡ day_number y m d
unfolding days_from_civil
day_is y m d h = omega (arith, signed_arith, count_is y m d h, first_is)

time_is : (c : CivilTime) (dt : DateTime) → Shows c dt → time_nanos dt.time ≡ time_micros c * 1000
time_is c dt s = omega (arith, s.hour, s.minute, s.second, s.nanos)

date_is : (c : CivilTime) (dt : DateTime) → Shows c dt → epoch_day dt.date ≡ day_number c.year c.month c.day
date_is c dt s = rw (s.year, s.month, s.day) (day_is c.year c.month c.day (let d : 1 ≤ dt.date.day = dt.date.day_in.0 in omega (arith, s.day)))

-- a datetime that shows a date and time has its microseconds
pub micros_is : (c : CivilTime) (dt : DateTime) → Shows c dt → civil_nanos dt ≡ civil_micros c *ℤ pos 1000
micros_is c dt s = omega (arith, signed_arith, civil_nanos-parts dt, date_is c dt s, time_is c dt s)

-- whole microseconds are divided out
pub divided : (z : ℤ) → int_div (z *ℤ pos 1000) (pos 1000) ≡ z
divided z = omega (arith, signed_arith)

-- 1970 begins at 0
pub epoch_is : (dt : DateTime) → IsYmd (pos 1970) (pos 1) (pos 1) dt.date → IsHms (pos 0) (pos 0) (pos 0) (pos 0) dt.time → civil_nanos dt ≡ pos 0
epoch_is dt d t =
    let first : Shows (record { year = 1970; month = 1; day = 1; hour = 0; minute = 0; second = 0; micros = 0 }) dt = record {
      year = d.0;
      month = omega (arith, signed_arith, d.1);
      day = omega (arith, signed_arith, d.2);
      hour = omega (arith, signed_arith, t.0);
      minute = omega (arith, signed_arith, t.1);
      second = omega (arith, signed_arith, t.2);
      nanos = omega (arith, signed_arith, t.3);
    } in
    micros_is _ dt first ∙ omega (arith, signed_arith, no_month)

-- a moment of the years 1 to 9999 is shown by such a year, in whole microseconds
first_year : day_count (pos 1) 1 1 ≡ 3652791
first_year = day_count-early (pos 1) 10000 1 1 refl (omega arith) (omega arith) (omega arith)

pub within_is : (m : ℤ) → is_within_years m ≡ true → (neg_ℤ (pos 62135596800000000) ≤ℤ m) × (m ≤ℤ pos 253402300799999999)
within_is m h = (grind (arith, ints), grind (arith, ints))

pub year_low : (dt : DateTime) (m : ℤ) → is_within_years m ≡ true → civil_nanos dt ≡ m *ℤ pos 1000 → pos 1 ≤ℤ dt.date.year
year_low dt m within e =
    by_lt_z dt.date.year (pos 1)
    (λ before.
    let earlier = day_count-lt_year dt.date.year dt.date.month dt.date.day (pos 1) 1 1 (civil dt.date) (omega arith) before in
    absurd (omega (arith, signed_arith, earlier, first_year, days_from_civil-day_count dt.date.year dt.date.month dt.date.day, civil_nanos-parts dt, time_nanos_bound dt.time, (within_is m within).0)))
    (λ low. low)

pub whole_micros : (dt : DateTime) (m : ℤ) → civil_nanos dt ≡ m *ℤ pos 1000 → dt.time.subsec_nanosecond % 1000 ≡ 0
whole_micros dt m e = omega (arith, signed_arith, civil_nanos-parts dt)

-- a number from 1 on is its own size
pub size_is : (z : ℤ) → pos 1 ≤ℤ z → z ≡ pos (unsigned_abs z)
size_is (pos n) h = refl
size_is (negsuc n) h = absurd (omega (arith, signed_arith))

pub small_is : (z : ℤ) → pos 1 ≤ℤ z → z ≤ℤ pos 9999 → unsigned_abs z < 2 ^ 15
small_is (pos n) low high = omega (arith, signed_arith)
small_is (negsuc n) low high = absurd (omega (arith, signed_arith))
