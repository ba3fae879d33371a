-- What a calendar and a clock show in UTC, and the microseconds since 1970 at which they show it.
use Rattle.std.specs.Prelude.{ℕ, zero, suc, ◌+◌, ◌-◌, ◌*◌, ◌/◌, ◌%◌, Bool, ◌&&◌, nat_le, nat_lt, if◌then◌else◌, Option, Some, None, ℤ, pos, neg_ℤ, ◌+ℤ◌, ◌*ℤ◌, int_le, unsigned_abs}
use Rattle.moments.specs.declared.civil.CivilTime.{CivilTime}
use Rattle.moments.specs.CivilDays.{year_days, month_days, days_to_year, is_date, day_number}

-- the microseconds of a day
abbrev pub micros_in_day : ℕ
micros_in_day = 86400000000

-- a real date of the years 1 to 9999 and a time of day
abbrev pub is_civil : CivilTime → Bool
is_civil c = nat_le 1 c.year && nat_le c.year 9999 && is_date c.year c.month c.day && nat_le c.hour 23 && nat_le c.minute 59 && nat_le c.second 59 && nat_le c.micros 999999

-- microseconds since midnight
abbrev pub time_micros : CivilTime → ℕ
time_micros c = ((c.hour * 60 + c.minute) * 60 + c.second) * 1000000 + c.micros

-- microseconds since 1970
abbrev pub civil_micros : CivilTime → ℤ
civil_micros c = day_number c.year c.month c.day *ℤ pos micros_in_day +ℤ pos (time_micros c)

-- the same, if date and time are real
abbrev pub real_micros : CivilTime → Option ℤ
real_micros c = if is_civil c then Some (civil_micros c) else None

-- whether a moment lies in the years 1 to 9999
abbrev pub is_within_years : ℤ → Bool
is_within_years m = int_le (neg_ℤ (pos 62135596800000000)) m && int_le m (pos 253402300799999999)

-- ---- back from a moment

-- a year or a month, and how many days of it went by
pub record Passed : Type 0 where
  pub at : ℕ
  pub days : ℕ

-- the year in which one is n days after 1 January of year y, if it is one of k years from there on
unfoldable pub year_after : ℕ → ℕ → ℕ → Passed
year_after zero y n = record { at = y; days = n }
year_after (suc k) y n = if nat_lt n (year_days y) then record { at = y; days = n } else year_after k (suc y) (n - year_days y)

-- the month of year y in which one is n days after the first of month m, if it is one of k months from there on
unfoldable pub month_after : ℕ → ℕ → ℕ → ℕ → Passed
month_after zero y m n = record { at = m; days = n }
month_after (suc k) y m n = if nat_lt n (month_days y m) then record { at = m; days = n } else month_after k y (suc m) (n - month_days y m)

-- the year on which the day n after 1 January of year 0 falls
abbrev pub year_of : ℕ → Passed
year_of n = year_after 10000 0 n

-- the month on which the day n of a year falls
abbrev pub month_of : Passed → Passed
month_of p = month_after 12 p.at 1 p.days

-- what clock and calendar show t microseconds after a year and so many of its days
abbrev pub civil_on : Passed → ℕ → CivilTime
civil_on p t = record {
  year = p.at;
  month = (month_of p).at;
  day = suc ((month_of p).days);
  hour = t / 3600000000;
  minute = t / 60000000 % 60;
  second = t / 1000000 % 60;
  micros = t % 1000000;
}

-- the microseconds from 1 January of year 0 to a moment
abbrev pub from_zero : ℤ → ℕ
from_zero m = unsigned_abs (m +ℤ pos (days_to_year 1970 * micros_in_day))

-- what clock and calendar show at a moment of the years 1 to 9999
unfoldable pub civil_at : ℤ → CivilTime
civil_at m = civil_on (year_of (from_zero m / micros_in_day)) (from_zero m % micros_in_day)
