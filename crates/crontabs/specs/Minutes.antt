-- Minutes of the calendar in UTC, and when they begin.
use Rattle.std.specs.Prelude.{ℕ, ◌+◌, ◌*◌, ◌%◌, Bool, ◌&&◌, nat_le, unsigned_abs}
use Rattle.moments.specs.CivilDays.{day_number, is_date}

-- a date and a minute of its day
pub record Minute : Type 0 where
  pub year : ℕ
  pub month : ℕ
  pub day : ℕ
  pub hour : ℕ
  pub minute : ℕ

-- a minute of the years 1970 to 9999
abbrev pub is_minute : Minute → Bool
is_minute m = nat_le 1970 m.year && nat_le m.year 9999 && is_date m.year m.month m.day && nat_le m.hour 23 && nat_le m.minute 59

-- the days from 1 January 1970 to its date
abbrev pub day_of : Minute → ℕ
day_of m = unsigned_abs (day_number m.year m.month m.day)

-- the minutes from the first of 1970 to it
abbrev pub minute_number : Minute → ℕ
minute_number m = day_of m * 1440 + (m.hour * 60 + m.minute)

-- its first second, counted from 1970
abbrev pub minute_start : Minute → ℕ
minute_start m = minute_number m * 60

-- its weekday: Sunday is 0, and 1 January 1970 was a Thursday
abbrev pub weekday_of : Minute → ℕ
weekday_of m = (day_of m + 4) % 7
