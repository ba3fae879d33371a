-- Months, counted from January of year 0. This serves the proofs of code.
use Rattle.std.specs.Prelude.{ℕ, ◌+◌, ◌/◌, ◌%◌, unsigned_abs}
use Rattle.moments.specs.CivilDays.{day_number, month_days}

-- the days from 1 January 1970 to the first of a month
abbrev pub month_start : ℕ → ℕ
month_start month = unsigned_abs (day_number (month / 12) (month % 12 + 1) 1)

-- the days of a month
abbrev pub month_length : ℕ → ℕ
month_length month = month_days (month / 12) (month % 12 + 1)
