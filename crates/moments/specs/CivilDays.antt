-- The day number of a civil date: days since 1 January 1970, counted year by year and month by month (Gregorian calendar).
use Rattle.std.specs.Prelude.{ℕ, zero, suc, ◌+◌, ◌-◌, ◌%◌, Bool, not, ◌&&◌, ◌||◌, ◌==◌, nat_le, if◌then◌else◌, ℤ, pos, ◌-ℤ◌}

-- every fourth year, but of the centuries only every fourth
abbrev pub is_leap : ℕ → Bool
is_leap y = (y % 4 == 0) && (not (y % 100 == 0) || (y % 400 == 0))

-- the days of a year
abbrev pub year_days : ℕ → ℕ
year_days y = if is_leap y then 366 else 365

-- thirty days have September, April, June and November
abbrev pub month_days : ℕ → ℕ → ℕ
month_days y m = if m == 2 then (if is_leap y then 29 else 28) else (if (m == 4) || (m == 6) || (m == 9) || (m == 11) then 30 else 31)

-- the days of the years before year y, from year 0 on
unfoldable pub days_to_year : ℕ → ℕ
days_to_year zero = 0
days_to_year (suc y) = days_to_year y + year_days y

-- the days of the first n months of a year
unfoldable pub days_of_first : ℕ → ℕ → ℕ
days_of_first y zero = 0
days_of_first y (suc n) = days_of_first y n + month_days y (suc n)

-- whether the calendar has this date
abbrev pub is_date : ℕ → ℕ → ℕ → Bool
is_date y m d = nat_le 1 m && nat_le m 12 && nat_le 1 d && nat_le d (month_days y m)

-- the days from 1 January of year 0 to a date
abbrev pub days_from_zero : ℕ → ℕ → ℕ → ℕ
days_from_zero y m d = days_to_year y + (days_of_first y (m - 1) + (d - 1))

-- the day number of a date
abbrev pub day_number : ℕ → ℕ → ℕ → ℤ
day_number y m d = pos (days_from_zero y m d) -ℤ pos (days_to_year 1970)
