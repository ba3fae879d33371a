-- What a search among minutes finds, from the minutes of an hour to the months. This serves the proofs of code.
use Rattle.std.specs.Prelude.{◌≡◌, ℕ, ◌+◌, ◌-◌, ◌*◌, ◌%◌, ◌<◌, ◌≤◌, Bool, IsTrue, true}
use Rattle.crontabs.specs.Crontabs.{Matches}
use Rattle.crontabs.specs.Fields.{field_has}
use Rattle.crontabs.specs.Minutes.{Minute, is_minute, minute_number}
use Rattle.crontabs.specs.declared.crontab.Crontab.{Crontab}
use Rattle.crontabs.specs.declared.dates.Dates.{Dates}
use Rattle.crontabs.specs.declared.times.Times.{Times}

-- a number between these, both included, passes
abbrev pub SomeBetween : (ℕ → Bool) → ℕ → ℕ → Type 0
SomeBetween p low high = (n : ℕ) × (low ≤ n) × (n ≤ high) × IsTrue (p n)

-- both fields have a time of day, which lies between these minutes since midnight
pub record IsTimeWithin (t : Times) (low high hour minute : ℕ) : Type 0 where
  pub hour_in : IsTrue (field_has t.hours hour)
  pub minute_in : IsTrue (field_has t.minutes minute)
  pub short : minute ≤ 59
  pub from : low ≤ hour * 60 + minute
  pub to : hour * 60 + minute ≤ high

-- some minute of an hour; and of any hour
abbrev pub HasTimeIn : Times → ℕ → ℕ → ℕ → Type 0
HasTimeIn t low high hour = (minute : ℕ) × IsTimeWithin t low high hour minute

abbrev pub SomeTime : Times → ℕ → ℕ → Type 0
SomeTime t low high = (hour : ℕ) × HasTimeIn t low high hour

-- a day and a weekday have the day at this place of a month that begins on a given day
pub record HasDay (d : Dates) (base place : ℕ) : Type 0 where
  pub day_in : IsTrue (field_has d.days (place + 1))
  pub weekday_in : IsTrue (field_has d.weekdays ((base + place + 4) % 7))

-- a minute of a day between these minutes since 1970, by the day's place in its month and the time of day
pub record IsOnDay (c : Crontab) (base first last place hour minute : ℕ) : Type 0 where
  pub day : HasDay c.dates base place
  pub time : IsTimeWithin c.times 0 1439 hour minute
  pub from : first ≤ (base + place) * 1440 + (hour * 60 + minute)
  pub to : (base + place) * 1440 + (hour * 60 + minute) ≤ last

-- some minute of a day; and of any day of a month of this length
abbrev pub HasMinuteOn : Crontab → ℕ → ℕ → ℕ → ℕ → Type 0
HasMinuteOn c base first last place = (hour minute : ℕ) × IsOnDay c base first last place hour minute

abbrev pub SomeDay : Crontab → ℕ → ℕ → ℕ → ℕ → Type 0
SomeDay c base length first last = (place : ℕ) × (place < length) × HasMinuteOn c base first last place

-- a minute between these minutes since 1970 that matches
pub record IsMinuteWithin (c : Crontab) (first last : ℕ) (m : Minute) : Type 0 where
  pub real : is_minute m ≡ true
  pub matches : Matches c m
  pub from : first ≤ minute_number m
  pub to : minute_number m ≤ last

-- some minute of a month, counted from January of year 0; and of any month
abbrev pub HasMinuteIn : Crontab → ℕ → ℕ → ℕ → Type 0
HasMinuteIn c first last month = (m : Minute) × IsMinuteWithin c first last m × (m.year * 12 + (m.month - 1) ≡ month)

abbrev pub SomeMinute : Crontab → ℕ → ℕ → Type 0
SomeMinute c first last = (m : Minute) × IsMinuteWithin c first last m
