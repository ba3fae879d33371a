-- The minutes that a crontab matches, and when it is due.
use Rattle.std.specs.Prelude.{◌≡◌, ℕ, ◌<◌, ◌≤◌, IsTrue, true}
use Rattle.crontabs.specs.Fields.{field_has}
use Rattle.crontabs.specs.Minutes.{Minute, is_minute, minute_start, weekday_of}
use Rattle.crontabs.specs.declared.crontab.Crontab.{Crontab}

-- all five fields have the minute
pub record Matches (c : Crontab) (m : Minute) : Type 0 where
  pub minute : IsTrue (field_has c.times.minutes m.minute)
  pub hour : IsTrue (field_has c.times.hours m.hour)
  pub day : IsTrue (field_has c.dates.days m.day)
  pub month : IsTrue (field_has c.dates.months m.month)
  pub weekday : IsTrue (field_has c.dates.weekdays (weekday_of m))

-- a matching minute began after one moment, and at or before another
pub record IsDueBy (c : Crontab) (last now : ℕ) (m : Minute) : Type 0 where
  pub real : is_minute m ≡ true
  pub matches : Matches c m
  pub after : last < minute_start m
  pub by_now : minute_start m ≤ now

-- a crontab is due at a moment if there was such a minute since the last moment
abbrev pub IsCronDue : Crontab → ℕ → ℕ → Type 0
IsCronDue c last now = (m : Minute) × IsDueBy c last now m
