-- What a datetime of the kit shows. This serves the proofs of code.
use Rattle.std.specs.Prelude.{◌≡◌, ◌<◌, ◌*◌, ◌<ℤ◌, ℤ, pos, neg_ℤ}
use Rattle.jiff_core.specs.declared.civil.datetime.DateTime.{DateTime}
use Rattle.moments.specs.declared.civil.CivilTime.{CivilTime}
use Rattle.moments.specs.declared.reading.AfterSeconds.{AfterSeconds}

-- a datetime shows this date and time
pub record Shows (c : CivilTime) (dt : DateTime) : Type 0 where
  pub year : dt.date.year ≡ pos c.year
  pub month : dt.date.month ≡ c.month
  pub day : dt.date.day ≡ c.day
  pub hour : dt.time.hour ≡ c.hour
  pub minute : dt.time.minute ≡ c.minute
  pub second : dt.time.second ≡ c.second
  pub nanos : dt.time.subsec_nanosecond ≡ c.micros * 1000

-- each part has as many digits as a text gives it
pub record IsSpellable (c : CivilTime) : Type 0 where
  pub year : c.year < 10000
  pub month : c.month < 100
  pub day : c.day < 100
  pub hour : c.hour < 100
  pub minute : c.minute < 100
  pub second : c.second < 100
  pub micros : c.micros < 1000000

-- the minutes of an offset of less than a day
abbrev pub IsOffset : ℤ → Type 0
IsOffset z = (neg_ℤ (pos 1440) <ℤ z) × (z <ℤ pos 1440)

-- a fraction of a second, and such an offset
abbrev pub IsTail : AfterSeconds → Type 0
IsTail t = (t.micros < 1000000) × IsOffset t.offset
