-- Laws of moments.
use Rattle.std.specs.Prelude.{◌≡◌, ℤ, pos, neg_ℤ, true, Some}
use Rattle.moments.specs.CivilTimes.{civil_micros, is_within_years}
use Rattle.moments.specs.MomentTexts.{moment_of, moment_text}

-- the text that is written for a moment is read as that moment
abbrev pub MomentsComeBack : Type 0
MomentsComeBack = (m : ℤ) → is_within_years m ≡ true → moment_of (moment_text m) ≡ Some m

-- the first and the last microsecond of the years 1 to 9999
abbrev pub YearsEnd : Type 0
YearsEnd =
    (civil_micros (record { year = 1; month = 1; day = 1; hour = 0; minute = 0; second = 0; micros = 0 }) ≡ neg_ℤ (pos 62135596800000000))
    × (civil_micros (record { year = 9999; month = 12; day = 31; hour = 23; minute = 59; second = 59; micros = 999999 }) ≡ pos 253402300799999999)
