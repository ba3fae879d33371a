-- The kit's calendar has these months. This serves the proofs of code.
use Rattle.std.proofs.Common.{◌≡◌, ℕ, ◌+◌, ◌-◌, ◌*◌, ◌/◌, ◌%◌, ◌<◌, ◌≤◌, sym, ap, ◌∙◌, subst, arith, pos, ◌+ℤ◌, ◌≤ℤ◌}
use Rattle.std.specs.Prelude.{unsigned_abs}
use Rattle.std.proofs.lemmas.Int.{by_lt_z}
use Rattle.jiff_core.specs.declared.civil.date.Date.{Date}
use Rattle.jiff_core.specs.Calendar.{days_from_civil, days_in_month}
use Rattle.jiff_core.specs.Date.{epoch_day}
use Rattle.jiff_core.proofs.CalendarLemmas.{day_count-epoch, day_count-lt_year, days_from_civil-day_count}
use Rattle.jiff_core.proofs.DateLemmas.{civil}
use Rattle.jiff_core.proofs.SignedLemmas.{signed_arith}
use Rattle.moments.proofs.KitCalendar.{day_is}
use Rattle.moments.specs.CivilDays.{day_number}
use Rattle.crontabs.specs.Minutes.{Minute, day_of}
use Rattle.crontabs.specs.Months.{month_length, month_start}
use Rattle.crontabs.proofs.MonthStarts as months
use Rattle.crontabs.proofs.MonthStarts.{IsReal, day_in_month, month_of, number_is}

-- a date from 1970 on has such a year
pub year_low : (d : Date) (day : ℕ) → epoch_day d +ℤ pos 4371587 ≡ pos (day + 4371587) → pos 1970 ≤ℤ d.year
year_low d day h =
    by_lt_z d.year (pos 1970)
    (λ before.
    let earlier = day_count-lt_year d.year d.month d.day (pos 1970) 1 1 (civil d) (omega arith) before in
    absurd (omega (arith, signed_arith, earlier, day_count-epoch, days_from_civil-day_count d.year d.month d.day, h)))
    (λ low. low)

-- the month in which a date lies
pub month_on_is : (d : Date) (day year : ℕ) → d.year ≡ pos year → 1970 ≤ year → epoch_day d +ℤ pos 4371587 ≡ pos (day + 4371587)
    → (month_start (year * 12 + d.month - 1) ≤ day) × (day < month_start (year * 12 + d.month - 1) + month_length (year * 12 + d.month - 1))
month_on_is d day year e low h =
    let m : Minute = record { year = year; month = d.month; day = d.day; hour = 0; minute = 0 } in
    let in_month = subst (λ z. d.day ≤ days_in_month z d.month) e d.day_in.1 in
    let real : IsReal m = record {
      year_low = low;
      year_high = omega (arith, signed_arith, d.year_in, e);
      month_low = d.month_in.0;
      month_high = d.month_in.1;
      day_low = d.day_in.0;
      day_high = in_month;
      hour_in = omega arith;
      minute_in = omega arith;
    } in
    let same : month_of m ≡ year * 12 + d.month - 1 = omega (arith, d.month_in.0) in
    let number : day_number year d.month d.day ≡ epoch_day d = sym (day_is year d.month d.day d.day_in.0) ∙ ap (λ z. days_from_civil z d.month d.day) (sym e) in
    let is : epoch_day d ≡ pos day = omega (arith, signed_arith, h) in
    let this : day_of m ≡ day = ap unsigned_abs (number ∙ is) in
    let place : day_of m ≡ month_start (year * 12 + d.month - 1) + (d.day - 1) = months.day_is m real ∙ ap (λ z. month_start z + (d.day - 1)) same in
    let inside : d.day - 1 < month_length (year * 12 + d.month - 1) = subst (λ z. d.day - 1 < month_length z) same (day_in_month m real) in
    (omega (arith, this, place), omega (arith, this, place, inside))

-- the first of a month
pub month_start_is : (d : Date) (m r : ℕ) → 23640 ≤ m → d.year ≡ pos (m / 12) → d.month ≡ m % 12 + 1 → d.day ≡ 1 → epoch_day d +ℤ pos 4371587 ≡ pos r → r ≡ month_start m + 4371587
month_start_is d m r low year month day h =
    let number : epoch_day d ≡ pos (month_start m) =
    ap (λ z. days_from_civil z d.month d.day) year ∙ ap (λ z. days_from_civil (pos (m / 12)) z d.day) month ∙ ap (λ z. days_from_civil (pos (m / 12)) (m % 12 + 1) z) day
    ∙ day_is (m / 12) (m % 12 + 1) 1 (omega arith) ∙ number_is m low in
    omega (arith, signed_arith, number, h)
