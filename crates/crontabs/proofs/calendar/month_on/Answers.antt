use Rattle.std.proofs.Common.{◌≡◌, ◌≤◌, arith, sym, ap, ◌∙◌, pos, ◌≤ℤ◌, to_z, of_z, w16}
use Rattle.std.specs.Prelude.{unsigned_abs}
use Rattle.jiff_core.proofs.SignedLemmas.{back_small, signed_arith}
use Rattle.jiff_core.specs.declared.civil.date.Date.{Date}
use Rattle.moments.proofs.KitCalendar.{size_is, small_is}
use Rattle.crontabs.proofs.KitMonths.{month_on_is, year_low}
use Rattle.crontabs.proofs.calendar.month_on.Goals as goal

-- a year from 1970 on is a number, cast or not
cast_year : (d : Date) → pos 1970 ≤ℤ d.year → (d.year ≡ pos (unsigned_abs (to_z w16 (of_z w16 d.year)))) × (1970 ≤ unsigned_abs (to_z w16 (of_z w16 d.year)))
cast_year d low =
    let one : pos 1 ≤ℤ d.year = omega (arith, signed_arith, low) in
    let back = back_small w16 d.year (small_is d.year one d.year_in.1) in
    let year : d.year ≡ pos (unsigned_abs (to_z w16 (of_z w16 d.year))) = size_is d.year one ∙ ap (λ z. pos (unsigned_abs z)) (sym back) in
    (year, omega (arith, signed_arith, low, year))

pub overflow_cast-result : goal.overflow_cast-result
overflow_cast-result c =
    let d = c.from_days_since_min-date.result in
    let low = year_low d c.args.day c.from_days_since_min-date.ensures in
    let one : pos 1 ≤ℤ d.year = omega (arith, signed_arith, low) in
    let back = back_small w16 d.year (small_is d.year one d.year_in.1) in
    (omega (arith, signed_arith, low, back), record { fits = omega (arith, signed_arith, (cast_year d low).0, d.year_in) })

pub returns-clause-low : goal.returns-clause-low
returns-clause-low c =
    let d = c.from_days_since_min-date.result in
    let year = cast_year d (year_low d c.args.day c.from_days_since_min-date.ensures) in
    omega (arith, year.1, d.month_in.0)

pub returns-clause-since : goal.returns-clause-since
returns-clause-since c =
    let d = c.from_days_since_min-date.result in
    let year = cast_year d (year_low d c.args.day c.from_days_since_min-date.ensures) in
    (month_on_is d c.args.day _ year.0 year.1 c.from_days_since_min-date.ensures).0

pub returns-clause-within : goal.returns-clause-within
returns-clause-within c =
    let d = c.from_days_since_min-date.result in
    let year = cast_year d (year_low d c.args.day c.from_days_since_min-date.ensures) in
    (month_on_is d c.args.day _ year.0 year.1 c.from_days_since_min-date.ensures).1
