use Rattle.std.proofs.Common.{◌≡◌, ◌+◌, ◌/◌, arith, pos, ◌∙◌, w16}
use Rattle.std.proofs.lemmas.Int.{to_z_pos}
use Rattle.jiff_core.proofs.CalendarLemmas.{days_in_month_bounds}
use Rattle.crontabs.specs.Months.{month_start}
use Rattle.crontabs.proofs.KitMonths.{month_start_is}
use Rattle.crontabs.proofs.MonthStarts.{start_bound}
use Rattle.crontabs.proofs.calendar.month_start.Goals as goal

pub overflow_sub-result : goal.overflow_sub-result
overflow_sub-result c =
    let d = c.constrain-date.result in
    let year : d.year ≡ pos (c.args.month / 12) = c.constrain-date.ensures.year ∙ to_z_pos w16 (c.args.month / 12) (omega (arith, c.requires.high)) in
    let day : d.day ≡ 1 = omega (arith, c.constrain-date.ensures.day, days_in_month_bounds) in
    let start : c.days_since_min.result ≡ month_start c.args.month + 4371587 = month_start_is d c.args.month c.days_since_min.result c.requires.low year c.constrain-date.ensures.month day c.days_since_min.ensures.value in
    omega (arith, start)

pub returns-clause-value : goal.returns-clause-value
returns-clause-value c =
    let d = c.constrain-date.result in
    let year : d.year ≡ pos (c.args.month / 12) = c.constrain-date.ensures.year ∙ to_z_pos w16 (c.args.month / 12) (omega (arith, c.requires.high)) in
    let day : d.day ≡ 1 = omega (arith, c.constrain-date.ensures.day, days_in_month_bounds) in
    let start : c.days_since_min.result ≡ month_start c.args.month + 4371587 = month_start_is d c.args.month c.days_since_min.result c.requires.low year c.constrain-date.ensures.month day c.days_since_min.ensures.value in
    omega (arith, start)

pub returns-clause-bound : goal.returns-clause-bound
returns-clause-bound c =
    let d = c.constrain-date.result in
    let year : d.year ≡ pos (c.args.month / 12) = c.constrain-date.ensures.year ∙ to_z_pos w16 (c.args.month / 12) (omega (arith, c.requires.high)) in
    let day : d.day ≡ 1 = omega (arith, c.constrain-date.ensures.day, days_in_month_bounds) in
    let start : c.days_since_min.result ≡ month_start c.args.month + 4371587 = month_start_is d c.args.month c.days_since_min.result c.requires.low year c.constrain-date.ensures.month day c.days_since_min.ensures.value in
    omega (arith, start, start_bound c.args.month c.requires.low c.requires.high)
