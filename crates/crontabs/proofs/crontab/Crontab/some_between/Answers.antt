use Rattle.std.proofs.Common.{◌≡◌, ◌≤◌, inl, inr, arith, sym, subst, ◌∙◌}
use Rattle.std.proofs.lemmas.Bool.{cases_lt}
use Rattle.crontabs.specs.Found.{HasMinuteIn}
use Rattle.crontabs.proofs.MonthStarts.{starts_in_order}
use Rattle.crontabs.proofs.Searches.{clash, in_its_month, its_month_low, month_from, month_to, nowhere}
use Rattle.crontabs.proofs.crontab.Crontab.some_between.Goals as goal

pub loop-month-init : goal.loop-month-init
loop-month-init c = λ k low h w. let since = month_from c.args.self.now c.args.first c.args.latest k c.month_on-month.result low c.month_on-month.ensures.since w in omega (arith, since, h)

pub matches_in_month-requires-clause-begun : goal.matches_in_month-requires-clause-begun
matches_in_month-requires-clause-begun c =
    let low : 23640 ≤ c.loop-month.month = omega (arith, c.loop-month.auto.month, c.month_on-month.ensures.low) in
    let to : c.loop-month.month ≤ c.month_on-month-end.result = omega arith in
    omega (arith, starts_in_order c.loop-month.month c.month_on-month-end.result low to, c.month_on-month-end.ensures.since)

pub loop-month-preserved : goal.loop-month-preserved
loop-month-preserved c = λ k low h w.
    elim (cases_lt k c.loop-month.month) [
      | inl before ↦ c.loop-month.invariant k low before w
      | inr since ↦ let e : k ≡ c.loop-month.month = omega (arith, h) in clash (sym c.if-matches_in_month.false ∙ c.matches_in_month.ensures.1 (subst (HasMinuteIn c.args.self.now c.args.first c.args.latest) e w))
    ]

pub returns : goal.returns
returns c =
    nowhere (λ w.
    let on = in_its_month c.args.self.now c.args.first c.args.latest w in
    let to = month_to c.args.self.now c.args.first c.args.latest _ c.month_on-month-end.result c.month_on-month-end.ensures.low c.month_on-month-end.ensures.within on in
    c.loop-month.invariant _ (its_month_low c.args.self.now c.args.first c.args.latest w) (omega (arith, to)) on)
