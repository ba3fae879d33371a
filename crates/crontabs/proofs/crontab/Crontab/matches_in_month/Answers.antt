use Rattle.std.proofs.Common.{◌≡◌, ◌+◌, ◌%◌, true, subst, sym, ap, ◌∙◌, IsTrue, ◌↔◌}
use Rattle.crontabs.specs.Fields.{field_has}
use Rattle.crontabs.specs.Found.{SomeDay}
use Rattle.crontabs.specs.Months.{month_start}
use Rattle.crontabs.proofs.Searches.{month_found}
use Rattle.crontabs.proofs.crontab.Crontab.matches_in_month.Goals as goal

pub returns : goal.returns
returns c =
    let month : field_has c.args.self.now.dates.months (c.args.month % 12 + 1) ≡ true = ap (λ l. field_has l (c.args.month % 12 + 1)) (sym c.as_slice.ensures) ∙ sym c.has.ensures ∙ c.if-not-has.false in
    let days = subst (λ b. IsTrue c.some_in_month.result ↔ SomeDay c.args.self.now b c.month_length.result c.args.first c.args.latest) c.month_start.ensures.value c.some_in_month.ensures in
    month_found c.args.self.now c.args.first c.args.latest c.args.month c.requires.low c.requires.high month c.some_in_month.result
    (subst (λ n. IsTrue c.some_in_month.result ↔ SomeDay c.args.self.now (month_start c.args.month) n c.args.first c.args.latest) c.month_length.ensures.value days)
