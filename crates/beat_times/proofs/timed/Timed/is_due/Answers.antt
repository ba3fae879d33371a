use Rattle.std.proofs.Common.{◌≡◌, subst, sym, IsTrue, ◌↔◌}
use Rattle.crontabs.specs.Crontabs.{IsCronDue}
use Rattle.beat_times.specs.Due.{IsTimingDue}
use Rattle.beat_times.proofs.timed.Timed.is_due.Goals as goal

pub returns-in-Every : goal.returns-in-Every
returns-in-Every c = subst (λ t. IsTrue c.has_passed.result ↔ IsTimingDue t c.args.self.now.last c.args.now) (sym c.in-Every.is) c.has_passed.ensures

pub returns-in-Cron : goal.returns-in-Cron
returns-in-Cron c =
    subst (λ t. IsTrue c.is_due.result ↔ IsTimingDue t c.args.self.now.last c.args.now) (sym c.in-Cron.is)
    (subst (λ x. IsTrue c.is_due.result ↔ IsCronDue x c.args.self.now.last c.args.now) c.deref.ensures c.is_due.ensures)
