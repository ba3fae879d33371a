use Rattle.std.proofs.Common.{◌+◌, ◌-◌, ◌/◌, ◌<◌, ◌∙◌, arith}
use Rattle.crontabs.specs.Found.{HasMinuteOn}
use Rattle.crontabs.proofs.Searches.{day_to, lesser, more_missed, nowhere}
use Rattle.crontabs.proofs.crontab.Crontab.some_in_month.Goals as goal

pub loop-place-preserved : goal.loop-place-preserved
loop-place-preserved c = more_missed (HasMinuteOn c.args.self.now c.args.base c.args.first c.args.latest) c.loop-place.place c.matches_on_day.result c.loop-place.invariant c.matches_on_day.ensures c.if-matches_on_day.false

pub returns : goal.returns
returns c =
    nowhere (λ w. c.loop-place.invariant w.0 (let h : w.0 < c.args.latest / 1440 + 1 - c.args.base = day_to c.args.self.now c.args.base c.args.first c.args.latest w.0 c.requires.base w.2 in let k : w.0 < c.args.length = w.1 in omega (arith, h, k, c.min-end.ensures ∙ lesser c.args.length (c.args.latest / 1440 + 1 - c.args.base))) w.2)
