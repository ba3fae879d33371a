use Rattle.std.proofs.Common.{◌+◌, ◌/◌, ◌<◌, arith}
use Rattle.crontabs.specs.Found.{HasTimeIn}
use Rattle.crontabs.proofs.Searches.{hour_to, more_missed, nowhere}
use Rattle.crontabs.proofs.times.Times.some_between.Goals as goal

pub loop-hour-preserved : goal.loop-hour-preserved
loop-hour-preserved c = more_missed (HasTimeIn c.args.self.now c.args.low c.args.high) c.loop-hour.hour c.has_in_hour.result c.loop-hour.invariant c.has_in_hour.ensures c.if-has_in_hour.false

pub returns : goal.returns
returns c = nowhere (λ w. c.loop-hour.invariant w.0 (let h : w.0 < c.args.high / 60 + 1 = hour_to c.args.self.now c.args.low c.args.high w.0 w.1 in omega (arith, h)) w.1)
