use Rattle.client_plans.proofs.Preparing.{returned}
use Rattle.client_plans.proofs.plan.returning.Goals as goal

pub returns : goal.returns
returns c = λ w. returned w c.args.side c.args.of c.args.counter c.of.result c.ranges.of.fits c.ranges.counter.fits c.of.ensures
