use Rattle.client_plans.proofs.Preparing.{acknowledged}
use Rattle.client_plans.proofs.plan.acknowledging.Goals as goal

pub returns : goal.returns
returns c = λ w. acknowledged w c.args.of c.args.counter c.of.result c.ranges.of.fits c.ranges.counter.fits c.of.ensures
