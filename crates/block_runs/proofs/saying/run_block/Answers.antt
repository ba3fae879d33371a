use Rattle.std.proofs.Common.{◌∙◌}
use Rattle.block_runs.proofs.Told.{begun_kind, handed_kind, run_not_begun, run_stops, run_whole}
use Rattle.steps.specs.Begins.{errand_of}
use Rattle.block_runs.proofs.saying.run_block.Goals as goal

pub returns-clause-run : goal.returns-clause-run
returns-clause-run g c =
    run_whole g.D.Desk.goes (g.C.Clock.gives c.args.clock.now) g.D.Desk.fault g.D.Desk.stopped g.T.Steps.client g.T.Steps.left g.T.Steps.spent g.T.Steps.had g.T.Steps.ended g.met.T.Steps.says c.args.desk.now c.say_all.new.desk c.args.steps.now c.begin.new.self c.say_all.new.steps c.told.new.steps
    (errand_of (g.T.Steps.client c.args.steps.now) c.args.block) c.told.result c.in_ok-begin.ensures.begun c.in_ok-say_all.ensures.said c.in_ok-say_all.ensures.client c.told.ensures.client c.told.ensures.left c.told.ensures.tells

pub returns-in_err-say_all-clause-run : goal.returns-in_err-say_all-clause-run
returns-in_err-say_all-clause-run g c =
    run_stops g.D.Desk.goes (g.C.Clock.gives c.args.clock.now) g.D.Desk.fault g.D.Desk.stopped g.T.Steps.client g.T.Steps.left g.T.Steps.spent g.T.Steps.had g.T.Steps.ended g.met.T.Steps.says c.args.desk.now c.say_all.new.desk c.args.steps.now c.begin.new.self c.say_all.new.steps
    (errand_of (g.T.Steps.client c.args.steps.now) c.args.block) c.in_err-say_all.field-0.0 c.from_residual-in_err-say_all.result c.from_residual-in_err-say_all.ensures.1 c.in_ok-begin.ensures.begun c.in_err-say_all.ensures.said c.in_err-say_all.ensures.client

pub returns-in_err-begin-clause-run : goal.returns-in_err-begin-clause-run
returns-in_err-begin-clause-run g c =
    run_not_begun g.D.Desk.goes g.met.D.Desk.stays (g.C.Clock.gives c.args.clock.now) g.D.Desk.fault g.D.Desk.stopped g.T.Steps.client g.T.Steps.left g.T.Steps.spent g.T.Steps.had c.args.desk.now c.args.steps.now c.begin.new.self
    (errand_of (g.T.Steps.client c.args.steps.now) c.args.block) c.in_err-begin.field-0.0 c.from_residual.result c.from_residual.ensures.1 c.requires.open c.in_err-begin.ensures.begun

pub returns-clause-idle : goal.returns-clause-idle
returns-clause-idle g c = c.told.ensures.left ∙ c.in_ok-say_all.ensures.said.come.1

pub returns-in_err-say_all-clause-kinds : goal.returns-in_err-say_all-clause-kinds
returns-in_err-say_all-clause-kinds g c =
    handed_kind g.D.Desk.remote g.D.Desk.shared (g.D.Desk.faults c.args.desk.now) (g.D.Desk.faults c.say_all.new.desk) (g.D.Desk.ends c.args.desk.now) (g.D.Desk.ends c.say_all.new.desk) c.in_err-say_all.field-0.0 c.from_residual-in_err-say_all.result c.from_residual-in_err-say_all.ensures.1 c.in_err-say_all.ensures.kinds

pub returns-in_err-begin-clause-kinds : goal.returns-in_err-begin-clause-kinds
returns-in_err-begin-clause-kinds g c =
    begun_kind g.D.Desk.remote g.D.Desk.shared (g.D.Desk.faults c.args.desk.now) (g.D.Desk.faults c.args.desk.now) (g.D.Desk.ends c.args.desk.now) (g.D.Desk.ends c.args.desk.now) c.in_err-begin.field-0.0 c.from_residual.result c.from_residual.ensures.1
