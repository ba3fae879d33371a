use Rattle.block_runs.proofs.Told.{desk_kind, desk_next, heard_kind, heard_next}
use Rattle.block_runs.proofs.saying.say.Goals as goal

pub returns-clause-said : goal.returns-clause-said
returns-clause-said g c =
    heard_next g.D.Desk.goes g.D.Desk.fault g.D.Desk.stopped g.T.Steps.left g.T.Steps.had g.T.Steps.ended c.args.at c.args.desk.now c.ask.new.self c.args.steps.now c.hear.new.steps c.args.words.now c.in_ok-reply.reply
    c.hear.result (record { next = c.requires.next; went = c.in_ok-reply.ensures.ok }) c.in_ok-reply.ensures.shown.1 c.hear.ensures.heard

pub returns-clause-kinds : goal.returns-clause-kinds
returns-clause-kinds g c =
    heard_kind g.D.Desk.remote g.D.Desk.shared (g.D.Desk.faults c.args.desk.now) (g.D.Desk.faults c.ask.new.self) (g.D.Desk.ends c.args.desk.now) (g.D.Desk.ends c.ask.new.self)
    g.T.Steps.left g.T.Steps.had g.T.Steps.ended c.args.at c.args.steps.now c.hear.new.steps c.in_ok-reply.reply c.hear.result c.hear.ensures.heard

pub returns-in_err-reply-clause-said : goal.returns-in_err-reply-clause-said
returns-in_err-reply-clause-said g c =
    desk_next g.D.Desk.goes g.D.Desk.fault g.D.Desk.stopped g.T.Steps.left g.T.Steps.had g.T.Steps.ended c.args.at c.args.desk.now c.ask.new.self c.args.steps.now c.args.words.now
    c.in_err-reply.field-0.0 c.from_residual.result c.from_residual.ensures.1 c.requires.next c.in_err-reply.ensures.err c.requires.open c.in_err-reply.ensures.shown

pub returns-in_err-reply-clause-kinds : goal.returns-in_err-reply-clause-kinds
returns-in_err-reply-clause-kinds g c =
    desk_kind g.D.Desk.remote g.D.Desk.shared (g.D.Desk.faults c.args.desk.now) (g.D.Desk.faults c.ask.new.self) (g.D.Desk.ends c.args.desk.now) (g.D.Desk.ends c.ask.new.self) (g.D.Desk.fault c.args.desk.now) (g.D.Desk.stopped c.args.desk.now)
    c.in_err-reply.field-0.0 c.from_residual.result c.from_residual.ensures.1 c.in_err-reply.ensures.kinds c.requires.open c.in_err-reply.ensures.shown.0
