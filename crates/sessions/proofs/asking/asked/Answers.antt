use Rattle.sessions.proofs.Refused.{refused}
use Rattle.sessions.proofs.asking.asked.Goals as goal

pub returns-in-Err-clause-why : goal.returns-in-Err-clause-why
returns-in-Err-clause-why g c =
    let shown = c.in-Err.ensures.shown in
    refused g.D.Desk.remote g.D.Desk.shared (g.D.Desk.fault c.args.desk.now) (g.D.Desk.stopped c.args.desk.now) (g.D.Desk.fault c.ask.new.self)
    (g.D.Desk.faults c.args.desk.now) (g.D.Desk.faults c.ask.new.self) (g.D.Desk.ends c.args.desk.now) (g.D.Desk.ends c.ask.new.self) c.in-Err.fault c.why_of.result
    c.requires.near c.requires.open.no_fault c.requires.open.no_stop shown.0 shown.1 c.in-Err.ensures.kinds c.why_of.ensures
