use Rattle.link_desk.proofs.Linked.{halted}
use Rattle.link_desk.proofs.desk.LinkDeskDesk.stop.Goals as goal

pub returns-clause-ok : goal.returns-clause-ok
returns-clause-ok g c = halted _ _ _ _ c.args.self.now.standing.fault c.enter.new.self.fault c.args.self.now.standing.stopped c.in-Ok.ensures.shown.0 c.in-Ok.ensures.shown.1.no_fault
