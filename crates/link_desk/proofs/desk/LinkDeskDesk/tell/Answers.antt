use Rattle.link_desk.proofs.Linked.{not_noted}
use Rattle.link_desk.proofs.desk.LinkDeskDesk.tell.Goals as goal

pub returns-in-Err-push-clause-err : goal.returns-in-Err-push-clause-err
returns-in-Err-push-clause-err g c =
    not_noted _ _ _ _ c.args.self.now.standing.fault c.enter.new.self.fault c.refuse.new.self.fault c.args.self.now.standing.stopped c.enter.new.self.stopped c.refuse.new.self.stopped c.push.new.self
    c.in-Ok.ensures.shown.0 c.in-Ok.ensures.shown.1 c.refuse.ensures.first c.in-Err-push.ensures.err
