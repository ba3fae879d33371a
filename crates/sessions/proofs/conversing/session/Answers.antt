use Rattle.net_links.specs.LinkViews.{link_view}
use Rattle.sessions.proofs.Begun.{not_begun}
use Rattle.sessions.proofs.conversing.session.Goals as goal

pub returns-in-Err : goal.returns-in-Err
returns-in-Err g c = record {
  session = not_begun g.D.Desk.goes g.met.D.Desk.stays (g.C.Clock.gives c.args.clock.now) c.args.desk.now g.D.Desk.shared (g.D.Desk.fault c.args.desk.now) c.requires.open.no_fault (link_view g.L.Link.sent g.L.Link.received g.L.Link.faults g.L.Link.ends g.L.Link.gains c.args.link.now) c.args.turns;
}
