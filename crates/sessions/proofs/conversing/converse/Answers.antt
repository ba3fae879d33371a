use Rattle.std.proofs.Common.{[], arith, refl}
use Rattle.net_links.specs.LinkViews.{link_view}
use Rattle.sessions.proofs.Begun.{begun, turns_over}
use Rattle.sessions.proofs.conversing.converse.Goals as goal

pub turns-init : goal.turns-init
turns-init g c = record {
  opened = c.requires.open;
  placed = (0, [], c.requires.stands);
  room = refl;
  few = omega arith;
  session = begun g.D.Desk.goes g.met.D.Desk.stays (g.C.Clock.gives c.args.clock.now) c.args.desk.now (link_view g.L.Link.sent g.L.Link.received g.L.Link.faults g.L.Link.ends g.L.Link.gains c.args.link.now) c.args.talking.now c.requires.stands c.requires.out c.requires.commands;
}

pub returns-in-Err : goal.returns-in-Err
returns-in-Err g c = record {
  session = c.in-Err.ensures.turned c.args.desk.now (link_view g.L.Link.sent g.L.Link.received g.L.Link.faults g.L.Link.ends g.L.Link.gains c.args.link.now) c.turns.taken c.turns.invariant.session c.args.turns (omega (arith, c.turns-test.true));
}

pub returns : goal.returns
returns g c = record {
  session = turns_over g.D.Desk.goes (g.C.Clock.gives c.args.clock.now) g.D.Desk.shared (g.D.Desk.fault c.turns.desk) c.args.desk.now c.turns.desk (link_view g.L.Link.sent g.L.Link.received g.L.Link.faults g.L.Link.ends g.L.Link.gains c.args.link.now)
      (link_view g.L.Link.sent g.L.Link.received g.L.Link.faults g.L.Link.ends g.L.Link.gains c.turns.link) c.turns.talking c.turns.taken c.args.turns c.turns.invariant.session (omega (arith, c.turns-test.false, c.turns.invariant.few));
}
