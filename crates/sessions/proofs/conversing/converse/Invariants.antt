use Rattle.std.proofs.Common.{length, ◌-◌, ◌≡◌, ◌≤◌}
use Rattle.desks.specs.Faults.{IsOpen}
use Rattle.net_links.specs.LinkViews.{link_view}
use Rattle.sessions.specs.Talkings.{InSession, StandsSomewhere}
use Rattle.sessions.proofs.conversing.converse.Given as goal

abbrev pub invariant-turns : goal.invariant-turns
invariant-turns g l =
    record {
      opened : IsOpen (g.D.Desk.fault l.desk) (g.D.Desk.stopped l.desk);
      placed : StandsSomewhere l.talking.decoder;
      room : length l.room ≡ length l.initial.room;
      few : l.taken ≤ l.fn.turns;
      session : InSession g.D.Desk.goes (g.C.Clock.gives l.initial.clock) l.initial.desk l.desk
          (link_view g.L.Link.sent g.L.Link.received g.L.Link.faults g.L.Link.ends g.L.Link.gains l.initial.link)
          (link_view g.L.Link.sent g.L.Link.received g.L.Link.faults g.L.Link.ends g.L.Link.gains l.link) l.talking l.taken;
    }

abbrev pub decreases-turns : goal.decreases-turns
decreases-turns g l = l.fn.turns - l.taken
