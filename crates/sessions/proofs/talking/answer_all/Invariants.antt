use Rattle.std.proofs.Common.{List, ℕ}
use Rattle.desks.specs.Faults.{IsOpen}
use Rattle.resp_wire.specs.Moves.{unread_of}
use Rattle.sessions.specs.Talkings.{StandsSomewhere, Talks}
use Rattle.sessions.proofs.talking.answer_all.Given as goal

abbrev pub invariant-values : goal.invariant-values
invariant-values g l =
    record {
      opened : IsOpen (g.D.Desk.fault l.desk) (g.D.Desk.stopped l.desk);
      placed : StandsSomewhere l.talking.decoder;
      talks : (first : g.row.D.Denot) → (stream : List ℕ) → (sent : List ℕ) → Talks g.D.Desk.goes (g.C.Clock.gives l.initial.clock) first l.initial.desk stream sent l.initial.talking
          → Talks g.D.Desk.goes (g.C.Clock.gives l.initial.clock) first l.desk stream sent l.talking;
    }

abbrev pub decreases-values : goal.decreases-values
decreases-values g l = unread_of l.talking.decoder
