use Rattle.std.proofs.Common.{List, ℕ}
use Rattle.desks.specs.Faults.{IsOpen}
use Rattle.plain_desk.specs.declared.desk.PlainDesk.{PlainDesk}
use Rattle.resp_wire.specs.Moves.{unread_of}
use Rattle.sessions.specs.Talkings.{StandsSomewhere, Talks}
use Rattle.local_links.specs.LocalTalks.{IsBeginning, desk_goes}
use Rattle.local_links.proofs.asking_all.answer_all.Given as goal

abbrev pub invariant-values : goal.invariant-values
invariant-values l =
    record {
      opened : IsOpen l.desk.standing.fault l.desk.standing.stopped;
      placed : ∥ StandsSomewhere l.talking.decoder ∥₁;
      talks : (first : PlainDesk) → (stream : List ℕ) → (sent : List ℕ) → Talks desk_goes IsBeginning first l.initial.desk stream sent l.initial.talking
          → Talks desk_goes IsBeginning first l.desk stream sent l.talking;
    }

abbrev pub decreases-values : goal.decreases-values
decreases-values l = unread_of l.talking.decoder
