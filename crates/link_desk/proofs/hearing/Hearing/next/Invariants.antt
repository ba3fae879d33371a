use Rattle.std.proofs.Common.{List, ℕ, ◌≡◌}
use Rattle.std.specs.Io.KnownBytes.{Keeps}
use Rattle.resp_wire.specs.Stands.{Stands}
use Rattle.link_desk.specs.Readiness.{wanting}
use Rattle.link_desk.proofs.Heard.{HasWaited}
use Rattle.link_desk.proofs.hearing.Hearing.next.Given as goal

abbrev pub invariant-pieces : goal.invariant-pieces
invariant-pieces g l = record {
  waited : (before : ℕ) (rest : List ℕ) → Stands l.initial.self.decoder before rest → HasWaited before rest (g.L.Link.received l.initial.link) (g.L.Link.received l.link) l.self.decoder;
  sent : Keeps (g.L.Link.sent l.initial.link) (g.L.Link.sent l.link);
  faults : g.L.Link.faults l.link ≡ g.L.Link.faults l.initial.link;
  ends : g.L.Link.ends l.link ≡ g.L.Link.ends l.initial.link;
}

abbrev pub decreases-pieces : goal.decreases-pieces
decreases-pieces g l = wanting l.self.decoder
