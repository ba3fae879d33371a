use Rattle.std.proofs.Common.{List, length, ℕ, ◌+◌, ◌-◌, ◌≡◌, ◌≤◌}
use Rattle.std.specs.Io.KnownBytes.{Keeps}
use Rattle.resp_wire.specs.Stands.{Stands}
use Rattle.link_desk.specs.PushedValues.{ArePushed, pushed_limit}
use Rattle.link_desk.proofs.Gathered.{HasGathered}
use Rattle.link_desk.proofs.replying.gather.Given as goal

abbrev pub invariant-values : goal.invariant-values
invariant-values g l = record {
  gathered : (before : ℕ) (rest : List ℕ) → Stands l.initial.hearing.decoder before rest → HasGathered before rest (g.L.Link.received l.initial.link) (g.L.Link.received l.link) l.hearing.decoder l.pushed;
  pushed : ArePushed l.pushed;
  few : length l.pushed ≤ pushed_limit;
  sent : Keeps (g.L.Link.sent l.initial.link) (g.L.Link.sent l.link);
  faults : g.L.Link.faults l.link ≡ g.L.Link.faults l.initial.link;
  ends : g.L.Link.ends l.link ≡ g.L.Link.ends l.initial.link;
}

abbrev pub decreases-values : goal.decreases-values
decreases-values g l = (pushed_limit + 1) - length l.pushed
