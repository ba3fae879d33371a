use Rattle.std.proofs.Common.{◌≡◌, ◌++◌, List, ℕ, drop}
use Rattle.command_blocks.specs.Scripts.{Over}
use Rattle.desks.specs.Faults.{HasCounts, IsOpen}
use Rattle.beat_files.specs.Readings.{tasks_in}
use Rattle.beat_round.specs.Rounds.{AreSent}
use Rattle.beat_round.proofs.sending.send_all.Given as goal

-- the entries of the indices so far were sent
abbrev pub invariant-entries : goal.invariant-entries
invariant-entries g l = record {
  sent_so : (before : List ℕ) × (l.fn.indices ≡ before ++ drop l.index-index l.fn.indices) × AreSent g.D.Desk.goes (g.C.Clock.gives l.fn.clock) (tasks_in l.fn.schedule) (g.T.Steps.client l.fn.steps) (g.T.Steps.client l.steps) l.fn.desk l.desk before l.sent;
  is_open : IsOpen (g.D.Desk.fault l.desk) (g.D.Desk.stopped l.desk);
  idle : g.T.Steps.left l.steps ≡ Over;
  counts : HasCounts (g.D.Desk.faults l.fn.desk) (g.D.Desk.faults l.desk) (g.D.Desk.ends l.fn.desk) (g.D.Desk.ends l.desk);
}
