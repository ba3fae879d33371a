use Rattle.std.proofs.Common.{◌≡◌, List, IsSome}
use Rattle.command_blocks.specs.Scripts.{Over, Off}
use Rattle.desks.specs.Faults.{HasCounts, IsOpen}
use Rattle.steps.specs.Trips.{RoundTrip}
use Rattle.block_runs.specs.Runs.{HasSaid, HadMore}
use Rattle.block_runs.proofs.saying.say_all.Given as goal

-- what was said so far of what was left
abbrev pub invariant-more : goal.invariant-more
invariant-more g l = record {
  said : (trips : List RoundTrip) × HasSaid g.D.Desk.goes (g.C.Clock.gives l.fn.clock) l.fn.desk l.desk (g.T.Steps.left l.fn.steps) trips (g.T.Steps.left l.steps) × HadMore g.T.Steps.had l.fn.steps l.steps trips;
  is_open : IsOpen (g.D.Desk.fault l.desk) (g.D.Desk.stopped l.desk);
  client : g.T.Steps.client l.steps ≡ g.T.Steps.client l.fn.steps;
  on : g.T.Steps.left l.steps ≡ Off → ⊥;
  counts : HasCounts (g.D.Desk.faults l.fn.desk) (g.D.Desk.faults l.desk) (g.D.Desk.ends l.fn.desk) (g.D.Desk.ends l.desk);
  end : g.T.Steps.left l.steps ≡ Over → IsSome (g.T.Steps.ended l.steps);
}
