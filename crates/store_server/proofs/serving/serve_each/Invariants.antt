use Rattle.std.proofs.Common.{length, ◌-◌, ◌≡◌, ◌≤◌}
use Rattle.store_server.specs.Servings.{HasServedAll}
use Rattle.store_server.proofs.serving.serve_each.Given as goal

abbrev pub invariant-connections : goal.invariant-connections
invariant-connections g l =
    record {
      few : l.number ≤ l.fn.connections;
      count : length l.sessions.items ≡ l.number;
      kept : g.N.Net.faults l.net ≡ g.N.Net.faults l.initial.net;
      served : HasServedAll (g.C.Clock.gives l.initial.clock) l.fn.turns 1 l.initial.store l.store (g.N.Net.closed l.initial.net) (g.N.Net.closed l.net) l.sessions.items;
    }

abbrev pub decreases-connections : goal.decreases-connections
decreases-connections g l = l.fn.connections - l.number
