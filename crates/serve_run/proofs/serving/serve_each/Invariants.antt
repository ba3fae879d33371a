use Rattle.std.proofs.Common.{◌-◌, ◌≤◌}
use Rattle.links.specs.Views.{sink_view}
use Rattle.serve_run.specs.NetViews.{net_view}
use Rattle.serve_run.specs.Tellings.{InServing}
use Rattle.serve_run.proofs.serving.serve_each.Given as goal

abbrev pub invariant-connections : goal.invariant-connections
invariant-connections g l =
    record {
      few : l.number ≤ l.fn.connections;
      amid : InServing (g.C.Clock.gives l.initial.clock) l.fn.turns l.initial.store l.store
          (net_view g.N.Net.closed g.N.Net.faults l.initial.net) (net_view g.N.Net.closed g.N.Net.faults l.net)
          (sink_view g.K.Sink.taken g.K.Sink.write_faults l.initial.out) (sink_view g.K.Sink.taken g.K.Sink.write_faults l.out) l.number l.so_far;
    }

abbrev pub decreases-connections : goal.decreases-connections
decreases-connections g l = l.fn.connections - l.number
