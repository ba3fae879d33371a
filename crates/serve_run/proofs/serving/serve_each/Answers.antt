use Rattle.std.proofs.Common.{arith, refl, subst, sym, ◌+◌}
use Rattle.links.specs.Views.{sink_view}
use Rattle.serve_run.specs.NetViews.{net_view}
use Rattle.serve_run.specs.Tellings.{InServing}
use Rattle.serve_run.specs.declared.ending.ServingEnd.{ServingEnd}
use Rattle.serve_run.proofs.Runs.{begun, ended, goes_on, stops}
use Rattle.serve_run.proofs.serving.serve_each.Goals as goal

pub connections-init : goal.connections-init
connections-init g c = record {
  few = omega arith;
  amid = begun (g.C.Clock.gives c.args.clock.now) c.args.turns c.args.store.now (net_view g.N.Net.closed g.N.Net.faults c.args.net.now) (sink_view g.K.Sink.taken g.K.Sink.write_faults c.args.out.now);
}

pub connections-preserved : goal.connections-preserved
connections-preserved g c = record {
  few = omega (arith, c.connections-test.true);
  amid = subst (λ (e : ServingEnd). InServing (g.C.Clock.gives c.args.clock.now) c.args.turns c.args.store.now c.serve_next.new.store
      (net_view g.N.Net.closed g.N.Net.faults c.args.net.now) (net_view g.N.Net.closed g.N.Net.faults c.serve_next.new.net)
      (sink_view g.K.Sink.taken g.K.Sink.write_faults c.args.out.now) (sink_view g.K.Sink.taken g.K.Sink.write_faults c.serve_next.new.out) (c.connections.number + 1) e) (sym c.with-so_far.ensures)
      (goes_on (g.C.Clock.gives c.args.clock.now) c.args.turns c.args.store.now c.connections.store c.serve_next.new.store
      (net_view g.N.Net.closed g.N.Net.faults c.args.net.now) (net_view g.N.Net.closed g.N.Net.faults c.connections.net) (net_view g.N.Net.closed g.N.Net.faults c.serve_next.new.net)
      (sink_view g.K.Sink.taken g.K.Sink.write_faults c.args.out.now) (sink_view g.K.Sink.taken g.K.Sink.write_faults c.connections.out) (sink_view g.K.Sink.taken g.K.Sink.write_faults c.serve_next.new.out)
      c.connections.number (c.connections.number + 1) c.connections.so_far c.connections.invariant.amid refl c.in-Ok.end c.in-Ok.ensures.next);
}

pub returns-in-Err : goal.returns-in-Err
returns-in-Err g c = record {
  served = stops (g.C.Clock.gives c.args.clock.now) c.args.turns c.args.store.now c.connections.store c.serve_next.new.store
      (net_view g.N.Net.closed g.N.Net.faults c.args.net.now) (net_view g.N.Net.closed g.N.Net.faults c.connections.net) (net_view g.N.Net.closed g.N.Net.faults c.serve_next.new.net)
      (sink_view g.K.Sink.taken g.K.Sink.write_faults c.args.out.now) (sink_view g.K.Sink.taken g.K.Sink.write_faults c.connections.out) (sink_view g.K.Sink.taken g.K.Sink.write_faults c.serve_next.new.out)
      c.connections.number (c.connections.number + 1) c.connections.so_far c.connections.invariant.amid refl c.args.connections c.in-Err.end (omega (arith, c.connections-test.true)) c.in-Err.ensures.next;
}

pub returns : goal.returns
returns g c = record {
  served = ended (g.C.Clock.gives c.args.clock.now) c.args.turns c.args.connections c.args.store.now c.connections.store
      (net_view g.N.Net.closed g.N.Net.faults c.args.net.now) (net_view g.N.Net.closed g.N.Net.faults c.connections.net)
      (sink_view g.K.Sink.taken g.K.Sink.write_faults c.args.out.now) (sink_view g.K.Sink.taken g.K.Sink.write_faults c.connections.out)
      c.connections.number c.connections.so_far c.connections.invariant.amid (omega (arith, c.connections.invariant.few, c.connections-test.false));
}
