use Rattle.std.proofs.Common.{[], ap, arith, inl, length, length-append, subst, sym, ◌+◌, ◌∙◌, ◌∷◌}
use Rattle.store_server.specs.Servings.{HasServed, HasServedAll}
use Rattle.store_server.specs.declared.serving.ServeWhy.TheVariants.{Memory}
use Rattle.store_server.proofs.Served.{all_served, none_came, one_unkept, serves_one}
use Rattle.store_server.proofs.serving.serve_each.Goals as goal

pub returns-in-Err-keep : goal.returns-in-Err-keep
returns-in-Err-keep g c = record {
  served = subst (λ l. HasServed (g.C.Clock.gives c.args.clock.now) c.args.turns c.args.connections c.args.store.now c.serve_one.new.store (g.N.Net.closed c.args.net.now) (g.N.Net.closed c.serve_one.new.net) (g.N.Net.faults c.args.net.now) (g.N.Net.faults c.serve_one.new.net) l Memory) (sym c.in-Err-keep.ensures.err)
      (one_unkept (g.C.Clock.gives c.args.clock.now) c.args.turns c.args.connections c.args.store.now c.connections.store (g.N.Net.closed c.args.net.now) (g.N.Net.closed c.connections.net) (g.N.Net.faults c.args.net.now) (g.N.Net.faults c.connections.net) c.connections.sessions.items c.connections.invariant.kept (omega (arith, c.connections.invariant.count, c.connections.invariant.few)) c.connections.invariant.served
      c.serve_one.new.store (g.N.Net.closed c.serve_one.new.net) (g.N.Net.faults c.serve_one.new.net) (c.connections.number + 1) c.in-Ok.end (omega (arith, c.connections.invariant.count)) (omega (arith, c.connections-test.true)) c.in-Ok.ensures.cause c.in-Ok.ensures.tried);
}

pub connections-preserved : goal.connections-preserved
connections-preserved g c = record {
  few = omega (arith, c.connections-test.true);
  count = omega (arith, ap length c.in-Ok-keep.ensures.ok, length-append c.connections.sessions.items (c.in-Ok.end ∷ []), c.connections.invariant.count);
  kept = c.in-Ok.ensures.cause ∙ c.connections.invariant.kept;
  served = subst (λ l. HasServedAll (g.C.Clock.gives c.args.clock.now) c.args.turns 1 c.args.store.now c.serve_one.new.store (g.N.Net.closed c.args.net.now) (g.N.Net.closed c.serve_one.new.net) l) (sym c.in-Ok-keep.ensures.ok)
      (serves_one (g.C.Clock.gives c.args.clock.now) c.args.turns 1 (c.connections.number + 1) c.args.store.now c.connections.store c.serve_one.new.store (g.N.Net.closed c.args.net.now) (g.N.Net.closed c.connections.net) (g.N.Net.closed c.serve_one.new.net) c.connections.sessions.items c.in-Ok.end
      (omega (arith, c.connections.invariant.count)) c.connections.invariant.served c.in-Ok.ensures.tried);
}

pub returns-in-Err : goal.returns-in-Err
returns-in-Err g c = record {
  served = subst (λ w. HasServed (g.C.Clock.gives c.args.clock.now) c.args.turns c.args.connections c.args.store.now c.serve_one.new.store (g.N.Net.closed c.args.net.now) (g.N.Net.closed c.serve_one.new.net) (g.N.Net.faults c.args.net.now) (g.N.Net.faults c.serve_one.new.net) c.connections.sessions.items w) (sym c.why_of.ensures)
      (none_came (g.C.Clock.gives c.args.clock.now) c.args.turns c.args.connections c.args.store.now c.connections.store (g.N.Net.closed c.args.net.now) (g.N.Net.closed c.connections.net) (g.N.Net.faults c.args.net.now) (g.N.Net.faults c.connections.net) c.connections.sessions.items c.connections.invariant.kept (omega (arith, c.connections.invariant.count, c.connections.invariant.few)) c.connections.invariant.served
      c.serve_one.new.store (g.N.Net.closed c.serve_one.new.net) (g.N.Net.faults c.serve_one.new.net) c.in-Err.fault (inl (omega (arith, c.connections.invariant.count, c.connections-test.true))) c.in-Err.ensures.tried.0 c.in-Err.ensures.tried.1 c.in-Err.ensures.cause);
}

pub returns : goal.returns
returns g c = record {
  served = all_served (g.C.Clock.gives c.args.clock.now) c.args.turns c.args.connections c.args.store.now c.connections.store (g.N.Net.closed c.args.net.now) (g.N.Net.closed c.connections.net) (g.N.Net.faults c.args.net.now) (g.N.Net.faults c.connections.net) c.connections.sessions.items c.connections.invariant.kept (omega (arith, c.connections.invariant.count, c.connections.invariant.few)) c.connections.invariant.served
      (omega (arith, c.connections.invariant.count, c.connections.invariant.few, c.connections-test.false));
}
