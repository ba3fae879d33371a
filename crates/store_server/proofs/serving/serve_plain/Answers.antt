use Rattle.std.proofs.Common.{[], arith, inr, refl, subst, sym}
use Rattle.store_server.specs.Servings.{HasServed}
use Rattle.store_server.proofs.Served.{none_came, none_served, served_after}
use Rattle.store_server.proofs.serving.serve_plain.Goals as goal

pub returns-in-Ok : goal.returns-in-Ok
returns-in-Ok g c =
    let (left, served) = c.serve_all.ensures.served in
    record {
      served = (
        left,
        served_after (g.C.Clock.gives c.args.clock.now) c.args.turns c.args.connections c.args.store left (g.N.Net.closed c.args.net.now) (g.N.Net.closed c.listen.new.self) (g.N.Net.closed c.serve_all.new.net) (g.N.Net.faults c.args.net.now) (g.N.Net.faults c.listen.new.self) (g.N.Net.faults c.serve_all.new.net)
            c.serve_all.result.sessions.items c.serve_all.result.why c.listen.ensures.closed c.in-Ok.ensures.cause served,
      );
    }

pub returns-in-Err : goal.returns-in-Err
returns-in-Err g c = record {
  served = (
    c.args.store,
    subst (λ l. HasServed (g.C.Clock.gives c.args.clock.now) c.args.turns c.args.connections c.args.store c.args.store (g.N.Net.closed c.args.net.now) (g.N.Net.closed c.listen.new.self) (g.N.Net.faults c.args.net.now) (g.N.Net.faults c.listen.new.self) l c.why_of.result) (sym c.new.ensures.items)
        (subst (λ w. HasServed (g.C.Clock.gives c.args.clock.now) c.args.turns c.args.connections c.args.store c.args.store (g.N.Net.closed c.args.net.now) (g.N.Net.closed c.listen.new.self) (g.N.Net.faults c.args.net.now) (g.N.Net.faults c.listen.new.self) [] w) (sym c.why_of.ensures)
        (none_came (g.C.Clock.gives c.args.clock.now) c.args.turns c.args.connections c.args.store c.args.store (g.N.Net.closed c.args.net.now) (g.N.Net.closed c.args.net.now) (g.N.Net.faults c.args.net.now) (g.N.Net.faults c.args.net.now) [] refl (omega arith) (none_served (g.C.Clock.gives c.args.clock.now) c.args.turns c.args.store (g.N.Net.closed c.args.net.now))
        c.args.store (g.N.Net.closed c.listen.new.self) (g.N.Net.faults c.listen.new.self) c.in-Err.fault (inr refl) refl c.listen.ensures.closed c.in-Err.ensures.cause)),
  );
}
