use Rattle.std.proofs.Common.{false, subst, sym}
use Rattle.links.specs.Views.{sink_view}
use Rattle.store_model.specs.Store.{StoreView, empty_state}
use Rattle.serve_run.specs.NetViews.{net_view}
use Rattle.serve_run.specs.ServeRuns.{HasServedOn}
use Rattle.serve_run.specs.declared.ending.ServingEnd.{ServingEnd}
use Rattle.serve_run.proofs.Runs.{listened, refused}
use Rattle.serve_run.proofs.serving.serve_told.Goals as goal

pub returns-in-Ok : goal.returns-in-Ok
returns-in-Ok g c =
    let a = net_view g.N.Net.closed g.N.Net.faults c.args.net.now in
    let b = net_view g.N.Net.closed g.N.Net.faults c.listen.new.self in
    let d = net_view g.N.Net.closed g.N.Net.faults c.serve_each.new.net in
    let o = sink_view g.K.Sink.taken g.K.Sink.write_faults c.args.out.now in
    let x = sink_view g.K.Sink.taken g.K.Sink.write_faults c.serve_each.new.out in
    record {
      served = (
        c.serve_each.new.store,
        listened (g.C.Clock.gives c.args.clock.now) c.args.turns c.args.connections _ c.serve_each.new.store a b d o x c.in-Ok.ensures.closed c.in-Ok.ensures.cause c.serve_each.result
            (subst (λ (s : StoreView). HasServedOn (g.C.Clock.gives c.args.clock.now) c.args.turns c.args.connections s c.serve_each.new.store b d o x c.serve_each.result) c.new-store.ensures c.serve_each.ensures.served),
      );
    }

pub returns-in-Err : goal.returns-in-Err
returns-in-Err g c =
    let a = net_view g.N.Net.closed g.N.Net.faults c.args.net.now in
    let b = net_view g.N.Net.closed g.N.Net.faults c.listen.new.self in
    let o = sink_view g.K.Sink.taken g.K.Sink.write_faults c.args.out.now in
    record {
      served = (
        record { state = empty_state; spent = false },
        subst (λ (e : ServingEnd). HasServedOn (g.C.Clock.gives c.args.clock.now) c.args.turns c.args.connections (record { state = empty_state; spent = false }) (record { state = empty_state; spent = false }) a b o o e) (sym c.at.ensures)
            (refused (g.C.Clock.gives c.args.clock.now) c.args.turns c.args.connections (record { state = empty_state; spent = false }) a b o c.in-Err.ensures.closed c.in-Err.fault c.in-Err.ensures.cause),
      );
    }
