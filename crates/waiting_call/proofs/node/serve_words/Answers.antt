use Rattle.std.proofs.Common.{map, subst, sym, ℕ, ◌∙◌}
use Rattle.links.specs.Views.{sink_view}
use Rattle.serve_run.specs.NetViews.{net_view}
use Rattle.serve_run.specs.ServeRuns.{HasServedRun}
use Rattle.wait_words.specs.Words.{connections_in}
use Rattle.waiting_call.proofs.Statuses.{told_none, told_some}
use Rattle.waiting_call.proofs.node.serve_words.Goals as goal

pub returns-in-Some : goal.returns-in-Some
returns-in-Some g c =
    let words = map (λ w. w.now) c.args.words.now in
    let a = net_view g.N.Net.closed g.N.Net.faults c.args.net.now in
    let b = net_view g.N.Net.closed g.N.Net.faults c.serve_told-served.new.net in
    let o = sink_view g.K.Sink.taken g.K.Sink.write_faults c.args.out.now in
    let m = sink_view g.K.Sink.taken g.K.Sink.write_faults c.serve_told-served.new.out in
    let x = sink_view g.K.Sink.taken g.K.Sink.write_faults c.finish.new.out in
    let e = c.serve_told-served.result in
    record {
      served = (
        e,
        m,
        subst (λ (n : ℕ). HasServedRun (g.C.Clock.gives c.args.clock.now) n (connections_in words) a b o m e) c.turns_in-turns.ensures
            (subst (λ (k : ℕ). HasServedRun (g.C.Clock.gives c.args.clock.now) c.turns_in-turns.result k a b o m e) c.connections_in-connections.ensures c.serve_told-served.ensures.served),
        told_some m x c.finish.result _ c.in-Some.end (sym c.of.ensures ∙ c.in-Some.is) c.finish.ensures,
      );
    }

pub returns-in-None : goal.returns-in-None
returns-in-None g c =
    let words = map (λ w. w.now) c.args.words.now in
    let a = net_view g.N.Net.closed g.N.Net.faults c.args.net.now in
    let b = net_view g.N.Net.closed g.N.Net.faults c.serve_told-served.new.net in
    let o = sink_view g.K.Sink.taken g.K.Sink.write_faults c.args.out.now in
    let m = sink_view g.K.Sink.taken g.K.Sink.write_faults c.serve_told-served.new.out in
    let e = c.serve_told-served.result in
    record {
      served = (
        e,
        m,
        subst (λ (n : ℕ). HasServedRun (g.C.Clock.gives c.args.clock.now) n (connections_in words) a b o m e) c.turns_in-turns.ensures
            (subst (λ (k : ℕ). HasServedRun (g.C.Clock.gives c.args.clock.now) c.turns_in-turns.result k a b o m e) c.connections_in-connections.ensures c.serve_told-served.ensures.served),
        told_none m _ (sym c.of.ensures ∙ c.in-None.is),
      );
    }
