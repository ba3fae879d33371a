use Rattle.std.proofs.Common.{false, inl, inr, map, refl, sym, true, ◌≡◌, ◌∙◌}
use Rattle.links.specs.Views.{sink_view}
use Rattle.serve_run.specs.NetViews.{net_view}
use Rattle.wait_words.specs.Words.{names_publish}
use Rattle.waiting_call.proofs.Statuses.{waiting_end}
use Rattle.waiting_call.proofs.node.run_wait.Goals as goal

clash : true ≡ false → ⊥
clash e = cc

pub returns-then-names_publish : goal.returns-then-names_publish
returns-then-names_publish g c =
    let publish : names_publish (map (λ w. w.now) c.args.words.now) ≡ true = sym c.names_publish.ensures ∙ c.if-names_publish.true in
    record { ended = inl (publish, c.publish_call.ensures.ended); each = λ other. absurd (clash (sym publish ∙ other)) }

pub returns-else-names_publish : goal.returns-else-names_publish
returns-else-names_publish g c =
    let words = map (λ w. w.now) c.args.words.now in
    let a = net_view g.N.Net.closed g.N.Net.faults c.args.net.now in
    let b = net_view g.N.Net.closed g.N.Net.faults c.serve_call.new.net in
    let o = sink_view g.K.Sink.taken g.K.Sink.write_faults c.args.out.now in
    let x = sink_view g.K.Sink.taken g.K.Sink.write_faults c.serve_call.new.out in
    let serve : names_publish words ≡ false = sym c.names_publish.ensures ∙ c.if-names_publish.false in
    record {
      ended = inr (serve, refl, c.serve_call.ensures.ended);
      each = λ _. waiting_end (g.C.Clock.gives c.args.clock.now) words a b o x c.serve_call.result c.serve_call.ensures.ended;
    }
