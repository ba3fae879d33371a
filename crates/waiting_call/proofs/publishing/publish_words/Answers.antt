use Rattle.std.proofs.Common.{subst, ℕ}
use Rattle.links.specs.Views.{sink_view, source_view}
use Rattle.publish_run.specs.PublishRuns.{HasPublishedRun, net_shows}
use Rattle.waiting_call.proofs.publishing.publish_words.Goals as goal

pub returns : goal.returns
returns g c =
    let s = source_view g.S.Source.left g.S.Source.read_faults g.S.Source.ends c.args.src.now in
    let s2 = source_view g.S.Source.left g.S.Source.read_faults g.S.Source.ends c.publish_told-end.new.src in
    let a = net_shows g.N.Net.closed g.N.Net.faults g.N.Net.closed_faults c.args.net.now in
    let b = net_shows g.N.Net.closed g.N.Net.faults g.N.Net.closed_faults c.publish_told-end.new.net in
    let o = sink_view g.K.Sink.taken g.K.Sink.write_faults c.args.out.now in
    let m = sink_view g.K.Sink.taken g.K.Sink.write_faults c.publish_told-end.new.out in
    let e = c.publish_told-end.result in
    record {
      published = (
        e,
        m,
        subst (λ (n : ℕ). HasPublishedRun n s s2 a b o m e) c.seed_in-seed.ensures c.publish_told-end.ensures.published,
        c.finish_publishing.ensures,
      );
    }
