use Rattle.std.proofs.Common.{inr, subst}
use Rattle.links.specs.Views.{sink_view}
use Rattle.publish_run.specs.PublishRuns.{HasPublishedBytes, net_shows}
use Rattle.publish_run.proofs.publishing.publish_told.Goals as goal

pub returns-in-Ok : goal.returns-in-Ok
returns-in-Ok g c = record {
  published = inr (
    c.in-Ok.bytes,
    c.in-Ok.ensures,
    subst (λ b. HasPublishedBytes c.args.seed b (net_shows g.N.Net.closed g.N.Net.faults g.N.Net.closed_faults c.args.net.now) (net_shows g.N.Net.closed g.N.Net.faults g.N.Net.closed_faults c.publish_checked.new.net) (sink_view g.K.Sink.taken g.K.Sink.write_faults c.args.out.now) (sink_view g.K.Sink.taken g.K.Sink.write_faults c.publish_checked.new.out) c.publish_checked.result) c.as_slice.ensures c.publish_checked.ensures,
  );
}
