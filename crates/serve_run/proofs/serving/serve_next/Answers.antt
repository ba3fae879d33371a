use Rattle.links.specs.Views.{sink_view}
use Rattle.serve_run.specs.NetViews.{net_view}
use Rattle.serve_run.proofs.Runs.{stops_in_line}
use Rattle.serve_run.proofs.serving.serve_next.Goals as goal

pub returns-in-Err-tell : goal.returns-in-Err-tell
returns-in-Err-tell g c = record {
  next = stops_in_line (g.C.Clock.gives c.args.clock.now) c.args.turns c.args.number c.args.store.now c.serve_one.new.store
      (net_view g.N.Net.closed g.N.Net.faults c.args.net.now) (net_view g.N.Net.closed g.N.Net.faults c.serve_one.new.net)
      (sink_view g.K.Sink.taken g.K.Sink.write_faults c.args.out.now) (sink_view g.K.Sink.taken g.K.Sink.write_faults c.tell.new.out)
      c.in-Ok.end c.in-Ok.ensures.tried c.in-Ok.ensures.cause c.in-Err-tell.stop c.in-Err-tell.ensures.line;
}
