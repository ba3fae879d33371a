use Rattle.serde_json.specs.View.{view as data_of}
use Rattle.serde_json.specs.Written.{compact_text}
use Rattle.command_blocks.specs.Scripts.{Publish}
use Rattle.links.specs.Views.{sink_view}
use Rattle.publish_run.specs.Saids.{desk_shows}
use Rattle.publish_run.proofs.Amid.{said_published}
use Rattle.publish_run.proofs.stepping.publish.Goals as goal

pub returns : goal.returns
returns g c = record {
  later = c.say_block-said.ensures.later;
  said = λ n is next.
      let v = compact_text (data_of c.args.envelope) in
      said_published g.D.Desk.goes g.D.Desk.refuses g.D.Desk.remote g.D.Desk.shared c.args.seed n c.args.desk.now c.say_block-said.new.desk (desk_shows g.D.Desk.fault g.D.Desk.stopped g.D.Desk.faults g.D.Desk.ends c.args.desk.now) (desk_shows g.D.Desk.fault g.D.Desk.stopped g.D.Desk.faults g.D.Desk.ends c.say_block-said.new.desk)
      v c.args.counter (sink_view g.K.Sink.taken g.K.Sink.write_faults c.args.out.now) (sink_view g.K.Sink.taken g.K.Sink.write_faults c.tell_end.new.out) c.say_block-said.result c.tell_end.result
      (c.publish_core-core.ensures.lawful c.args.seed n next.written) is (c.say_block-said.ensures.said c.args.seed 0 (Publish v) (c.publish_core-core.ensures.traced c.args.seed 0)) c.tell_end.ensures;
}
