use Rattle.std.proofs.Common.{◌≡◌, List, false, length}
use Rattle.line_text.specs.LinesLeft.{lines_left}
use Rattle.links.specs.Views.{sink_view}
use Rattle.command_blocks.specs.Scripts.{Plan}
use Rattle.publish_script.specs.Readings.{reader_of}
use Rattle.publish_script.specs.Scripts.{Blocks, lines_script, new_reader}
use Rattle.publish_run.specs.Publishings.{IsAmidScript}
use Rattle.publish_run.specs.Saids.{IsLater, StandsOpen, desk_shows}
use Rattle.publish_run.proofs.stepping.say_lines.Given as goal

abbrev pub invariant-reading : goal.invariant-reading
invariant-reading g l = record {
  seed : l.reader.seed ≡ l.fn.seed;
  is_open : StandsOpen (desk_shows g.D.Desk.fault g.D.Desk.stopped g.D.Desk.faults g.D.Desk.ends l.desk);
  later : IsLater (desk_shows g.D.Desk.fault g.D.Desk.stopped g.D.Desk.faults g.D.Desk.ends l.fn.desk) (desk_shows g.D.Desk.fault g.D.Desk.stopped g.D.Desk.faults g.D.Desk.ends l.desk);
  amid : (plans : List Plan) × (lines_script l.fn.seed false new_reader (lines_left l.fn.lines) ≡ Blocks plans)
      × IsAmidScript g.D.Desk.goes l.fn.seed plans l.fn.desk l.desk (sink_view g.K.Sink.taken g.K.Sink.write_faults l.fn.out) (sink_view g.K.Sink.taken g.K.Sink.write_faults l.out) (reader_of l.reader) (lines_left l.lines);
}

abbrev pub decreases-reading : goal.decreases-reading
decreases-reading g l = length (lines_left l.lines)
