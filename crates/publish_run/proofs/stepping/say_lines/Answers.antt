use Rattle.std.proofs.Common.{Err, Ok, subst, sym, ℕ, ◌∙◌}
use Rattle.line_text.specs.LinesLeft.{lines_left}
use Rattle.links.specs.Views.{sink_view}
use Rattle.publish_script.specs.Readings.{reader_of}
use Rattle.publish_script.specs.Scripts.{line_step}
use Rattle.publish_run.specs.Blocks.{IsNotWrong}
use Rattle.publish_run.specs.Publishings.{HasSaidLine, IsAmidScript}
use Rattle.publish_run.specs.Saids.{desk_shows}
use Rattle.publish_run.proofs.Goings.{amid_begun, amid_next, good_line, open_after, said_all, stops_next}
use Rattle.publish_run.proofs.Sayings.{later_on, later_self}
use Rattle.publish_run.proofs.stepping.say_lines.Goals as goal

pub say_line-requires-clause-good : goal.say_line-requires-clause-good
say_line-requires-clause-good g c =
    let amid = c.reading.invariant.amid in
    subst (λ (x : ℕ). IsNotWrong (line_step x (reader_of c.reading.reader) c.in-Some.line.now)) (sym c.reading.invariant.seed)
    (good_line g.D.Desk.goes g.met.D.Desk.joins g.D.Desk.refuses g.D.Desk.remote g.D.Desk.shared c.args.seed amid.0 c.args.desk.now c.reading.desk c.reading.desk (sink_view g.K.Sink.taken g.K.Sink.write_faults c.args.out.now) (sink_view g.K.Sink.taken g.K.Sink.write_faults c.reading.out) (sink_view g.K.Sink.taken g.K.Sink.write_faults c.reading.out) (desk_shows g.D.Desk.fault g.D.Desk.stopped g.D.Desk.faults g.D.Desk.ends c.args.desk.now) (desk_shows g.D.Desk.fault g.D.Desk.stopped g.D.Desk.faults g.D.Desk.ends c.reading.desk) (desk_shows g.D.Desk.fault g.D.Desk.stopped g.D.Desk.faults g.D.Desk.ends c.reading.desk)
    (reader_of c.reading.reader) (reader_of c.reading.reader) c.in-Some.field-0-0 c.in-Some.line.now (lines_left c.reading.lines) (lines_left c.next.new.self) amid.2 c.in-Some.ensures.steps)

pub returns-in-Err : goal.returns-in-Err
returns-in-Err g c =
    let amid = c.reading.invariant.amid in
    record {
      said = (
        amid.0,
        amid.1,
        stops_next g.D.Desk.goes g.met.D.Desk.joins g.D.Desk.refuses g.D.Desk.remote g.D.Desk.shared c.args.seed amid.0 c.args.desk.now c.reading.desk c.say_line.new.desk (sink_view g.K.Sink.taken g.K.Sink.write_faults c.args.out.now) (sink_view g.K.Sink.taken g.K.Sink.write_faults c.reading.out) (sink_view g.K.Sink.taken g.K.Sink.write_faults c.say_line.new.out) (desk_shows g.D.Desk.fault g.D.Desk.stopped g.D.Desk.faults g.D.Desk.ends c.args.desk.now) (desk_shows g.D.Desk.fault g.D.Desk.stopped g.D.Desk.faults g.D.Desk.ends c.reading.desk) (desk_shows g.D.Desk.fault g.D.Desk.stopped g.D.Desk.faults g.D.Desk.ends c.say_line.new.desk)
            (reader_of c.reading.reader) (reader_of c.say_line.new.reader) c.in-Some.field-0-0 c.in-Some.line.now (lines_left c.reading.lines) (lines_left c.next.new.self) amid.2 c.in-Some.ensures.steps c.in-Err.end c.reading.invariant.later
            (subst (λ (x : ℕ). HasSaidLine g.D.Desk.goes g.D.Desk.refuses g.D.Desk.remote g.D.Desk.shared x c.reading.reader.drawn (line_step x (reader_of c.reading.reader) c.in-Some.line.now) (reader_of c.say_line.new.reader) c.reading.desk c.say_line.new.desk (desk_shows g.D.Desk.fault g.D.Desk.stopped g.D.Desk.faults g.D.Desk.ends c.reading.desk) (desk_shows g.D.Desk.fault g.D.Desk.stopped g.D.Desk.faults g.D.Desk.ends c.say_line.new.desk) (sink_view g.K.Sink.taken g.K.Sink.write_faults c.reading.out) (sink_view g.K.Sink.taken g.K.Sink.write_faults c.say_line.new.out) (Err c.in-Err.end)) c.reading.invariant.seed c.in-Err.ensures.said),
      );
    }

pub reading-preserved : goal.reading-preserved
reading-preserved g c =
    let amid = c.reading.invariant.amid in
    record {
      seed = c.say_line.ensures.seed ∙ c.reading.invariant.seed;
      is_open = open_after g.D.Desk.goes g.D.Desk.refuses g.D.Desk.remote g.D.Desk.shared c.reading.reader.seed c.reading.reader.drawn (line_step c.reading.reader.seed (reader_of c.reading.reader) c.in-Some.line.now) (reader_of c.say_line.new.reader) c.reading.desk c.say_line.new.desk (λ d. (desk_shows g.D.Desk.fault g.D.Desk.stopped g.D.Desk.faults g.D.Desk.ends d))
          (sink_view g.K.Sink.taken g.K.Sink.write_faults c.reading.out) (sink_view g.K.Sink.taken g.K.Sink.write_faults c.say_line.new.out) c.reading.invariant.is_open c.in-Ok.ensures.said;
      later = later_on (desk_shows g.D.Desk.fault g.D.Desk.stopped g.D.Desk.faults g.D.Desk.ends c.args.desk.now) (desk_shows g.D.Desk.fault g.D.Desk.stopped g.D.Desk.faults g.D.Desk.ends c.reading.desk) (desk_shows g.D.Desk.fault g.D.Desk.stopped g.D.Desk.faults g.D.Desk.ends c.say_line.new.desk) c.reading.invariant.later c.say_line.ensures.later;
      amid = (
        amid.0,
        amid.1,
        amid_next g.D.Desk.goes g.met.D.Desk.joins g.D.Desk.refuses g.D.Desk.remote g.D.Desk.shared c.args.seed amid.0 c.args.desk.now c.reading.desk c.say_line.new.desk (sink_view g.K.Sink.taken g.K.Sink.write_faults c.args.out.now) (sink_view g.K.Sink.taken g.K.Sink.write_faults c.reading.out) (sink_view g.K.Sink.taken g.K.Sink.write_faults c.say_line.new.out) (desk_shows g.D.Desk.fault g.D.Desk.stopped g.D.Desk.faults g.D.Desk.ends c.args.desk.now) (desk_shows g.D.Desk.fault g.D.Desk.stopped g.D.Desk.faults g.D.Desk.ends c.reading.desk) (desk_shows g.D.Desk.fault g.D.Desk.stopped g.D.Desk.faults g.D.Desk.ends c.say_line.new.desk)
            (reader_of c.reading.reader) (reader_of c.say_line.new.reader) c.in-Some.field-0-0 c.in-Some.line.now (lines_left c.reading.lines) (lines_left c.next.new.self) amid.2 c.in-Some.ensures.steps (subst (λ (x : ℕ). HasSaidLine g.D.Desk.goes g.D.Desk.refuses g.D.Desk.remote g.D.Desk.shared x c.reading.reader.drawn (line_step x (reader_of c.reading.reader) c.in-Some.line.now) (reader_of c.say_line.new.reader) c.reading.desk c.say_line.new.desk (desk_shows g.D.Desk.fault g.D.Desk.stopped g.D.Desk.faults g.D.Desk.ends c.reading.desk) (desk_shows g.D.Desk.fault g.D.Desk.stopped g.D.Desk.faults g.D.Desk.ends c.say_line.new.desk) (sink_view g.K.Sink.taken g.K.Sink.write_faults c.reading.out) (sink_view g.K.Sink.taken g.K.Sink.write_faults c.say_line.new.out) (Ok tt)) c.reading.invariant.seed c.in-Ok.ensures.said),
      );
    }

pub reading-init : goal.reading-init
reading-init g c = record {
  seed = c.new-reader.ensures.seed;
  is_open = c.requires.open;
  later = later_self (desk_shows g.D.Desk.fault g.D.Desk.stopped g.D.Desk.faults g.D.Desk.ends c.args.desk.now);
  amid = (
    c.requires.good.0,
    c.requires.good.1,
    subst (λ r. IsAmidScript g.D.Desk.goes c.args.seed c.requires.good.0 c.args.desk.now c.args.desk.now (sink_view g.K.Sink.taken g.K.Sink.write_faults c.args.out.now) (sink_view g.K.Sink.taken g.K.Sink.write_faults c.args.out.now) r (lines_left c.args.lines)) (sym c.new-reader.ensures.reader)
        (amid_begun g.D.Desk.goes g.met.D.Desk.joins g.D.Desk.refuses g.D.Desk.remote g.D.Desk.shared c.args.seed c.requires.good.0 c.args.desk.now (sink_view g.K.Sink.taken g.K.Sink.write_faults c.args.out.now) (lines_left c.args.lines) (g.met.D.Desk.stays c.args.desk.now) c.requires.good.1),
  );
}

pub returns : goal.returns
returns g c =
    let amid = c.reading.invariant.amid in
    record {
      said = (
        amid.0,
        amid.1,
        said_all g.D.Desk.goes g.met.D.Desk.joins g.D.Desk.refuses g.D.Desk.remote g.D.Desk.shared c.args.seed amid.0 c.args.desk.now c.reading.desk (sink_view g.K.Sink.taken g.K.Sink.write_faults c.args.out.now) (sink_view g.K.Sink.taken g.K.Sink.write_faults c.reading.out) (reader_of c.reading.reader) (lines_left c.reading.lines) amid.2
            (desk_shows g.D.Desk.fault g.D.Desk.stopped g.D.Desk.faults g.D.Desk.ends c.args.desk.now) (desk_shows g.D.Desk.fault g.D.Desk.stopped g.D.Desk.faults g.D.Desk.ends c.reading.desk) c.reading.invariant.is_open c.in_default.ensures.steps.0,
      );
    }
