use Rattle.std.proofs.Common.{◌∙◌, sym}
use Rattle.line_text.specs.LinesLeft.{lines_left}
use Rattle.publish_script.specs.Readings.{from_first, reader_of}
use Rattle.publish_script.specs.Scripts.{lines_script, new_reader}
use Rattle.publish_script.proofs.Checked.{cut_at, ends_with, goes_on_unless}
use Rattle.publish_script.proofs.script.check_lines.Goals as goal

pub returns-then-ends_cut : goal.returns-then-ends_cut
returns-then-ends_cut c =
    cut_at (lines_script c.args.seed c.args.is_cut new_reader (from_first c.args.first (lines_left c.args.lines))) c.args.seed c.loop-present.reader.seed c.args.is_cut (reader_of c.loop-present.reader) c.loop-present.present c.next-present.result c.in-Some.number c.in-Some.line (lines_left c.loop-present.lines) (lines_left c.next-present.new.self)
    c.loop-present.invariant.rest c.in-Some.is c.next-present.ensures.steps c.loop-present.invariant.seed
    c.ends_cut.result c.bad.result c.if-ends_cut.true (c.ends_cut.ensures (lines_left c.next-present.new.self)) c.bad.ensures

pub returns-in-Some-err : goal.returns-in-Some-err
returns-in-Some-err c =
    ends_with (lines_script c.args.seed c.args.is_cut new_reader (from_first c.args.first (lines_left c.args.lines))) c.args.seed c.loop-present.reader.seed c.args.is_cut (reader_of c.loop-present.reader) c.loop-present.present c.next-present.result c.in-Some.number c.in-Some.line (lines_left c.loop-present.lines) (lines_left c.next-present.new.self)
    c.loop-present.invariant.rest c.in-Some.is c.next-present.ensures.steps c.loop-present.invariant.seed
    c.loop-present.reader.drawn (reader_of c.line.new.self) c.line.result c.in-Some-err.fault c.script_fault_at.result c.ends_cut.result c.if-ends_cut.false (c.ends_cut.ensures (lines_left c.next-present.new.self)) (sym c.in-Some-err.is ∙ c.err.ensures.value) c.line.ensures.read c.script_fault_at.ensures

pub loop-present-preserved : goal.loop-present-preserved
loop-present-preserved c = record {
  seed = c.line.ensures.seed ∙ c.loop-present.invariant.seed;
  rest = goes_on_unless (lines_script c.args.seed c.args.is_cut new_reader (from_first c.args.first (lines_left c.args.lines))) c.args.seed c.loop-present.reader.seed c.args.is_cut (reader_of c.loop-present.reader) c.loop-present.present c.next-present.result c.in-Some.number c.in-Some.line (lines_left c.loop-present.lines) (lines_left c.next-present.new.self)
      c.loop-present.invariant.rest c.in-Some.is c.next-present.ensures.steps c.loop-present.invariant.seed
      c.loop-present.reader.drawn (reader_of c.line.new.self) c.line.result c.ends_cut.result c.if-ends_cut.false (c.ends_cut.ensures (lines_left c.next-present.new.self)) (sym c.in_default-err.is ∙ c.err.ensures.value) c.line.ensures.read;
}
