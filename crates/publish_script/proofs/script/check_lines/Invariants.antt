use Rattle.std.proofs.Common.{◌≡◌, length}
use Rattle.line_text.specs.LinesLeft.{lines_left}
use Rattle.publish_script.specs.Readings.{from_first, reader_of}
use Rattle.publish_script.specs.Scripts.{lines_script, new_reader}
use Rattle.publish_script.proofs.Checked.{SameEnd}
use Rattle.publish_script.proofs.script.check_lines.Given as goal

-- what the lines from here on say ends as what all of them say
abbrev pub invariant-loop-present : goal.invariant-loop-present
invariant-loop-present l = record {
  seed : l.reader.seed ≡ l.fn.seed;
  rest : SameEnd (lines_script l.fn.seed l.is_cut new_reader (from_first l.fn.first (lines_left l.fn.lines))) (lines_script l.fn.seed l.is_cut (reader_of l.reader) (from_first l.present (lines_left l.lines)));
}

abbrev pub decreases-loop-present : goal.decreases-loop-present
decreases-loop-present l = length (from_first l.present (lines_left l.lines))
