use Rattle.std.proofs.Common.{◌≡◌, length}
use Rattle.line_text.specs.LinesLeft.{lines_left}
use Rattle.beat_files.specs.BeatFiles.{lines_spell}
use Rattle.beat_files.specs.Readings.{AreFrom, entries_before, lines_with}
use Rattle.beat_files.proofs.reading.read_lines.Given as goal

-- what was read and what the lines from here on spell are what all of them spell
abbrev pub invariant-loop-number : goal.invariant-loop-number
invariant-loop-number l = record {
  so_far : lines_spell l.cut (lines_left l.fn.lines) ≡ entries_before (lines_with l.tasks.items l.times.items) (lines_spell l.cut (lines_left l.lines));
  paired : length l.times.items ≡ length l.tasks.items;
  begun : AreFrom l.start l.times.items;
}

abbrev pub decreases-loop-number : goal.decreases-loop-number
decreases-loop-number l = length (lines_left l.lines)
