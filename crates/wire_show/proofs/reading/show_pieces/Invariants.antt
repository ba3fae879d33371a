use Rattle.std.proofs.Common.{◌-◌, ◌≡◌, ◌≤◌, [], length, List, ℕ}
use Rattle.links.specs.Views.{sink_view, source_view}
use Rattle.wire_show.specs.Shows.{IsReadSoFar, IsWritten, input_limit}
use Rattle.wire_show.specs.Runs.{HasGivenAll}
use Rattle.wire_show.proofs.reading.show_pieces.Given as goal

abbrev pub invariant-pieces : goal.invariant-pieces
invariant-pieces g l =
    record {
      within : l.taken ≤ input_limit;
      room : length l.room ≡ length l.initial.room;
      empty : l.showing.lines.ready.items ≡ [];
      shown : (bytes : List ℕ) × (lines : List ℕ) × (length bytes ≡ l.taken) × HasGivenAll l.showing.decoder bytes lines
          × IsReadSoFar (source_view g.S.Source.left g.S.Source.read_faults g.S.Source.ends l.initial.src) (source_view g.S.Source.left g.S.Source.read_faults g.S.Source.ends l.src) bytes
          × IsWritten (sink_view g.K.Sink.taken g.K.Sink.write_faults l.initial.out) (sink_view g.K.Sink.taken g.K.Sink.write_faults l.out) lines;
    }

abbrev pub decreases-pieces : goal.decreases-pieces
decreases-pieces g l = 67108864 - l.taken
