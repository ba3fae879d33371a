use Rattle.std.proofs.Common.{◌≡◌, ◌++◌, ◌≤◌, List, [], ℕ}
use Rattle.links.specs.Views.{sink_view}
use Rattle.resp_wire.specs.Moves.{unread_of}
use Rattle.wire_show.specs.Runs.{HasGivenLines}
use Rattle.wire_show.specs.Shows.{IsWritten}
use Rattle.wire_show.proofs.showing.Showing.drain.Given as goal

abbrev pub invariant-lines : goal.invariant-lines
invariant-lines g l =
    record {
      empty : l.self.lines.ready.items ≡ [];
      given : (stream text : List ℕ) → HasGivenLines l.fn.self.decoder stream text
          → (more : List ℕ) × HasGivenLines l.self.decoder stream (text ++ more)
          × IsWritten (sink_view g.K.Sink.taken g.K.Sink.write_faults l.fn.out) (sink_view g.K.Sink.taken g.K.Sink.write_faults l.out) more;
    }

abbrev pub decreases-lines : goal.decreases-lines
decreases-lines g l = unread_of l.self.decoder
