use Rattle.std.proofs.Common.{◌++◌, ◌≤◌, List, ℕ}
use Rattle.resp_wire.specs.Moves.{unread_of}
use Rattle.wire_show.specs.Runs.{HasGivenLines}
use Rattle.wire_show.proofs.showing.Showing.gather.Given as goal

abbrev pub invariant-lines : goal.invariant-lines
invariant-lines l =
    record {
      less : unread_of l.self.decoder ≤ unread_of l.fn.self.decoder;
      given : (stream text : List ℕ) → HasGivenLines l.fn.self.decoder stream (text ++ l.fn.self.lines.ready.items)
          → HasGivenLines l.self.decoder stream (text ++ l.self.lines.ready.items);
    }

abbrev pub decreases-lines : goal.decreases-lines
decreases-lines l = unread_of l.self.decoder
