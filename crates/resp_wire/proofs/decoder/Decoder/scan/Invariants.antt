use Rattle.std.proofs.Common.{◌≡◌, ℕ, List, ◌≤◌, false}
use Rattle.std.specs.Prelude.{None}
use Rattle.resp_wire.specs.Moves.{unread_of}
use Rattle.resp_wire.specs.Stands.{Stands}
use Rattle.resp_wire.proofs.decoder.Decoder.scan.Given as goal

abbrev pub invariant-bytes : goal.invariant-bytes
invariant-bytes l = record { fault : l.self.fault ≡ None; fresh : l.self.spent ≡ false; less : unread_of l.self ≤ unread_of l.fn.self; kept : (before : ℕ) (rest : List ℕ) → Stands l.fn.self before rest → Stands l.self before rest }

abbrev pub decreases-bytes : goal.decreases-bytes
decreases-bytes l = unread_of l.self
