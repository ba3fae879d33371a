use Rattle.std.proofs.Common.{◌≡◌, ◌++◌}
use Rattle.place_walk.specs.Seats.{hands}
use Rattle.place_walk.proofs.hands.held_in.Given as goal

abbrev pub invariant-loop-conn : goal.invariant-loop-conn
invariant-loop-conn l = l.held ++ hands l.gone l.conn-iterator ≡ hands l.gone l.kept.entries
