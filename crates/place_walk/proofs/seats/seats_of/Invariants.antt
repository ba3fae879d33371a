use Rattle.std.proofs.Common.{◌≡◌, drop}
use Rattle.std.specs.FinMap.{empty}
use Rattle.place_walk.specs.Walks.{seated}
use Rattle.place_walk.proofs.seats.seats_of.Given as goal

abbrev pub invariant-loop-conn : goal.invariant-loop-conn
invariant-loop-conn l = seated l.seats (drop l.conn-index l.clients) ≡ seated empty l.clients
