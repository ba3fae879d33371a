use Rattle.std.proofs.Common.{refl}
use Rattle.place_index.proofs.tables.WalkTables.of_walk.Goals as goal

pub returns : goal.returns
returns c = record { accepted = refl; tallies = c.in_ok-tallies.ensures.tallies; hands = c.in_ok-tallies.ensures.hands }
