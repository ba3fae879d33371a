use Rattle.std.proofs.Common.{◌≡◌, ◌≤◌, ◌+◌, ◌-◌, length}
use Rattle.std.specs.Io.KnownBytes.{Consumes}
use Rattle.links.proofs.whole.read_pieces.Given as goal

abbrev pub invariant-more : goal.invariant-more
invariant-more g l =
    (length l.all ≤ l.limit + 1)
    × Consumes (g.S.Source.left l.initial.src) (g.S.Source.left l.src) l.all
    × (g.S.Source.read_faults l.src ≡ g.S.Source.read_faults l.initial.src)
    × (g.S.Source.ends l.src ≡ g.S.Source.ends l.initial.src)

abbrev pub decreases-more : goal.decreases-more
decreases-more g l = l.limit + 1 - length l.all
