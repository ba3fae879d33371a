use Rattle.std.proofs.Common.{◌≡◌, ◌++◌, List, ℕ, length}
use Rattle.std.specs.Io.KnownBytes.{Appends, Keeps}
use Rattle.sessions.proofs.sending.send_all.Given as goal

abbrev pub invariant-more : goal.invariant-more
invariant-more g l =
    (done : List ℕ) × (l.initial.rest ≡ done ++ l.rest)
    × Appends (g.L.Link.sent l.initial.link) (g.L.Link.sent l.link) done
    × Keeps (g.L.Link.received l.initial.link) (g.L.Link.received l.link)
    × (g.L.Link.faults l.link ≡ g.L.Link.faults l.initial.link)
    × (g.L.Link.ends l.link ≡ g.L.Link.ends l.initial.link)
    × (g.L.Link.gains l.link ≡ g.L.Link.gains l.initial.link)

abbrev pub decreases-more : goal.decreases-more
decreases-more g l = length l.rest
