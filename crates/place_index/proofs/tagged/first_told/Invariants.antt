use Rattle.std.proofs.Common.{◌≡◌, ℕ, vec_len}
use Rattle.std.specs.FinMap.{get}
use Rattle.place_index.specs.Places.{first_of}
use Rattle.place_index.proofs.Tellings.{or_later}
use Rattle.place_index.proofs.tagged.first_told.Given as goal

abbrev pub invariant-telling : goal.invariant-telling
invariant-telling g l = (t : ℕ) → or_later (first_of t l.left.items) (get l.first t) ≡ first_of t l.fn.told

abbrev pub decreases-telling : goal.decreases-telling
decreases-telling g l = vec_len l.left
