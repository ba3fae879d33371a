-- Where a name stands among names in byte order. Serves the proofs of code.
use Rattle.std.specs.Ordering.{match_ordering}
use Rattle.std.specs.Prelude.{ℕ, suc, Bool, true, false, List, [], ◌∷◌}
use Rattle.wire_values.specs.Order.{bytes_cmp}
use Rattle.queue_keys.specs.Names.{Bytes}

-- how many stand before it, of which so many were passed, and whether it stands there
abbrev pub standing_from : ℕ → Bytes → List Bytes → ℕ × Bool
standing_from i q [] = (i, false)
standing_from i q (x ∷ xs) = match_ordering (bytes_cmp q x) (i, false) (i, true) (standing_from (suc i) q xs)
