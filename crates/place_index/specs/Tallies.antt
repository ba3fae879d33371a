-- Numbers that are told: how often, and where first. Serves the proofs of code.
use Rattle.std.specs.Prelude.{ℕ, zero, suc, Bool, true, false, not, ◌==◌, List, [], ◌∷◌, filter, Option, None, Some}

-- none for 0, else whether it is 2 or more
abbrev pub tally : ℕ → Option Bool
tally zero = None
tally (suc zero) = Some false
tally (suc (suc n)) = Some true

-- each number where it stands first
abbrev pub first_numbers : List ℕ → List ℕ
first_numbers [] = []
first_numbers (n ∷ ns) = n ∷ filter (λ m. not (m == n)) (first_numbers ns)
