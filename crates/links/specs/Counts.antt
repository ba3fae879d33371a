-- Counts that rise, and calls that are told to fail.
use Rattle.std.specs.List.{list_any}
use Rattle.std.specs.Prelude.{Bool, List, min, nat_eq, ℕ, ◌+◌, ◌-◌, ◌^◌}

-- one more, up to the end of 64 bits
abbrev pub raised : ℕ → ℕ
raised count = min (count + 1) (2 ^ 64 - 1)

-- whether the call of this number, counted from 0, is one of those that fail
abbrev pub is_failing : List ℕ → ℕ → Bool
is_failing fails call = list_any (λ k. nat_eq k call) fails
