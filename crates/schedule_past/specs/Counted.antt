-- A sum that 64 bits may not hold. Serves the proofs of code.
use Rattle.std.specs.Prelude.{ℕ, ◌≡◌, ◌≤◌, ◌^◌, Option, None, Some}

-- the number, or none exactly where 64 bits don't hold it
abbrev pub IsCounted : ℕ → Option ℕ → Type 0
IsCounted n (Some m) = m ≡ n
IsCounted n None = 2 ^ 64 ≤ n
