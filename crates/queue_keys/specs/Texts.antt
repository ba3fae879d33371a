-- The texts of numbers and tokens.
use Rattle.std.specs.Prelude.{ℕ, ◌-◌, ◌^◌, nat_le, min, if◌then◌else◌, ◌∷◌, ◌++◌, decimal}
use Rattle.queue_keys.specs.Names.{Bytes}

-- the text of a number less another: signed decimal
abbrev pub difference : ℕ → ℕ → Bytes
difference a b = if nat_le b a then decimal (a - b) else 45 ∷ decimal (b - a)

-- the token of a client's pass: its seed, a colon, and the number of the pass, held within 64 bits
abbrev pub token : ℕ → ℕ → Bytes
token s n = decimal s ++ (58 ∷ decimal (min n (2 ^ 64 - 1)))
