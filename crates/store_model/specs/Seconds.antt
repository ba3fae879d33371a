-- Seconds to live, as words. The integers that words spell are those of the wire.
use Rattle.std.specs.Prelude.{ℕ, ◌^◌, ◌&&◌, List, nat_lt, Option, None, Some, if◌then◌else◌}
use Rattle.numerals.specs.Integers.{natural_of}

-- seconds to live are 1 to 4,294,967,295
abbrev pub within_seconds : Option ℕ → Option ℕ
within_seconds None = None
within_seconds (Some n) = if nat_lt 0 n && nat_lt n (2 ^ 32) then Some n else None

-- the seconds to live that a word spells
abbrev pub seconds_of : List ℕ → Option ℕ
seconds_of w = within_seconds (natural_of w)
