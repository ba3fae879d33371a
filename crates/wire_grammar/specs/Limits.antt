-- The limits of values on the wire.
use Rattle.std.specs.Prelude.{ℕ, Bool, true, false, ◌==◌, ◌||◌}
use Rattle.wire_grammar.specs.declared.kind.NumberKind.{NumberKind}
use Rattle.wire_grammar.specs.declared.kind.NumberKind.TheVariants.{Whole, Length, Count}

-- the most bytes of a simple string or an error
abbrev pub text_limit : ℕ
text_limit = 65536

-- the most arrays that are open inside each other
abbrev pub depth_limit : ℕ
depth_limit = 4

-- the most bytes of a value
abbrev pub value_limit : ℕ
value_limit = 8388608

-- the greatest number; behind a minus sign the greatest n of -(n + 1), where the null bulk and the null array have -1
abbrev pub limit_of : NumberKind → Bool → ℕ
limit_of Whole negative = 9223372036854775807
limit_of Length false = 1048576
limit_of Count false = 4096
limit_of Length true = 0
limit_of Count true = 0

-- a byte that ends a line
abbrev pub is_end : ℕ → Bool
is_end c = c == 13 || c == 10
