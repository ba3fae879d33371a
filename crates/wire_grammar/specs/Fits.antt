-- What fits on the wire.
use Rattle.std.specs.Prelude.{ℕ, List, length, map, ◌≤◌, false}
use Rattle.wire_values.specs.declared.value.Value.{Value}
use Rattle.wire_values.specs.declared.value.Value.TheVariants.{Bulk, Array}
use Rattle.wire_grammar.specs.declared.kind.NumberKind.TheVariants.{Length}
use Rattle.wire_grammar.specs.Limits.{limit_of}
use Rattle.wire_grammar.specs.Spells.{Spells}

-- a byte string is short enough for a bulk string
abbrev pub IsShort : List ℕ → Type 0
IsShort b = length b ≤ limit_of Length false

-- a value fits: it has a spelling
abbrev pub HasSpelling : Value → Type 0
HasSpelling v = (bytes : List ℕ) × Spells v bytes

-- a command fits: the array of its words, as bulk strings, has a spelling; which one, is left aside
abbrev pub IsWithinLimits : List (List ℕ) → Type 0
IsWithinLimits words = ∥ HasSpelling (Array (map Bulk words)) ∥₁
