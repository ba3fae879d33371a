-- A stream of values.
use Rattle.std.specs.Prelude.{ℕ, ◌+◌, ◌≡◌, List, [], ◌∷◌, ◌++◌, length}
use Rattle.wire_values.specs.declared.value.Value.{Value}
use Rattle.wire_grammar.specs.Spells.{Spells}

-- from a place on the bytes are these values, one after the other, and then a rest from another place on
abbrev pub Leads : ℕ → List ℕ → List Value → ℕ → List ℕ → Type 0
Leads p bytes [] q rest = (bytes ≡ rest) × (p ≡ q)
Leads p bytes (v ∷ vs) q rest = (front : List ℕ) × (more : List ℕ) × (bytes ≡ front ++ more) × Spells v front × Leads (p + length front) more vs q rest
