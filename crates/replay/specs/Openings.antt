-- What a JSON text that begins with a byte may be. Serves the proofs of code.
use Rattle.std.specs.Prelude.{ℕ, Bool, false, ◌||◌, ◌==◌, if◌then◌else◌, List, [], ◌∷◌}

-- a blank of JSON: a space, a tab, a line feed or a carriage return
abbrev pub is_blank : ℕ → Bool
is_blank b = (b == 32) || (b == 9) || (b == 10) || (b == 13)

-- the bracket that opens an object, or else an array
abbrev pub bracket : Bool → ℕ
bracket object = if object then 123 else 91

-- whether a text may be that of an object, or else of an array: it begins with the bracket or a blank
abbrev pub may_open : Bool → List ℕ → Bool
may_open object [] = false
may_open object (b ∷ bs) = (b == bracket object) || is_blank b
