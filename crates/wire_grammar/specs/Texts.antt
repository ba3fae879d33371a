-- The one spelling of a value, as a function.
use Rattle.std.specs.Prelude.{ℕ, ℤ, pos, List, ◌∷◌, ◌++◌, length, flat_map, codes}
use Rattle.std.specs.Fmt.{signed_decimal}
use Rattle.wire_values.specs.declared.value.Value.{Value}
use Rattle.wire_values.specs.declared.value.Value.TheOpen.{Value-F}
use Rattle.wire_values.specs.declared.value.Value.TheFolds.{fold-Value}
use Rattle.wire_grammar.specs.Spells.{crlf}

-- an integer and the end of its line
abbrev pub number_text : ℤ → List ℕ
number_text z = signed_decimal z ++ crlf

-- one value, with the text of each item in its place
abbrev pub spelling_step : Value-F (List ℕ) → List ℕ
spelling_step (Value-F.Status text) = 43 ∷ (text ++ crlf)
spelling_step (Value-F.Error text) = 45 ∷ (text ++ crlf)
spelling_step (Value-F.Integer z) = 58 ∷ number_text z
spelling_step (Value-F.Bulk content) = 36 ∷ (number_text (pos (length content)) ++ (content ++ crlf))
spelling_step Value-F.NullBulk = codes "$-1\r\n"
spelling_step (Value-F.Array items) = 42 ∷ (number_text (pos (length items)) ++ flat_map (λ text. text) items)
spelling_step Value-F.NullArray = codes "*-1\r\n"

-- the bytes that a value is written as
abbrev pub spelling : Value → List ℕ
spelling = fold-Value (List ℕ) spelling_step
