-- How bytes and values are written in a line.
use Rattle.std.specs.Prelude.{ℕ, List, [], ◌∷◌, ◌++◌, ◌+◌, ◌/◌, ◌%◌, ◌||◌, ◌&&◌, nat_le, nat_lt, nat_eq, codes, if◌then◌else◌}
use Rattle.std.specs.Fmt.{signed_decimal}
use Rattle.std.specs.List.{flat_map}
use Rattle.wire_values.specs.declared.value.Value.{Value}
use Rattle.wire_values.specs.declared.value.Value.TheFolds.{fold-Value}
use Rattle.wire_values.specs.declared.value.Value.TheOpen.{Value-F}

-- a hexadecimal digit, in lower case
abbrev pub hex_digit : ℕ → ℕ
hex_digit d = if nat_lt d 10 then 48 + d else 87 + d

-- a byte between quotes: as it is, behind a backslash, or by its two digits
abbrev pub escaped : ℕ → List ℕ
escaped b =
    if nat_eq b 34 || nat_eq b 92 then 92 ∷ b ∷ []
    else if nat_le 32 b && nat_le b 126 then b ∷ []
    else 92 ∷ 120 ∷ hex_digit (b / 16) ∷ hex_digit (b % 16) ∷ []

-- the quoted form of bytes
abbrev pub quoted : List ℕ → List ℕ
quoted bytes = 34 ∷ flat_map escaped bytes ++ 34 ∷ []

-- texts with a comma and a space between them
abbrev pub commas : List (List ℕ) → List ℕ
commas [] = []
commas (text ∷ texts) = text ++ flat_map (λ t. 44 ∷ 32 ∷ t) texts

-- one value, by how bytes are written, with the text of each item in its place
abbrev pub value_step : (List ℕ → List ℕ) → Value-F (List ℕ) → List ℕ
value_step text (Value-F.Status b) = 43 ∷ text b
value_step text (Value-F.Error b) = 45 ∷ text b
value_step text (Value-F.Integer n) = 58 ∷ signed_decimal n
value_step text (Value-F.Bulk b) = 36 ∷ text b
value_step text Value-F.NullBulk = codes "$-"
value_step text (Value-F.Array items) = 42 ∷ 91 ∷ commas items ++ 93 ∷ []
value_step text Value-F.NullArray = codes "*-"

-- a value, by how bytes are written
abbrev pub value_text : (List ℕ → List ℕ) → Value → List ℕ
value_text text = fold-Value (List ℕ) (value_step text)

-- the value form: a value whose bytes are quoted
abbrev pub value_form : Value → List ℕ
value_form = value_text quoted

-- words, each followed by a space, by how bytes are written
abbrev pub words_text : (List ℕ → List ℕ) → List (List ℕ) → List ℕ
words_text text words = flat_map (λ word. text word ++ 32 ∷ []) words
