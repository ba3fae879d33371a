-- What stands at a name in a JSON tree.
use Rattle.std.specs.Prelude.{Bool, true, false, List, ℕ, Option, option_map, option_and_then, is_some}
use Rattle.std.specs.Option.{option_map_or}
use Rattle.std.specs.Str.{bytes_eq, str_eq_ignore_ascii_case}
use Rattle.serde_json.specs.Data.{Data, object}
use Rattle.serde_json.specs.Find.{get, as_bool, as_null, as_object, as_str}

-- the value, where it is an object
abbrev pub if_object : Data → Option Data
if_object d = option_map object (as_object d)

-- the text at the name k
abbrev pub text_at : List ℕ → Data → Option (List ℕ)
text_at k d = option_and_then as_str (get k d)

-- the object at the name k
abbrev pub object_at : List ℕ → Data → Option Data
object_at k d = option_and_then if_object (get k d)

-- whether the value at the name k is true
abbrev pub is_true_at : List ℕ → Data → Bool
is_true_at k d = option_map_or (λ b. b) (option_and_then as_bool (get k d)) false

-- whether there is a text, and it is the word
abbrev pub says_word : List ℕ → Option (List ℕ) → Bool
says_word word o = option_map_or (λ s. bytes_eq s word) o false

-- the same, where the case of ASCII letters is ignored
abbrev pub is_word_any_case : List ℕ → Option (List ℕ) → Bool
is_word_any_case word o = option_map_or (λ s. str_eq_ignore_ascii_case s word) o false

-- whether it is absent or null
abbrev pub is_nothing : Option Data → Bool
is_nothing o = option_map_or (λ d. is_some (as_null d)) o true
