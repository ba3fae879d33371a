-- The short form of words and values, as a report has them.
use Rattle.std.specs.Prelude.{ℕ, Bool, true, false, List, [], ◌∷◌, ◌++◌, ◌||◌, ◌&&◌, nat_le, nat_eq, codes, if◌then◌else◌, length, decimal}
use Rattle.std.specs.List.{list_all}
use Rattle.wire_values.specs.declared.value.Value.{Value}
use Rattle.line_text.specs.Forms.{quoted, value_text, words_text}
use Rattle.line_text.specs.declared.short.Shape.{Shape}
use Rattle.line_text.specs.declared.short.Shape.TheVariants.{Envelope, Entry, Tag, Other}

-- a letter, a digit, or one of `_ . : / -`
abbrev pub is_plain : ℕ → Bool
is_plain b = nat_le 97 b && nat_le b 122 || nat_le 65 b && nat_le b 90 || nat_le 45 b && nat_le b 58 || nat_eq b 95

-- whether a word stands without quotes: 1 to 255 bytes, all of them plain
abbrev pub is_bare : List ℕ → Bool
is_bare word = nat_le 1 (length word) && nat_le (length word) 255 && list_all is_plain word

-- a tag's short spelling: seed and counter with a colon between
abbrev pub tag_short : ℕ → ℕ → List ℕ
tag_short seed counter = decimal seed ++ 58 ∷ decimal counter

-- the star after what is marked as redelivered
abbrev pub star : Bool → List ℕ
star true = 42 ∷ []
star false = []

-- a word by what it spells: an envelope, an entry or a tag by its tag, any other bare or quoted
abbrev pub shaped : Shape → List ℕ → List ℕ
shaped (Envelope seed counter marked) word = codes "env(" ++ tag_short seed counter ++ 41 ∷ star marked
shaped (Entry seed counter marked) word = codes "entry(" ++ tag_short seed counter ++ 41 ∷ star marked
shaped (Tag seed counter) word = codes "tag(" ++ tag_short seed counter ++ 41 ∷ []
shaped Other word = if is_bare word then word else quoted word

-- the short form of a word, where `shape` tells what bytes spell
abbrev pub short_word : (List ℕ → Shape) → List ℕ → List ℕ
short_word shape word = shaped (shape word) word

-- the short form of a value: the value form with short forms in place of quoted ones
abbrev pub short_value : (List ℕ → Shape) → Value → List ℕ
short_value shape = value_text (short_word shape)

-- words in short form, each followed by a space
abbrev pub short_words : (List ℕ → Shape) → List (List ℕ) → List ℕ
short_words shape = words_text (short_word shape)
