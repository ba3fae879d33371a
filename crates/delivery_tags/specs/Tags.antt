-- How delivery tags are spelled: each is a seed and a counter of 64 bits, as the text of a UUID (RFC 9562).
use Rattle.std.specs.Prelude.{ℕ, ◌+◌, ◌*◌, ◌^◌, Bool, ◌&&◌, nat_lt, List, [], Option, Some, None, option_and_then, is_some, if◌then◌else◌}
use Rattle.std.specs.Int.{w128, to_be_bytes, from_be_bytes}
use Rattle.std.specs.Str.{bytes_eq}
use Rattle.uuid.specs.Text.{hyphenated_text, lower, parsed}

-- the hyphenated text in lower case of a tag's sixteen bytes, the high byte first
abbrev pub tag_text : ℕ → List ℕ
tag_text n = hyphenated_text lower (to_be_bytes w128 n)

-- the number n, where the text is its own
abbrev pub if_spelled : List ℕ → ℕ → Option ℕ
if_spelled s n = if bytes_eq s (tag_text n) then Some n else None

-- the tag whose text the bytes are: a UUID in any form is parsed, and only the text above is taken
abbrev pub tag_of_text : List ℕ → Option ℕ
tag_of_text s = option_and_then (λ u. if_spelled s (from_be_bytes w128 u)) (parsed s)

-- whether it is a tag's text
abbrev pub is_tag : List ℕ → Bool
is_tag s = is_some (tag_of_text s)

-- the tag of a seed and a counter
abbrev pub tag_number : ℕ → ℕ → ℕ
tag_number seed counter = seed * 2 ^ 64 + counter

-- its text, which is empty where the seed or the counter has no 64 bits
abbrev pub tag : ℕ → ℕ → List ℕ
tag seed counter = if nat_lt seed (2 ^ 64) && nat_lt counter (2 ^ 64) then tag_text (tag_number seed counter) else []
