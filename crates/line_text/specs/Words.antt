-- A line as words.
use Rattle.std.specs.Prelude.{ℕ, zero, suc, Bool, List, [], ◌∷◌, Option, Some, None, ◌==◌, ◌&&◌, nat_le, length}
use Rattle.std.specs.List.{slice_split, list_all, join_with_byte}

-- the words of a line, parted by one space each: two spaces part an empty word
abbrev pub words_of : List ℕ → List (List ℕ)
words_of line = slice_split (λ b. b == 32) line

-- words joined again by the spaces between them, without the first `count`; none where there are no more
abbrev pub joined_after : ℕ → List (List ℕ) → Option (List ℕ)
joined_after zero [] = None
joined_after zero (w ∷ ws) = Some (join_with_byte 32 (w ∷ ws))
joined_after (suc count) [] = None
joined_after (suc count) (w ∷ ws) = joined_after count ws

-- the line after its first `count` words, where it has more
abbrev pub rest_after : ℕ → List ℕ → Option (List ℕ)
rest_after count line = joined_after count (words_of line)

-- a character that is seen, of ASCII
abbrev pub is_visible : ℕ → Bool
is_visible b = nat_le 33 b && nat_le b 126

-- whether it can be a name: not empty, and all of it visible
abbrev pub is_word : List ℕ → Bool
is_word bytes = nat_le 1 (length bytes) && list_all is_visible bytes
