-- A text as lines.
use Rattle.std.specs.Prelude.{ℕ, ◌+◌, List, [], ◌∷◌, Option, Some, None, if◌then◌else◌, ◌==◌, nat_lt, length, take, count_by}
use Rattle.std.specs.List.{slice_split}
use Rattle.std.specs.Str.{is_utf8}
use Rattle.line_text.specs.declared.reason.Reason.{Reason}
use Rattle.line_text.specs.declared.reason.Reason.TheVariants.{Long, Text}

-- the parts between line feeds, without an empty last one
abbrev pub whole_lines : List (List ℕ) → List (List ℕ)
whole_lines [] = []
whole_lines ([] ∷ []) = []
whole_lines (l ∷ ls) = l ∷ whole_lines ls

-- the lines of a text, of which the last may lack its line feed
abbrev pub lines_of : List ℕ → List (List ℕ)
lines_of bytes = whole_lines (slice_split (λ b. b == 10) bytes)

-- lines with their numbers, the first of them n
abbrev pub numbered : ℕ → List (List ℕ) → List (ℕ × List ℕ)
numbered n [] = []
numbered n (l ∷ ls) = (n, l) ∷ numbered (n + 1) ls

-- the number of the line in which the byte at this index stands; a line feed stands in the line that it ends
abbrev pub line_number_at : List ℕ → ℕ → ℕ
line_number_at bytes index = count_by (λ b. b == 10) (take index bytes) + 1

-- why a line is no text, where it is none: it is above the limit, or no UTF-8
abbrev pub text_fault : ℕ → List ℕ → Option Reason
text_fault limit line = if nat_lt limit (length line) then Some Long else if is_utf8 line then None else Some Text
