-- A word as a number, a moment or a tag. Each has one spelling; that of an integer is the one of the wire.
use Rattle.std.specs.Prelude.{ℕ, ℤ, pos, neg_ℤ, Bool, false, List, [], ◌∷◌, Option, Some, None, if◌then◌else◌, ◌==◌, ◌^◌, ◌-◌, ◌&&◌, ◌||◌, nat_eq, nat_le, nat_lt, length, drop, min}
use Rattle.std.specs.Char.{is_ascii_digit}
use Rattle.std.specs.List.{list_all, list_any, before_first, after_first}
use Rattle.std.specs.Str.Parse.{digits_value}
use Rattle.store_model.specs.Limits.{moment_limit}

-- whether it is a decimal number as it is written: digits, and no zero before others
abbrev pub is_number : List ℕ → Bool
is_number [] = false
is_number (d ∷ ds) = list_all is_ascii_digit (d ∷ ds) && (nat_eq (length ds) 0 || nat_lt 48 d)

-- the number that a word spells, if it lies within these bounds
abbrev pub number_in : ℕ → ℕ → List ℕ → Option ℕ
number_in low high word =
    if is_number word && nat_le low (digits_value 10 word) && nat_le (digits_value 10 word) high
    then Some (digits_value 10 word) else None

-- the moment that a word spells; all from 2^40 on count as 2^40, which no clock shows
abbrev pub moment_in : List ℕ → Option ℕ
moment_in word = if is_number word then Some (min (digits_value 10 word) moment_limit) else None

-- both, where both are there
abbrev pub both_parts : Option ℕ → Option ℕ → Option (ℕ × ℕ)
both_parts (Some m) (Some n) = Some (m, n)
both_parts m n = None

-- a seed or counter of 64 bits
abbrev pub part_in : List ℕ → Option ℕ
part_in word = number_in 0 (2 ^ 64 - 1) word

-- the seed and counter that a tag's short spelling has: two numbers with a colon between
abbrev pub tag_in : List ℕ → Option (ℕ × ℕ)
tag_in word =
    if list_any (λ b. b == 58) word
    then both_parts (part_in (before_first (λ b. b == 58) word)) (part_in (after_first (λ b. b == 58) word)) else None
