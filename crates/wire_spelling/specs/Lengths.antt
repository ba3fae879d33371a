-- How long the spelling of a value is, where it has one. This serves `fits` alone.
use Rattle.std.specs.Prelude.{ℕ, zero, suc, ℤ, pos, negsuc, ◌+◌, ◌^◌, nat_lt, List, [], ◌∷◌, length, decimal, nat_le, if◌then◌else◌, Option, Some, None, Bool, false}
use Rattle.std.specs.Fmt.{signed_decimal}
use Rattle.std.specs.List.{list_any}
use Rattle.wire_values.specs.declared.value.Value.{Value}
use Rattle.wire_values.specs.declared.value.Value.TheOpen.{Value-F}
use Rattle.wire_values.specs.declared.value.Value.TheFolds.{fold-Value}
use Rattle.wire_grammar.specs.declared.kind.NumberKind.TheVariants.{Length, Count}
use Rattle.wire_grammar.specs.Limits.{text_limit, value_limit, limit_of, is_end}

-- a sum of two lengths within the limit of a value
abbrev pub joined : Option ℕ → Option ℕ → Option ℕ
joined (Some n) (Some m) = if nat_le (n + m) value_limit then Some (n + m) else None
joined n m = None

-- the length of a text with its first byte and the end of its line
abbrev pub text_length : List ℕ → Option ℕ
text_length t = if list_any is_end t then None else (if nat_le (length t) text_limit then Some (length t + 3) else None)

-- an integer of 64 bits
abbrev pub is_word : ℤ → Bool
is_word (pos n) = nat_lt n (2 ^ 63)
is_word (negsuc n) = nat_lt n (2 ^ 63)

-- the length of an integer with its first byte and the end of its line
abbrev pub integer_length : ℤ → Option ℕ
integer_length z = if is_word z then Some (length (signed_decimal z) + 3) else None

-- the length of a bulk string of so many bytes
abbrev pub bulk_length : ℕ → Option ℕ
bulk_length n = if nat_le n (limit_of Length false) then Some (length (decimal n) + n + 5) else None

-- the length of items after so many bytes
abbrev pub items_length : ℕ → Option ℕ → List (ℕ → Option ℕ) → Option ℕ
items_length d n [] = n
items_length d n (f ∷ fs) = items_length d (joined n (f d)) fs

-- one value with so many arrays inside each other at most, with the lengths of its items in their place
abbrev pub length_step : Value-F (ℕ → Option ℕ) → ℕ → Option ℕ
length_step (Value-F.Status t) d = text_length t
length_step (Value-F.Error t) d = text_length t
length_step (Value-F.Integer z) d = integer_length z
length_step (Value-F.Bulk b) d = bulk_length (length b)
length_step Value-F.NullBulk d = Some 5
length_step (Value-F.Array fs) zero = None
length_step (Value-F.Array fs) (suc d) = if nat_le (length fs) (limit_of Count false) then items_length d (Some (length (decimal (length fs)) + 3)) fs else None
length_step Value-F.NullArray zero = None
length_step Value-F.NullArray (suc d) = Some 5

-- the length of a value's spelling, where it has one
abbrev pub spelled_length : Value → ℕ → Option ℕ
spelled_length = fold-Value (ℕ → Option ℕ) length_step
