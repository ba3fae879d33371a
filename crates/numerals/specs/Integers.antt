-- Integers of 64 bits in decimal, with one spelling: no plus sign, no leading zero, no -0.
use Rattle.std.specs.Prelude.{ℕ, zero, suc, ◌+◌, ◌-◌, ◌*◌, ◌^◌, ◌&&◌, List, [], ◌∷◌, nat_eq, nat_le, nat_lt, Option, None, Some, ℤ, pos, negsuc, if◌then◌else◌}

-- the number that goes on from n by these digits; none where a byte is no digit, and from 2 ^ 64 on
abbrev pub digits_onto : ℕ → List ℕ → Option ℕ
digits_onto n [] = Some n
digits_onto n (b ∷ bs) =
    if nat_le 48 b && nat_le b 57
    then (if nat_lt (n * 10 + (b - 48)) (2 ^ 64) then digits_onto (n * 10 + (b - 48)) bs else None)
    else None

-- the number that digits without a leading zero spell
abbrev pub magnitude_of : List ℕ → Option ℕ
magnitude_of [] = None
magnitude_of (b ∷ []) = digits_onto 0 (b ∷ [])
magnitude_of (b ∷ c ∷ bs) = if nat_eq b 48 then None else digits_onto 0 (b ∷ c ∷ bs)

-- an integer without a sign, below 2 ^ 63
abbrev pub plain_integer : Option ℕ → Option ℤ
plain_integer None = None
plain_integer (Some n) = if nat_lt n (2 ^ 63) then Some (pos n) else None

-- an integer behind a minus sign, from - 2 ^ 63; there is no -0
abbrev pub negative_integer : Option ℕ → Option ℤ
negative_integer None = None
negative_integer (Some zero) = None
negative_integer (Some (suc n)) = if nat_lt n (2 ^ 63) then Some (negsuc n) else None

-- the integer of 64 bits that a word spells
abbrev pub integer_of : List ℕ → Option ℤ
integer_of [] = None
integer_of (b ∷ bs) = if nat_eq b 45 then negative_integer (magnitude_of bs) else plain_integer (magnitude_of (b ∷ bs))

-- an integer from 0
abbrev pub from_zero : Option ℤ → Option ℕ
from_zero None = None
from_zero (Some (pos n)) = Some n
from_zero (Some (negsuc n)) = None

-- the integer from 0 that a word spells
abbrev pub natural_of : List ℕ → Option ℕ
natural_of w = from_zero (integer_of w)
