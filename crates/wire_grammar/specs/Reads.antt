-- Reading a whole byte list: the value at its front, a front of one, or the first byte at which no value can go on.
use Rattle.std.specs.Prelude.{ℕ, zero, suc, ℤ, pos, negsuc, ◌+◌, ◌-◌, ◌*◌, List, [], ◌∷◌, ◌++◌, length, take, drop, Bool, true, false, nat_le, nat_lt, ◌==◌, ◌&&◌, if◌then◌else◌, Option, Some, None}
use Rattle.wire_values.specs.declared.value.Value.{Value}
use Rattle.wire_values.specs.declared.value.Value.TheVariants.{Status, Error, Integer, Bulk, NullBulk, Array, NullArray}
use Rattle.wire_grammar.specs.declared.kind.NumberKind.{NumberKind}
use Rattle.wire_grammar.specs.declared.kind.NumberKind.TheVariants.{Whole, Length, Count}
use Rattle.wire_grammar.specs.declared.kind.WireKind.{WireKind}
use Rattle.wire_grammar.specs.declared.kind.WireKind.TheVariants.{BadKind, BadInteger, NoCrLf, TooLong, TooDeep}
use Rattle.wire_grammar.specs.Limits.{text_limit, depth_limit, value_limit, limit_of}

-- a value with the place and the bytes after it; nothing wrong so far; or what is wrong, and where
pub data Reading : Type 0 where
  Got : Value → ℕ → List ℕ → Reading
  Front : Reading
  Wrong : WireKind → ℕ → Reading

-- what is done with what was read, at the place and with the bytes after it
abbrev pub Next : Type 0 → Type 0
Next A = A → ℕ → List ℕ → Reading

-- this byte, or else this is wrong
abbrev pub byte_at : ℕ → WireKind → (ℕ → List ℕ → Reading) → ℕ → List ℕ → Reading
byte_at x kind k p [] = Front
byte_at x kind k p (c ∷ cs) = if c == x then k (p + 1) cs else Wrong kind p

-- a line feed must stand here
abbrev pub feed_at : {A : Type 0} → A → Next A → ℕ → List ℕ → Reading
feed_at a k = byte_at 10 NoCrLf (k a)

-- a carriage return and a line feed must stand here
abbrev pub return_at : {A : Type 0} → A → Next A → ℕ → List ℕ → Reading
return_at a k = byte_at 13 NoCrLf (feed_at a k)

-- the rest of a text; a line feed has no carriage return before it
abbrev pub wire_text_at : List ℕ → Next (List ℕ) → ℕ → List ℕ → Reading
wire_text_at text k p [] = Front
wire_text_at text k p (c ∷ cs) =
    if c == 13 then feed_at text k (p + 1) cs
    else if c == 10 then Wrong NoCrLf p
    else if nat_lt (length text) text_limit then wire_text_at (text ++ c ∷ []) k (p + 1) cs
    else Wrong TooLong p

abbrev pub is_digit : ℕ → Bool
is_digit c = nat_le 48 c && nat_le c 57

-- the integer that n stands for; behind a minus sign that is -(n + 1)
abbrev pub signed : Bool → ℕ → ℤ
signed false n = pos n
signed true n = negsuc n

-- what it stands for with one digit more
abbrev pub grown : Bool → ℕ → ℕ → ℕ
grown false n d = n * 10 + d
grown true n d = n * 10 + 9 + d

-- what a digit too many is: it passes the limit of a length or a count, or is no integer of that place
abbrev pub over_of : NumberKind → Bool → WireKind
over_of Length false = TooLong
over_of Count false = TooLong
over_of w negative = BadInteger

-- the digits after the number n, and the end of the line
abbrev pub digits_at : NumberKind → Bool → ℕ → Next ℤ → ℕ → List ℕ → Reading
digits_at w negative n k p [] = Front
digits_at w negative n k p (c ∷ cs) =
    if c == 13 then feed_at (signed negative n) k (p + 1) cs
    else if is_digit c then
    (if nat_le (grown negative n (c - 48)) (limit_of w negative) then digits_at w negative (grown negative n (c - 48)) k (p + 1) cs else Wrong (over_of w negative) p)
    else Wrong BadInteger p

-- the end of the line after a 0
abbrev pub zero_at : Next ℤ → ℕ → List ℕ → Reading
zero_at k = byte_at 13 BadInteger (feed_at (pos 0) k)

-- a digit that a number below 0 of this kind may begin with
abbrev pub begins_below : NumberKind → ℕ → Bool
begins_below w c = (nat_le 49 c && nat_le c 57) && nat_le (c - 49) (limit_of w true)

-- the first digit after a minus sign, which is no 0
abbrev pub minus_at : NumberKind → Next ℤ → ℕ → List ℕ → Reading
minus_at w k p [] = Front
minus_at w k p (c ∷ cs) =
    if begins_below w c then digits_at w true (c - 49) k (p + 1) cs else Wrong BadInteger p

-- an integer in its one spelling, and the end of its line
abbrev pub number_at : NumberKind → Next ℤ → ℕ → List ℕ → Reading
number_at w k p [] = Front
number_at w k p (c ∷ cs) =
    if c == 48 then zero_at k (p + 1) cs
    else if is_digit c then digits_at w false (c - 48) k (p + 1) cs
    else if c == 45 then minus_at w k (p + 1) cs
    else Wrong BadInteger p

-- n bytes more, and the end of the line
abbrev pub content_at : ℕ → List ℕ → Next (List ℕ) → ℕ → List ℕ → Reading
content_at zero content k p cs = return_at content k p cs
content_at (suc n) content k p [] = Front
content_at (suc n) content k p (c ∷ cs) = content_at n (content ++ c ∷ []) k (p + 1) cs

-- n values more
abbrev pub values_at : (Next Value → ℕ → List ℕ → Reading) → ℕ → List Value → Next (List Value) → ℕ → List ℕ → Reading
values_at one zero vs k p cs = k vs p cs
values_at one (suc n) vs k p cs = one (λ v. values_at one n (vs ++ v ∷ []) k) p cs

-- what follows the number behind a colon
abbrev pub integer_for : Next Value → Next ℤ
integer_for k z = k (Integer z)

-- what follows the length of a bulk string
abbrev pub bulk_for : Next Value → Next ℤ
bulk_for k (pos n) = content_at n [] (λ content. k (Bulk content))
bulk_for k (negsuc n) = k NullBulk

-- what follows the count of an array's items
abbrev pub array_for : (Next Value → ℕ → List ℕ → Reading) → Next Value → Next ℤ
array_for one k (pos n) = values_at one n [] (λ vs. k (Array vs))
array_for one k (negsuc n) = k NullArray

-- a value, where this follows a star; no value begins with another byte
abbrev pub head_at : (Next Value → ℕ → List ℕ → Reading) → Next Value → ℕ → List ℕ → Reading
head_at array k p [] = Front
head_at array k p (c ∷ cs) =
    if c == 43 then wire_text_at [] (λ text. k (Status text)) (p + 1) cs
    else if c == 45 then wire_text_at [] (λ text. k (Error text)) (p + 1) cs
    else if c == 58 then number_at Whole (integer_for k) (p + 1) cs
    else if c == 36 then number_at Length (bulk_for k) (p + 1) cs
    else if c == 42 then array k p cs
    else Wrong BadKind p

-- a value, with this many arrays inside each other at most
abbrev pub wire_value_at : ℕ → Next Value → ℕ → List ℕ → Reading
wire_value_at zero = head_at (λ k p cs. Wrong TooDeep p)
wire_value_at (suc d) = head_at (λ k p cs. number_at Count (array_for (wire_value_at d) k) (p + 1) cs)

-- the first value of a stream from a place on, its limit of bytes left aside
abbrev pub read_on : ℕ → List ℕ → Reading
read_on = wire_value_at depth_limit Got

-- what a value's first 8,388,608 bytes say: where they all can go on and don't end it, it is too long
abbrev pub limited : ℕ → List ℕ → Reading → Reading
limited p b (Got v q rest) = Got v q (rest ++ drop value_limit b)
limited p b Front = if nat_lt (length b) value_limit then Front else Wrong TooLong (p + value_limit)
limited p b (Wrong kind q) = Wrong kind q

-- the first value of a stream from a place on
abbrev pub read : ℕ → List ℕ → Reading
read p b = limited p b (read_on p (take value_limit b))

abbrev pub fault_of : Reading → Option (WireKind × ℕ)
fault_of (Got v p cs) = None
fault_of Front = None
fault_of (Wrong kind p) = Some (kind, p)

-- what is wrong with a stream that begins at a place, and where; None where nothing is
abbrev pub wire_fault : ℕ → List ℕ → Option (WireKind × ℕ)
wire_fault p b = fault_of (read p b)
