-- How RESP2 values are written.
use Rattle.std.specs.Prelude.{ℕ, zero, suc, ℤ, pos, negsuc, ◌≤◌, ◌≡◌, List, [], ◌∷◌, ◌++◌, length, false, Some, ◌⊎◌}
use Rattle.std.specs.List.{list_any}
use Rattle.numerals.specs.Integers.{integer_of}
use Rattle.wire_values.specs.declared.value.Value.{Value}
use Rattle.wire_values.specs.declared.value.Value.TheVariants.{Status, Error, Integer, Bulk, NullBulk, Array, NullArray}
use Rattle.wire_grammar.specs.declared.kind.NumberKind.{NumberKind}
use Rattle.wire_grammar.specs.declared.kind.NumberKind.TheVariants.{Whole, Length, Count}
use Rattle.wire_grammar.specs.Limits.{text_limit, depth_limit, value_limit, limit_of, is_end}

-- the end of a line
abbrev pub crlf : List ℕ
crlf = 13 ∷ 10 ∷ []

-- an integer that this kind of number may be
abbrev pub IsWithin : NumberKind → ℤ → Type 0
IsWithin Whole z = Unit {0}
IsWithin w (pos n) = n ≤ limit_of w false
IsWithin w (negsuc n) = n ≡ 0

-- an integer in its one spelling, and the end of its line
abbrev pub IsNumber : NumberKind → ℤ → List ℕ → Type 0
IsNumber w z b = (digits : List ℕ) × (integer_of digits ≡ Some z) × IsWithin w z × (b ≡ digits ++ crlf)

-- a text without the end of a line in it, and the end of its line
abbrev pub IsText : List ℕ → List ℕ → Type 0
IsText text b = (length text ≤ text_limit) × (list_any is_end text ≡ false) × (b ≡ text ++ crlf)

-- a simple string
abbrev pub IsStatus : Value → List ℕ → Type 0
IsStatus v b = (text : List ℕ) × (line : List ℕ) × (v ≡ Status text) × IsText text line × (b ≡ 43 ∷ line)

-- an error
abbrev pub IsError : Value → List ℕ → Type 0
IsError v b = (text : List ℕ) × (line : List ℕ) × (v ≡ Error text) × IsText text line × (b ≡ 45 ∷ line)

-- an integer
abbrev pub IsInteger : Value → List ℕ → Type 0
IsInteger v b = (z : ℤ) × (line : List ℕ) × (v ≡ Integer z) × IsNumber Whole z line × (b ≡ 58 ∷ line)

-- a bulk string: the length of its content, the content, and the end of a line
abbrev pub IsBulk : Value → List ℕ → Type 0
IsBulk v b = (content : List ℕ) × (line : List ℕ) × (v ≡ Bulk content) × IsNumber Length (pos (length content)) line × (b ≡ 36 ∷ (line ++ (content ++ crlf)))

-- the null bulk string
abbrev pub IsNullBulk : Value → List ℕ → Type 0
IsNullBulk v b = (line : List ℕ) × (v ≡ NullBulk) × IsNumber Length (negsuc 0) line × (b ≡ 36 ∷ line)

-- the null array
abbrev pub IsNullArray : Value → List ℕ → Type 0
IsNullArray v b = (line : List ℕ) × (v ≡ NullArray) × IsNumber Count (negsuc 0) line × (b ≡ 42 ∷ line)

-- these values, one after the other
abbrev pub AreSpelled : (Value → List ℕ → Type 0) → List Value → List ℕ → Type 0
AreSpelled one [] b = b ≡ []
AreSpelled one (v ∷ vs) b = (front : List ℕ) × (rest : List ℕ) × (b ≡ front ++ rest) × one v front × AreSpelled one vs rest

-- an array: the count of its items, and the items
abbrev pub IsArray : (Value → List ℕ → Type 0) → Value → List ℕ → Type 0
IsArray one v b = (vs : List Value) × (line : List ℕ) × (body : List ℕ) × (v ≡ Array vs) × IsNumber Count (pos (length vs)) line × AreSpelled one vs body × (b ≡ 42 ∷ (line ++ body))

-- a value that is no array
pub data IsPlain (v : Value) (b : List ℕ) : Type 0 where
  as_status : IsStatus v b → IsPlain v b
  as_error : IsError v b → IsPlain v b
  as_integer : IsInteger v b → IsPlain v b
  as_bulk : IsBulk v b → IsPlain v b
  as_null_bulk : IsNullBulk v b → IsPlain v b

-- with this many arrays inside each other at most; a null array counts as one
abbrev pub SpellsWithin : ℕ → Value → List ℕ → Type 0
SpellsWithin zero v b = IsPlain v b
SpellsWithin (suc d) v b = IsPlain v b ⊎ (IsArray (SpellsWithin d) v b ⊎ IsNullArray v b)

-- the value is written as these bytes
abbrev pub Spells : Value → List ℕ → Type 0
Spells v b = SpellsWithin depth_limit v b × (length b ≤ value_limit)

-- a value goes on from these bytes, its limit left aside
abbrev pub GoesOn : List ℕ → Type 0
GoesOn b = (v : Value) × (more : List ℕ) × SpellsWithin depth_limit v (b ++ more)

-- no value is spelled at the front
abbrev pub BeginsNone : List ℕ → Type 0
BeginsNone b = (v : Value) (front rest : List ℕ) → b ≡ front ++ rest → Spells v front → ⊥

-- a front: fewer bytes than a value may have, from which one goes on, and none is whole yet
pub record IsFront (b : List ℕ) : Type 0 where
  pub short : suc (length b) ≤ value_limit
  pub goes_on : GoesOn b
  pub none : BeginsNone b
