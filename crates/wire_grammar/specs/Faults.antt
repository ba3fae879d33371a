-- Where a fault stands, in the words of spellings.
use Rattle.std.specs.Prelude.{ℕ, zero, suc, pos, ◌+◌, ◌≤◌, ◌≡◌, ◌==◌, ◌&&◌, Bool, false, not, if◌then◌else◌, List, [], ◌∷◌, ◌++◌, length, take, Some, None, ◌⊎◌}
use Rattle.std.specs.List.{list_any}
use Rattle.wire_values.specs.declared.value.Value.{Value}
use Rattle.wire_grammar.specs.declared.kind.WireKind.{WireKind}
use Rattle.wire_grammar.specs.declared.kind.WireKind.TheVariants.{BadInteger, BadKind, NoCrLf, TooDeep, TooLong}
use Rattle.wire_grammar.specs.declared.kind.NumberKind.{NumberKind}
use Rattle.wire_grammar.specs.declared.kind.NumberKind.TheVariants.{Count, Length, Whole}
use Rattle.wire_grammar.specs.Limits.{depth_limit, value_limit}
use Rattle.wire_grammar.specs.Spells.{AreSpelled, IsNumber, Spells, SpellsWithin, GoesOn, BeginsNone, IsFront}
use Rattle.wire_grammar.specs.Reads.{is_digit, over_of, wire_fault}

-- whether these bytes have this one among them
abbrev pub has : ℕ → List ℕ → Bool
has c b = list_any (λ x. x == c) b

-- whether a number begins so that a digit more may pass its limit: with a digit, and not with 0
abbrev pub begins_digits : List ℕ → Bool
begins_digits [] = false
begins_digits (c ∷ cs) = is_digit c && not (c == 48)

-- what is wrong where a value begins
abbrev pub begin_kind : ℕ → WireKind
begin_kind byte = if byte == 42 then TooDeep else BadKind

-- what is wrong in a text, after these bytes of it
abbrev pub text_kind : List ℕ → ℕ → WireKind
text_kind b byte = if has 13 b then NoCrLf else if byte == 10 then NoCrLf else TooLong

-- what is wrong in a number, or after its carriage return
abbrev pub number_kind : NumberKind → List ℕ → ℕ → WireKind
number_kind w b byte = if has 13 b then NoCrLf else if is_digit byte && begins_digits b then over_of w false else BadInteger

-- what is wrong after these bytes of a value that is no array
pub data IsWrongPlain (b : List ℕ) (byte : ℕ) (kind : WireKind) : Type 0 where
  at_begin : b ≡ [] → kind ≡ begin_kind byte → IsWrongPlain b byte kind
  in_status : (text : List ℕ) → b ≡ 43 ∷ text → kind ≡ text_kind text byte → IsWrongPlain b byte kind
  in_error : (text : List ℕ) → b ≡ 45 ∷ text → kind ≡ text_kind text byte → IsWrongPlain b byte kind
  in_integer : (number : List ℕ) → b ≡ 58 ∷ number → kind ≡ number_kind Whole number byte → IsWrongPlain b byte kind
  in_bulk : (rest : List ℕ) → b ≡ 36 ∷ rest → kind ≡ number_kind Length rest byte → IsWrongPlain b byte kind

-- what is wrong in the count of an array
abbrev pub IsWrongCount : List ℕ → ℕ → WireKind → Type 0
IsWrongCount b byte kind = (has 10 b ≡ false) × (kind ≡ number_kind Count b byte)

-- after some whole items, and not all, the next one isn't whole and has something wrong in it
pub record IsWrongItem (one : Value → List ℕ → Type 0) (wrong : List ℕ → ℕ → WireKind → Type 0) (n : ℕ) (b : List ℕ) (byte : ℕ) (kind : WireKind) : Type 0 where
  pub items : List Value
  pub before : List ℕ
  pub front : List ℕ
  pub cut : b ≡ before ++ front
  pub spelled : AreSpelled one items before
  pub more : suc (length items) ≤ n
  pub none : (v : Value) (whole more : List ℕ) → front ≡ whole ++ more → one v whole → ⊥
  pub here : wrong front byte kind

-- after the count of an array there is something wrong in one of its items
abbrev pub IsWrongInside : (Value → List ℕ → Type 0) → (List ℕ → ℕ → WireKind → Type 0) → List ℕ → ℕ → WireKind → Type 0
IsWrongInside one wrong b byte kind = (n : ℕ) × (line : List ℕ) × (rest : List ℕ) × (b ≡ line ++ rest) × IsNumber Count (pos n) line × IsWrongItem one wrong n rest byte kind

-- what is wrong after the first byte of an array
abbrev pub IsWrongArray : (Value → List ℕ → Type 0) → (List ℕ → ℕ → WireKind → Type 0) → List ℕ → ℕ → WireKind → Type 0
IsWrongArray one wrong b byte kind = IsWrongCount b byte kind ⊎ IsWrongInside one wrong b byte kind

-- what is wrong with this byte after these bytes of a value, with this many arrays inside each other at most
abbrev pub IsWrongWithin : ℕ → List ℕ → ℕ → WireKind → Type 0
IsWrongWithin zero b byte kind = IsWrongPlain b byte kind
IsWrongWithin (suc d) b byte kind =
    IsWrongPlain b byte kind ⊎ ((rest : List ℕ) × (b ≡ 42 ∷ rest) × IsWrongArray (SpellsWithin d) (IsWrongWithin d) rest byte kind)

-- what is before the faulty byte is a front, with it nothing goes on, and where it stands tells the kind
pub record IsStuckAt (p : ℕ) (b : List ℕ) (kind : WireKind) (q : ℕ) : Type 0 where
  pub front : List ℕ
  pub byte : ℕ
  pub rest : List ℕ
  pub cut : b ≡ front ++ byte ∷ rest
  pub place : q ≡ p + length front
  pub before : IsFront front
  pub is : IsWrongWithin depth_limit front byte kind
  pub stuck : (v : Value) (more : List ℕ) → SpellsWithin depth_limit v (front ++ byte ∷ more) → ⊥

-- as many bytes as a value may have all can go on, and don't end it
pub record IsPastLimit (p : ℕ) (b : List ℕ) (kind : WireKind) (q : ℕ) : Type 0 where
  pub long : value_limit ≤ length b
  pub place : q ≡ p + value_limit
  pub is : kind ≡ TooLong
  pub goes_on : GoesOn (take value_limit b)
  pub none : BeginsNone b

-- a fault is at a byte, or past the limit of a value
abbrev pub IsWrongAt : ℕ → List ℕ → WireKind → ℕ → Type 0
IsWrongAt p b kind q = IsStuckAt p b kind q ⊎ IsPastLimit p b kind q

-- some value begins the bytes
abbrev pub BeginsWithOne : List ℕ → Type 0
BeginsWithOne b = (v : Value) × (front : List ℕ) × (rest : List ℕ) × (b ≡ front ++ rest) × Spells v front

abbrev pub HasFault : ℕ → List ℕ → Type 0
HasFault p b = (kind : WireKind) × (q : ℕ) × (wire_fault p b ≡ Some (kind, q))

-- one of three holds, and no fault where one of the others does
pub record OneHolds (p : ℕ) (b : List ℕ) : Type 0 where
  pub some : BeginsWithOne b ⊎ (IsFront b ⊎ HasFault p b)
  pub begun : BeginsWithOne b → wire_fault p b ≡ None
  pub front : IsFront b → wire_fault p b ≡ None
