-- What one byte does to the open arrays and the piece at hand. This serves the decoder alone.
use Rattle.std.specs.Prelude.{ℕ, ℤ, pos, negsuc, ◌-◌, ◌≡◌, List, [], ◌∷◌, ◌++◌, length, Bool, true, false, nat_le, nat_lt, ◌==◌, if◌then◌else◌, Option, Some, None, Result, Ok, Err}
use Rattle.wire_values.specs.declared.value.Value.{Value}
use Rattle.wire_values.specs.declared.value.Value.TheVariants.{Status as StatusValue, Error as ErrorValue, Integer, Bulk, NullBulk, Array, NullArray}
use Rattle.wire_grammar.specs.declared.kind.NumberKind.{NumberKind}
use Rattle.wire_grammar.specs.declared.kind.NumberKind.TheVariants.{Whole, Length, Count}
use Rattle.wire_grammar.specs.declared.kind.TextKind.{TextKind}
use Rattle.wire_grammar.specs.declared.kind.TextKind.TheVariants.{Status, Error}
use Rattle.wire_grammar.specs.declared.kind.WireKind.{WireKind}
use Rattle.wire_grammar.specs.declared.kind.WireKind.TheVariants.{BadKind, BadInteger, NoCrLf, TooLong, TooDeep}
use Rattle.wire_grammar.specs.Limits.{text_limit, depth_limit, limit_of}
use Rattle.wire_grammar.specs.Reads.{is_digit, signed, grown, over_of, begins_below}
use Rattle.resp_wire.specs.declared.state.Core.{Core}
use Rattle.resp_wire.specs.declared.state.Open.{Open}
use Rattle.resp_wire.specs.declared.state.Phase.{Phase}
use Rattle.resp_wire.specs.declared.state.Phase.TheVariants.{Content, At}
use Rattle.resp_wire.specs.declared.state.WireSpot.{WireSpot}
use Rattle.resp_wire.specs.declared.state.WireSpot.TheVariants.{Begin, Text, TextFeed, First, Minus, Zero, Digits, Feed, Return, Line}
use Rattle.resp_wire.specs.declared.state.StepFault.{StepFault}
use Rattle.resp_wire.specs.declared.state.StepFault.TheVariants.{Bad, Memory}

-- where the reading of a value stands; the open arrays innermost first
pub record WireState : Type 0 where
  pub phase : Phase
  pub number : ℕ
  pub bytes : List ℕ
  pub opens : List Open

abbrev pub state : Core → WireState
state c = record { phase = c.phase; number = c.number; bytes = c.bytes; opens = c.opens.items }

-- the reading goes on, a value is whole, or the byte is wrong
pub data Stepped : Type 0 where
  On : WireState → Stepped
  Done : Value → Stepped
  Wrong_byte : WireKind → Stepped

abbrev pub at_spot : WireState → WireSpot → WireState
at_spot s f = record { phase = At f; number = s.number; bytes = s.bytes; opens = s.opens }

abbrev pub with_number : WireState → WireSpot → ℕ → WireState
with_number s f n = record { phase = At f; number = n; bytes = s.bytes; opens = s.opens }

abbrev pub with_bytes : WireState → WireSpot → List ℕ → WireState
with_bytes s f b = record { phase = At f; number = s.number; bytes = b; opens = s.opens }

abbrev pub begins : ℕ → List ℕ → List Open → WireState
begins n b os = record { phase = At Begin; number = n; bytes = b; opens = os }

-- a whole value goes into the innermost array, which may be whole then, and a value itself
abbrev pub settle : ℕ → List ℕ → Value → List Open → Stepped
settle n b v [] = Done v
settle n b v (o ∷ os) =
    if nat_lt 0 o.more then On (begins n b (record { more = o.more - 1; items = o.items ++ v ∷ [] } ∷ os))
    else settle n b (Array (o.items ++ v ∷ [])) os

abbrev pub step_star : WireState → Stepped
step_star s = if nat_lt (length s.opens) depth_limit then On (at_spot s (First Count)) else Wrong_byte TooDeep

abbrev pub step_begin : WireState → ℕ → Stepped
step_begin s c =
    if c == 43 then On (with_bytes s (Text Status) [])
    else if c == 45 then On (with_bytes s (Text Error) [])
    else if c == 58 then On (at_spot s (First Whole))
    else if c == 36 then On (at_spot s (First Length))
    else if c == 42 then step_star s
    else Wrong_byte BadKind

abbrev pub step_text : TextKind → WireState → ℕ → Stepped
step_text t s c =
    if c == 13 then On (at_spot s (TextFeed t))
    else if c == 10 then Wrong_byte NoCrLf
    else if nat_lt (length s.bytes) text_limit then On (with_bytes s (Text t) (s.bytes ++ c ∷ []))
    else Wrong_byte TooLong

abbrev pub text_value : TextKind → List ℕ → Value
text_value Status b = StatusValue b
text_value Error b = ErrorValue b

abbrev pub step_text_feed : TextKind → WireState → ℕ → Stepped
step_text_feed t s c = if c == 10 then settle s.number [] (text_value t s.bytes) s.opens else Wrong_byte NoCrLf

abbrev pub step_first : NumberKind → WireState → ℕ → Stepped
step_first w s c =
    if c == 48 then On (with_number s (Zero w) 0)
    else if is_digit c then On (with_number s (Digits w false) (c - 48))
    else if c == 45 then On (at_spot s (Minus w))
    else Wrong_byte BadInteger

abbrev pub step_minus : NumberKind → WireState → ℕ → Stepped
step_minus w s c = if begins_below w c then On (with_number s (Digits w true) (c - 49)) else Wrong_byte BadInteger

abbrev pub step_zero : NumberKind → WireState → ℕ → Stepped
step_zero w s c = if c == 13 then On (with_number s (Feed w false) 0) else Wrong_byte BadInteger

-- one digit more
abbrev pub step_digit : NumberKind → Bool → WireState → ℕ → Stepped
step_digit w negative s d =
    if nat_le (grown negative s.number d) (limit_of w negative) then On (with_number s (Digits w negative) (grown negative s.number d)) else Wrong_byte (over_of w negative)

abbrev pub step_digits : NumberKind → Bool → WireState → ℕ → Stepped
step_digits w negative s c =
    if c == 13 then On (at_spot s (Feed w negative))
    else if is_digit c then step_digit w negative s (c - 48)
    else Wrong_byte BadInteger

-- what a whole number does
abbrev pub headed : NumberKind → ℤ → WireState → Stepped
headed Whole z s = settle s.number s.bytes (Integer z) s.opens
headed Length (pos n) s = On (record { phase = (if n == 0 then At Return else Content); number = n - 1; bytes = []; opens = s.opens })
headed Length (negsuc n) s = settle s.number s.bytes NullBulk s.opens
headed Count (pos n) s =
    if n == 0 then settle s.number s.bytes (Array []) s.opens
    else On (begins s.number s.bytes (record { more = n - 1; items = [] } ∷ s.opens))
headed Count (negsuc n) s = settle s.number s.bytes NullArray s.opens

abbrev pub step_feed : NumberKind → Bool → WireState → ℕ → Stepped
step_feed w negative s c = if c == 10 then headed w (signed negative s.number) s else Wrong_byte NoCrLf

abbrev pub step_return : WireState → ℕ → Stepped
step_return s c = if c == 13 then On (at_spot s Line) else Wrong_byte NoCrLf

abbrev pub step_line : WireState → ℕ → Stepped
step_line s c = if c == 10 then settle s.number [] (Bulk s.bytes) s.opens else Wrong_byte NoCrLf

abbrev pub step : WireSpot → WireState → ℕ → Stepped
step Begin = step_begin
step (Text t) = step_text t
step (TextFeed t) = step_text_feed t
step (First w) = step_first w
step (Minus w) = step_minus w
step (Zero w) = step_zero w
step (Digits w negative) = step_digits w negative
step (Feed w negative) = step_feed w negative
step Return = step_return
step Line = step_line

-- the code did so, unless memory ran out; after a whole value a new one begins
abbrev pub StepIs : Stepped → WireState → Result (Option Value) StepFault → Type 0
StepIs p new (Ok None) = p ≡ On new
StepIs p new (Ok (Some v)) = (p ≡ Done v) × (new.phase ≡ At Begin) × (new.opens ≡ [])
StepIs p new (Err (Bad k)) = p ≡ Wrong_byte k
StepIs p new (Err Memory) = Unit {0}

-- the code did so, and its answer is never a want of memory
abbrev pub StepTells : Stepped → WireState → Result (Option Value) StepFault → Type 0
StepTells p new r = StepIs p new r × (r ≡ Err Memory → ⊥)
