-- What was read of a line. Serves the proofs of code.
use Rattle.std.specs.Prelude.{◌≡◌, ℕ, Bool, nat_le, List, [], ◌∷◌, ◌++◌, map, decimal, Some}
use Rattle.std.specs.List.{list_all}
use Rattle.wire_values.specs.declared.value.Value.{Value}
use Rattle.line_text.specs.Forms.{commas, value_form}
use Rattle.line_text.specs.Numbers.{moment_in}
use Rattle.history_records.specs.Recordable.{depth, is_typed}
use Rattle.history_records.specs.declared.row.Row.{Row}
use Rattle.record_model.specs.Said.{IsMomentOf, IsWithinForm, line_with}
use Rattle.history_records.specs.Recordable.{IsRow}
use Rattle.record_reading.specs.declared.rest.Rest.{Rest}

-- this text was read
abbrev pub HasRead : List ℕ → Rest → Rest → Type 0
HasRead text old new = old.bytes.now ≡ text ++ new.bytes.now

-- the text of this moment was read
abbrev pub HasReadMoment : ℕ → Rest → Rest → Type 0
HasReadMoment at old new = (m : List ℕ) × (moment_in m ≡ Some at) × HasRead m old new

-- the moment and the connection of a call were read, with the space after each
abbrev pub HasReadHead : ℕ → ℕ → Rest → Rest → Type 0
HasReadHead at c old new = (m : List ℕ) × (moment_in m ≡ Some at) × HasRead (m ++ 32 ∷ (decimal c ++ 32 ∷ [])) old new

-- the rest of a line that begins with this text was read: it says the row
pub record HasReadRow (front : List ℕ) (old new : Rest) (row : Row) : Type 0 where
  pub moment : List ℕ
  pub spelled : front ++ old.bytes.now ≡ line_with moment row ++ new.bytes.now
  pub tells : IsMomentOf moment row
  pub typed : IsRow row
  pub within : IsWithinForm row

-- the items of an array, and the bracket after them
abbrev pub items_text : List Value → List ℕ
items_text items = commas (map value_form items) ++ 93 ∷ []

-- each value is of its types' bits
abbrev pub are_typed : List Value → Bool
are_typed values = list_all is_typed values

-- no more arrays stand in one another in any of the values
abbrev pub are_at_most : ℕ → List Value → Bool
are_at_most d values = list_all (λ v. nat_le (depth v) d) values

-- what stands before the next item, after these
abbrev pub gap_after : List Value → List ℕ
gap_after [] = []
gap_after (v ∷ vs) = 44 ∷ 32 ∷ []
