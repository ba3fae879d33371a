-- What a line of a record says.
use Rattle.std.specs.Prelude.{◌≡◌, ℕ, ◌≤◌, Bool, true, nat_le, List, ◌∷◌, ◌++◌, length, codes, decimal, Some}
use Rattle.std.specs.List.{list_all}
use Rattle.wire_values.specs.declared.value.Value.{Value}
use Rattle.wire_grammar.specs.Fits.{IsWithinLimits}
use Rattle.line_text.specs.Forms.{quoted, words_text}
use Rattle.line_text.specs.Numbers.{moment_in}
use Rattle.queue_keys.specs.Names.{Bytes}
use Rattle.place_model.specs.declared.history.Entry.TheVariants.{Call, Heard as Noted, Stop}
use Rattle.history_records.specs.Lines.{client_line, entry_line, reply_text}
use Rattle.history_records.specs.Recordable.{IsRow, depth}
use Rattle.history_records.specs.declared.row.Row.{Row}
use Rattle.history_records.specs.declared.row.Row.TheVariants.{Client, Event}

-- how many arrays of a reply may stand in one another
abbrev pub max_depth : ℕ
max_depth = 64

-- whether no more arrays stand in one another in values
abbrev pub are_shallow : List Value → Bool
are_shallow values = list_all (λ v. nat_le (depth v) max_depth) values

-- the line of a row; that of a call has this text for its moment
abbrev pub line_with : Bytes → Row → Bytes
line_with m (Client c s) = client_line (c, s)
line_with m (Event (Call c at words reply)) = codes "call " ++ (m ++ 32 ∷ (decimal c ++ 32 ∷ (words_text quoted words ++ (codes "= " ++ reply_text reply))))
line_with m (Event (Noted c note)) = entry_line (Noted c note)
line_with m (Event (Stop c)) = entry_line (Stop c)

-- the text spells the moment of a call; all from 2^40 on count as 2^40
abbrev pub IsMomentOf : Bytes → Row → Type 0
IsMomentOf m (Client c s) = Unit {0}
IsMomentOf m (Event (Call c at words reply)) = moment_in m ≡ Some at
IsMomentOf m (Event (Noted c note)) = Unit {0}
IsMomentOf m (Event (Stop c)) = Unit {0}

-- the words of a call are some, and may be sent as a command; the values of its reply aren't nested too deep
abbrev pub IsWithinForm : Row → Type 0
IsWithinForm (Client c s) = Unit {0}
IsWithinForm (Event (Call c at words reply)) = (1 ≤ length words) × IsWithinLimits words × (are_shallow reply.pushed ≡ true) × (nat_le (depth reply.answer) max_depth ≡ true)
IsWithinForm (Event (Noted c note)) = Unit {0}
IsWithinForm (Event (Stop c)) = Unit {0}

-- the line says the row
pub record Says (line : Bytes) (row : Row) : Type 0 where
  pub moment : Bytes
  pub spelled : line ≡ line_with moment row
  pub tells : IsMomentOf moment row
  pub typed : IsRow row
  pub within : IsWithinForm row
