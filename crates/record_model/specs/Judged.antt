-- What a whole record is judged to be.
use Rattle.std.specs.Prelude.{◌≡◌, ℕ, ◌+◌, Bool, true, false, nat_lt, bytes_eq, if◌then◌else◌, List, [], ◌∷◌, length, take, Option, None, Some}
use Rattle.line_text.specs.Lines.{lines_of, text_fault}
use Rattle.line_text.specs.declared.reason.Reason.{Reason}
use Rattle.line_text.specs.declared.reason.Reason.TheVariants.{Long, Header, Syntax}
use Rattle.queue_keys.specs.Names.{Bytes}
use Rattle.place_model.specs.Histories.{History}
use Rattle.place_model.specs.declared.heard.Heard.{Heard}
use Rattle.schedule_model.specs.Costs.{total_cost}
use Rattle.schedule_model.specs.Schedules.{max_input}
use Rattle.history_records.specs.Lines.{header}
use Rattle.history_records.specs.declared.row.Row.{Row}
use Rattle.record_model.specs.Said.{Says}
use Rattle.record_model.specs.Steps.{Manner, RowStep, Grown, Crowded, Faulted, RowLeads, first_history}

-- the longest line of a record in bytes
abbrev pub max_row : ℕ
max_row = 8388608

-- ---- a line

-- what a line after the header leads to from a history: what its row leads to, or why it is none
pub data LineLeads (μ : Manner) (h : History Heard) (line : Bytes) : RowStep → Type 0 where
  No_text : (r : Reason) → text_fault max_row line ≡ Some r → LineLeads μ h line (Faulted r)
  No_row : text_fault max_row line ≡ None → ((row : Row) → Says line row → ⊥) → LineLeads μ h line (Faulted Syntax)
  By_row : (row : Row) (step : RowStep) → text_fault max_row line ≡ None → Says line row → RowLeads μ h row step → LineLeads μ h line step

-- what the header leads to
abbrev pub header_fault : Bytes → Option Reason → Option Reason
header_fault line (Some r) = Some r
header_fault line None = if bytes_eq line header then None else Some Header

-- ---- a record

-- what bytes are judged to be: the record of a history, a bad line by its number with the reason, or the numbers of a history that was full and was to grow: its entries and their cost
pub data Judgement : Type 0 where
  Lawful : History Heard → Judgement
  Bad_row : ℕ → Reason → Judgement
  Too_full : ℕ → ℕ → Judgement

-- what is judged where line n leads there, and the lines after it go on from the history that it gave
abbrev pub CarriesOn : (History Heard → Judgement → Type 0) → ℕ → RowStep → Judgement → Type 0
CarriesOn goes n (Grown h) j = goes h j
CarriesOn goes n (Crowded h) j = j ≡ Too_full (length h.entries) (total_cost h.entries)
CarriesOn goes n (Faulted r) j = j ≡ Bad_row n r

-- the last line: where the input goes on past its limit, that line holds the first byte past it
abbrev pub LastLeads : Manner → Bool → History Heard → Bytes → RowStep → Type 0
LastLeads μ true h line step = step ≡ Faulted Long
LastLeads μ false h line step = LineLeads μ h line step

-- no line is left: the history is whole
abbrev pub IsAllRead : History Heard → Judgement → Type 0
IsAllRead h j = j ≡ Lawful h

-- what the lines from line n on are judged to be; the mark tells whether the input goes on past its limit
abbrev pub LinesJudged : Manner → Bool → ℕ → History Heard → List Bytes → Judgement → Type 0
LinesJudged μ cut n h [] j = IsAllRead h j
LinesJudged μ cut n h (l ∷ []) j = (step : RowStep) × LastLeads μ cut h l step × CarriesOn IsAllRead n step j
LinesJudged μ cut n h (l ∷ m ∷ ls) j = (step : RowStep) × LineLeads μ h l step × CarriesOn (λ g k. LinesJudged μ cut (n + 1) g (m ∷ ls) k) n step j

-- the lines after the header, unless that is bad
abbrev pub AfterHeader : Manner → Bool → List Bytes → Option Reason → Judgement → Type 0
AfterHeader μ cut ls (Some r) j = j ≡ Bad_row 1 r
AfterHeader μ cut ls None j = LinesJudged μ cut 2 first_history ls j

-- why the header is bad, where it is the last line and where it isn't
abbrev pub top_fault : Bool → Bytes → List Bytes → Option Reason
top_fault true l [] = Some Long
top_fault false l [] = header_fault l (text_fault max_row l)
top_fault cut l (m ∷ ls) = header_fault l (text_fault max_row l)

-- the first line is the header
abbrev pub HeaderJudged : Manner → Bool → List Bytes → Judgement → Type 0
HeaderJudged μ cut [] j = j ≡ Bad_row 1 Header
HeaderJudged μ cut (l ∷ ls) j = AfterHeader μ cut ls (top_fault cut l ls) j

-- what bytes are judged to be; of more than are lawful no more is read than one byte past the limit
abbrev pub IsJudged : Manner → Bytes → Judgement → Type 0
IsJudged μ bytes j = HeaderJudged μ (nat_lt max_input (length bytes)) (lines_of (take (max_input + 1) bytes)) j
