-- How the lines of a schedule lead from desk to desk, and which desk is that of a history that was full.
use Rattle.std.specs.Prelude.{◌≡◌, ℕ, ◌+◌, List, [], ◌∷◌, ◌++◌, length, take}
use Rattle.line_text.specs.Lines.{lines_of}
use Rattle.queue_keys.specs.Names.{Bytes}
use Rattle.schedule_model.specs.Costs.{total_cost}
use Rattle.schedule_model.specs.Desk.{ScheduleReader}
use Rattle.schedule_model.specs.Faults.{Craft}
use Rattle.schedule_model.specs.Schedules.{Determined, Whole, Full, Bad_line, Went, Filled, line_led, max_input}

-- the lines of a schedule after its header, as far as it is read
abbrev pub after_header : List Bytes → List Bytes
after_header [] = []
after_header (h ∷ ls) = ls

abbrev pub lines_read : Bytes → List Bytes
lines_read bytes = after_header (lines_of (take (max_input + 1) bytes))

-- the lines lead from the desk d to the desk e, each to a next desk
abbrev pub LeadTo : Craft → ScheduleReader → List Bytes → ScheduleReader → Type 0
LeadTo κ d [] e = d ≡ e
LeadTo κ d (l ∷ ls) e = (next : ScheduleReader) × (line_led κ d l ≡ Went next) × LeadTo κ next ls e

-- from the desk d on, one of the lines had no room and left the desk e: those before it lead to a desk, and it leads from there to `Filled e`
pub record IsFilled (κ : Craft) (d : ScheduleReader) (ls : List Bytes) (e : ScheduleReader) : Type 0 where
  pub before : List Bytes
  pub line : Bytes
  pub later : List Bytes
  pub lines : ls ≡ before ++ line ∷ later
  pub reached : ScheduleReader
  pub led : LeadTo κ d before reached
  pub filled : line_led κ reached line ≡ Filled e

-- the desk that these lines filled, which has so many entries at this cost
pub record FilledDesk (κ : Craft) (d : ScheduleReader) (ls : List Bytes) (n cost : ℕ) : Type 0 where
  pub desk : ScheduleReader
  pub filled : IsFilled κ d ls desk
  pub entries : length desk.entries ≡ n
  pub costs : total_cost desk.entries ≡ cost

-- the lines that were read of them, up to the one that had no room
abbrev pub lines_until : {κ : Craft} {d e : ScheduleReader} {ls : List Bytes} → IsFilled κ d ls e → List Bytes
lines_until f = f.before ++ f.line ∷ []

-- what is determined is where these lines lead from the desk d: all of them to the desk of a whole history, or one of them to the desk that was full
abbrev pub IsLedBy : Craft → ScheduleReader → List Bytes → Determined → Type 0
IsLedBy κ d ls (Whole e) = LeadTo κ d ls e
IsLedBy κ d ls (Full n cost) = FilledDesk κ d ls n cost
IsLedBy κ d ls (Bad_line n reason) = Unit {0}
