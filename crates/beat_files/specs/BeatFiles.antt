-- What a beat file spells: its entries, or its first bad line.
use Rattle.std.specs.Prelude.{ℕ, ⊤, Bool, true, false, ◌&&◌, ◌==◌, bytes_eq, nat_lt, if◌then◌else◌, List, [], ◌∷◌, codes, length, Option, None, Some, Result, Ok, Err}
use Rattle.std.specs.List.{join_with_byte}
use Rattle.serde_json.specs.Data.{Data}
use Rattle.line_text.specs.Lines.{line_number_at, lines_of, numbered, text_fault}
use Rattle.line_text.specs.Numbers.{number_in}
use Rattle.line_text.specs.Words.{is_word, words_of}
use Rattle.line_text.specs.declared.reason.Reason.{Reason}
use Rattle.line_text.specs.declared.reason.Reason.TheVariants as reason
use Rattle.queue_keys.specs.NameFaults.{name_fault}
use Rattle.queue_keys.specs.Names.{Bytes}
use Rattle.queue_keys.specs.declared.queue_name.NameFault.{NameFault}
use Rattle.queue_keys.specs.declared.queue_name.NameFault.TheVariants as name
use Rattle.schedule_model.specs.Drafts.{arguments_of}
use Rattle.crontabs.specs.FieldTexts.{crontab_in}
use Rattle.crontabs.specs.declared.crontab.Crontab.{Crontab}

-- what an entry sends: its name, the queue, and the task with its arguments
pub record BeatSending : Type 0 where
  pub name : Bytes
  pub queue : Bytes
  pub task : Bytes
  pub args : Data

-- when an entry comes due: so many seconds after it last was, or with each minute that a crontab matches
pub data BeatTiming : Type 0 where
  Interval : ℕ → BeatTiming
  Calendar : Crontab → BeatTiming

-- an entry
pub record BeatLine : Type 0 where
  pub sends : BeatSending
  pub timing : BeatTiming

-- goes on with what was read; the first reason against a line ends its reading
infixl 10 ◌>>=◌
abbrev pub ◌>>=◌ : {A B : Type 0} → Result A Reason → (A → Result B Reason) → Result B Reason
(Ok x) >>= f = f x
(Err e) >>= f = Err e

-- what is there, or else a reason against the line
abbrev pub if_there : {A : Type 0} → Reason → Option A → Result A Reason
if_there r (Some x) = Ok x
if_there r None = Err r

-- what must hold, or else a reason against the line
abbrev pub if_holds : Reason → Bool → Result ⊤ Reason
if_holds r true = Ok tt
if_holds r false = Err r

-- ---- what is sent

-- the reason of a fault of a queue's name
abbrev pub queue_reason : NameFault → Reason
queue_reason name.Empty = reason.Name
queue_reason name.Long = reason.Name
queue_reason (name.Byte place) = reason.Name
queue_reason name.Reserved = reason.Reserved
queue_reason name.Memory = reason.Name

-- a queue's lawful name
abbrev pub if_lawful : Bytes → Option NameFault → Result Bytes Reason
if_lawful q None = Ok q
if_lawful q (Some fault) = Err (queue_reason fault)

abbrev pub queue_in : Bytes → Result Bytes Reason
queue_in q = if_lawful q (name_fault q)

-- three names and a JSON text
unfoldable pub named_task : Bytes → Bytes → Bytes → Bytes → Result BeatSending Reason
named_task n q t j = do
  words ← if_holds reason.Syntax (is_word n && is_word q && is_word t)
  queue ← queue_in q
  args ← if_there reason.Json (arguments_of j)
  Ok (record { name = n; queue = queue; task = t; args = args })

-- three words, and the arguments as the rest of the line
abbrev pub task_words : List Bytes → Result BeatSending Reason
task_words [] = Err reason.Syntax
task_words (n ∷ []) = Err reason.Syntax
task_words (n ∷ q ∷ []) = Err reason.Syntax
task_words (n ∷ q ∷ t ∷ []) = Err reason.Syntax
task_words (n ∷ q ∷ t ∷ j ∷ js) = named_task n q t (join_with_byte 32 (j ∷ js))

-- ---- when

-- an interval of so many seconds
unfoldable pub every_line : Bytes → List Bytes → Result BeatLine Reason
every_line s ws = do
  seconds ← if_there reason.Syntax (number_in 1 4294967295 s)
  sends ← task_words ws
  Ok (record { sends = sends; timing = Interval seconds })

abbrev pub every_words : List Bytes → Result BeatLine Reason
every_words [] = Err reason.Syntax
every_words (s ∷ ws) = every_line s ws

-- a crontab of five fields; that one of them is out of form is the last reason
unfoldable pub cron_line : Bytes → Bytes → Bytes → Bytes → Bytes → List Bytes → Result BeatLine Reason
cron_line minute hour day month weekday ws = do
  words ← if_holds reason.Syntax (is_word minute && is_word hour && is_word day && is_word month && is_word weekday)
  sends ← task_words ws
  crontab ← if_there reason.Cron (crontab_in minute hour day month weekday)
  Ok (record { sends = sends; timing = Calendar crontab })

abbrev pub cron_words : List Bytes → Result BeatLine Reason
cron_words [] = Err reason.Syntax
cron_words (a ∷ []) = Err reason.Syntax
cron_words (a ∷ b ∷ []) = Err reason.Syntax
cron_words (a ∷ b ∷ c ∷ []) = Err reason.Syntax
cron_words (a ∷ b ∷ c ∷ d ∷ []) = Err reason.Syntax
cron_words (a ∷ b ∷ c ∷ d ∷ e ∷ ws) = cron_line a b c d e ws

-- ---- lines

-- the entry that words spell, or the first reason against them
abbrev pub entry_words : List Bytes → Result BeatLine Reason
entry_words [] = Err reason.Syntax
entry_words (w ∷ ws) = if bytes_eq w (codes "every") then every_words ws else if bytes_eq w (codes "cron") then cron_words ws else Err reason.Syntax

-- by what is wrong with a line as a text
abbrev pub text_entry : Bytes → Option Reason → Result BeatLine Reason
text_entry line (Some r) = Err r
text_entry line None = entry_words (words_of line)

-- the entry that a line spells, or the first reason against it
abbrev pub line_entry : Bytes → Result BeatLine Reason
line_entry line = text_entry line (text_fault 65536 line)

-- why a line isn't the header
abbrev pub header_against : Bytes → Option Reason → Option Reason
header_against line (Some r) = Some r
header_against line None = if bytes_eq line (codes "celery-beat 1") then None else Some reason.Header

-- ---- a file

-- what a file spells: its entries in order, or its first bad line with the reason
pub data BeatFile : Type 0 where
  Entries : List BeatLine → BeatFile
  Bad_line : ℕ → Reason → BeatFile

-- an entry before the others
abbrev pub entry_before : BeatLine → BeatFile → BeatFile
entry_before e (Entries es) = Entries (e ∷ es)
entry_before e (Bad_line n r) = Bad_line n r

-- a line of this number before the others
abbrev pub line_before : ℕ → Result BeatLine Reason → BeatFile → BeatFile
line_before n (Ok e) file = entry_before e file
line_before n (Err r) file = Bad_line n r

-- what a numbered line spells; the one of the number of cut holds the first byte past the limit of the input, and is too long
abbrev pub unless_cut : ℕ → ℕ × Bytes → Result BeatLine Reason
unless_cut cut l = if l.0 == cut then Err reason.Long else line_entry l.1

-- the numbered lines after the header
abbrev pub lines_spell : ℕ → List (ℕ × Bytes) → BeatFile
lines_spell cut [] = Entries []
lines_spell cut (l ∷ ls) = line_before l.0 (unless_cut cut l) (lines_spell cut ls)

-- behind a header of this fault
abbrev pub behind_first : ℕ → List (ℕ × Bytes) → Option Reason → BeatFile
behind_first cut ls (Some r) = Bad_line 1 r
behind_first cut ls None = lines_spell cut ls

-- why the first line is no header
abbrev pub first_against : ℕ → Bytes → Option Reason
first_against cut line = if 1 == cut then Some reason.Long else header_against line (text_fault 65536 line)

-- the first line is the header
abbrev pub numbered_spell : ℕ → List (ℕ × Bytes) → BeatFile
numbered_spell cut [] = Bad_line 1 reason.Header
numbered_spell cut (h ∷ ls) = behind_first cut ls (first_against cut h.1)

-- the greatest length of an input
abbrev pub input_limit : ℕ
input_limit = 67108864

-- the number of the line that holds the first byte past the limit; 0, which no line has, where there is none
abbrev pub cut_line : Bytes → ℕ
cut_line bytes = if nat_lt input_limit (length bytes) then line_number_at bytes input_limit else 0

-- what the bytes of a file spell
abbrev pub file_spells : Bytes → BeatFile
file_spells bytes = numbered_spell (cut_line bytes) (numbered 1 (lines_of bytes))
