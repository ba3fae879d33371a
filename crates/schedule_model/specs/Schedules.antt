-- What a schedule determines: a history, its first bad line, or a history that was full.
use Rattle.std.specs.Prelude.{ℕ, ◌+◌, Bool, true, false, nat_lt, if◌then◌else◌, bytes_eq, List, [], ◌∷◌, length, take, codes, Option, None, Some}
use Rattle.std.specs.FinMap.{get, empty}
use Rattle.line_text.specs.Lines.{lines_of, text_fault}
use Rattle.line_text.specs.Words.{words_of}
use Rattle.line_text.specs.declared.reason.Reason.{Reason}
use Rattle.line_text.specs.declared.reason.Reason.TheVariants.{Long, Header, Syntax, UnknownClient, Task}
use Rattle.place_model.specs.Histories.{History}
use Rattle.queue_keys.specs.Names.{Bytes}
use Rattle.command_blocks.specs.Scripts.{Plan, Declare, Undeclare, Publish, Pop, End, Return, Pass}
use Rattle.command_blocks.specs.declared.side.Side.TheVariants.{Left, Right}
use Rattle.place_model.specs.declared.heard.Heard.{Heard}
use Rattle.schedule_model.specs.Costs.{is_full, total_cost}
use Rattle.schedule_model.specs.Desk.{ScheduleReader, ClientBook, Said, first_desk, with_book, reader_with_client, begun, said_one, said_all, with_stop}
use Rattle.schedule_model.specs.Faults.{Craft, first_reason, tests, client_seed, counter_of}
use Rattle.schedule_model.specs.Lines.{line_in}
use Rattle.schedule_model.specs.declared.line.Asked.{Asked}
use Rattle.schedule_model.specs.declared.line.Asked.TheVariants as asked
use Rattle.schedule_model.specs.declared.line.Line.{Line}
use Rattle.schedule_model.specs.declared.line.Line.TheVariants.{Client, At, Begin, Step, Run, Stop}

-- what a line leads to: a desk, a history that was full, or the reason that it is bad
pub data Led : Type 0 where
  Went : ScheduleReader → Led
  Filled : ScheduleReader → Led
  Bad : Reason → Led

-- ---- what a line does that has no fault

-- the plan of a publication, by its sealed envelope
abbrev pub publish_plan : Option Bytes → Option Plan
publish_plan None = None
publish_plan (Some v) = Some (Publish v)

-- the plan of what a client of this seed begins, whose next tag has this counter
abbrev pub plan_of : Craft → ℕ → ℕ → Asked → Option Plan
plan_of κ s n (asked.Publish x k p t j) = publish_plan (κ.sealed s n x k p t j)
plan_of κ s n (asked.Declare x k p q) = Some (Declare x k p q)
plan_of κ s n (asked.Undeclare x k p q) = Some (Undeclare x k p q)
plan_of κ s n (asked.Pop qs) = Some (Pop qs)
plan_of κ s n (asked.Ack a b) = Some (End (κ.setting.tag a b))
plan_of κ s n (asked.Restore a b) = Some (Return Right (κ.setting.tag a b))
plan_of κ s n (asked.Requeue a b) = Some (Return Left (κ.setting.tag a b))
plan_of κ s n (asked.Pass v) = Some (Pass v)

-- a plan begun; nothing is said yet
abbrev pub with_plan : Craft → ScheduleReader → ℕ → Option ClientBook → Option Plan → Led
with_plan κ d c None p = Bad UnknownClient
with_plan κ d c (Some b) None = Bad Task
with_plan κ d c (Some b) (Some p) = Went (with_book d c (begun κ.setting b p))

-- the desk after what a client said, by whether there was room for all of it
abbrev pub reader_after : ℕ → ClientBook → Said → Led
reader_after c b s = let d = with_book s.desk c (record b { left = s.left }) in if s.room then Went d else Filled d

-- a client says the next command of its block
abbrev pub stepped : ScheduleReader → ℕ → Option ClientBook → Led
stepped d c None = Bad UnknownClient
stepped d c (Some b) = reader_after c b (said_one d c b.left)

-- a client says its block to the end
abbrev pub run_through : ScheduleReader → ℕ → Option ClientBook → Led
run_through d c None = Bad UnknownClient
run_through d c (Some b) = reader_after c b (said_all d c b.left)

-- a client is gone, where the history has room
abbrev pub stopped : ScheduleReader → ℕ → Option ClientBook → Led
stopped d c None = Bad UnknownClient
stopped d c (Some b) = if is_full d.entries then Filled d else Went (with_stop d c b)

-- a line without a fault
abbrev pub led : Craft → ScheduleReader → Line → Led
led κ d (Client c s) = Went (reader_with_client d c s)
led κ d (At m) = Went (record d { moment = m })
led κ d (Begin c a) = let b = get d.books c in with_plan κ d c b (plan_of κ (client_seed b) (counter_of b) a)
led κ d (Step c) = stepped d c (get d.books c)
led κ d (Run c) = run_through d c (get d.books c)
led κ d (Stop c) = stopped d c (get d.books c)

-- ---- a line

-- a line, by the first of its faults
abbrev pub led_unless : Craft → ScheduleReader → Line → Option Reason → Led
led_unless κ d l (Some r) = Bad r
led_unless κ d l None = led κ d l

-- a line, by how it is spelled
abbrev pub led_by : Craft → ScheduleReader → Option Line → Led
led_by κ d None = Bad Syntax
led_by κ d (Some l) = led_unless κ d l (first_reason (tests κ d l))

-- what words lead to
abbrev pub words_led : Craft → ScheduleReader → List Bytes → Led
words_led κ d ws = led_by κ d (line_in ws)

-- a line, by what is wrong with it as a text
abbrev pub text_led : Craft → ScheduleReader → Bytes → Option Reason → Led
text_led κ d line (Some r) = Bad r
text_led κ d line None = words_led κ d (words_of line)

-- the longest line in bytes
abbrev pub max_line : ℕ
max_line = 65536

-- what a line after the header leads to
abbrev pub line_led : Craft → ScheduleReader → Bytes → Led
line_led κ d line = text_led κ d line (text_fault max_line line)

-- what the header leads to
abbrev pub header_led : Bytes → Option Reason → Led
header_led line (Some r) = Bad r
header_led line None = if bytes_eq line (codes "celery-schedule 1") then Went first_desk else Bad Header

-- ---- a schedule

-- what a schedule determines
pub data Determined : Type 0 where
  Whole : ScheduleReader → Determined
  Full : ℕ → ℕ → Determined  -- the entries and the cost of the history that was full
  Bad_line : ℕ → Reason → Determined  -- its number and the reason

-- how it goes on after line n
abbrev pub led_on : (ScheduleReader → Determined) → ℕ → Led → Determined
led_on go n (Went d) = go d
led_on go n (Filled d) = Full (length d.entries) (total_cost d.entries)
led_on go n (Bad r) = Bad_line n r

-- the last line: where the input goes on past its limit, that line holds the first byte past it
abbrev pub last_led : Bool → Led → Led
last_led true l = Bad Long
last_led false l = l

-- the lines from line n on; the mark tells whether the input goes on past its limit
abbrev pub lines_led : Craft → Bool → ℕ → ScheduleReader → List Bytes → Determined
lines_led κ cut n d [] = Whole d
lines_led κ cut n d (l ∷ []) = led_on Whole n (last_led cut (line_led κ d l))
lines_led κ cut n d (l ∷ m ∷ ls) = led_on (λ e. lines_led κ cut (n + 1) e (m ∷ ls)) n (line_led κ d l)

-- the first line is the header
abbrev pub header_on : Craft → Bool → List Bytes → Determined
header_on κ cut [] = Bad_line 1 Header
header_on κ cut (h ∷ []) = led_on Whole 1 (last_led cut (header_led h (text_fault max_line h)))
header_on κ cut (h ∷ l ∷ ls) = led_on (λ d. lines_led κ cut 2 d (l ∷ ls)) 1 (header_led h (text_fault max_line h))

-- the longest input in bytes
abbrev pub max_input : ℕ
max_input = 67108864

-- what a schedule determines; of a longer one than is lawful no more is read than one byte past the limit
abbrev pub schedule_run : Craft → Bytes → Determined
schedule_run κ bytes = header_on κ (nat_lt max_input (length bytes)) (lines_of (take (max_input + 1) bytes))

-- the history of a desk: it begins with an empty store
abbrev pub reader_history : ScheduleReader → History Heard
reader_history d = record { start = empty; used = []; clients = d.clients; entries = d.entries }
