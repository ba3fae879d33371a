-- What a publish script determines: the blocks that it says, or its first bad line.
use Rattle.std.specs.Prelude.{ℕ, suc, ◌+◌, Bool, true, false, bytes_eq, if◌then◌else◌, nat_lt, List, [], ◌∷◌, codes, length, take, Option, None, Some, ℤ}
use Rattle.line_text.specs.Lines.{lines_of, numbered, text_fault}
use Rattle.line_text.specs.Words.{words_of}
use Rattle.line_text.specs.declared.reason.Reason.{Reason}
use Rattle.line_text.specs.declared.reason.Reason.TheVariants.{Header, Long, Syntax, Task}
use Rattle.moments.specs.MomentTexts.{moment_of}
use Rattle.queue_keys.specs.Names.{Bytes}
use Rattle.command_blocks.specs.Blocks.{CounterUse, Drawing, Other, Passing}
use Rattle.command_blocks.specs.Scripts.{Plan, counter_use}
use Rattle.schedule_model.specs.Faults.{asked_tests, first_reason}
use Rattle.schedule_model.specs.Lines.{declare_in, publish_in}
use Rattle.schedule_model.specs.Schedules.{max_input, max_line, plan_of}
use Rattle.schedule_model.specs.declared.line.Asked.{Asked}
use Rattle.schedule_model.specs.declared.line.Asked.TheVariants as asked
use Rattle.publish_script.specs.Drafts.{Times, timed_craft}

-- amid a script: how many tags were drawn, and the moments for the next publish line
pub record ScriptReader : Type 0 where
  pub drawn : ℕ
  pub times : Times

-- no moments
abbrev pub no_times : Times
no_times = record { eta = None; expires = None }

-- before the first line
abbrev pub new_reader : ScriptReader
new_reader = record { drawn = 0; times = no_times }

-- what a line leads to: nothing is said, a block of this plan is said, or the line is bad
pub data ScriptStep : Type 0 where
  Noted : ScriptReader → ScriptStep
  Says : ScriptReader → Plan → ScriptStep
  Wrong : Reason → ScriptStep

-- ---- moments

-- the times with this moment as the one before which the task waits, or as the one after which it is expired
abbrev pub with_eta : Times → ℤ → Times
with_eta times m = record { eta = Some m; expires = times.expires }

abbrev pub with_expires : Times → ℤ → Times
with_expires times m = record { eta = times.eta; expires = Some m }

-- by the moment that a word spells
abbrev pub moment_step : ScriptReader → (Times → ℤ → Times) → Option ℤ → ScriptStep
moment_step d with_moment None = Wrong Syntax
moment_step d with_moment (Some m) = Noted (record { drawn = d.drawn; times = with_moment d.times m })

-- one word, which spells a moment
abbrev pub times_step : ScriptReader → (Times → ℤ → Times) → List Bytes → ScriptStep
times_step d with_moment (w ∷ []) = moment_step d with_moment (moment_of w)
times_step d with_moment ws = Wrong Syntax

-- ---- blocks

-- the reader after a block of this use of its counters: a publication draws a tag, and its moments are gone
abbrev pub reader_past : ScriptReader → CounterUse → ScriptReader
reader_past d Drawing = record { drawn = suc d.drawn; times = no_times }
reader_past d Passing = d
reader_past d Other = d

-- a block that was asked for, by its plan
abbrev pub plan_step : ScriptReader → Option Plan → ScriptStep
plan_step d None = Wrong Task
plan_step d (Some p) = Says (reader_past d (counter_use p)) p

-- by the first of its tests that holds
abbrev pub tested_step : ℕ → ScriptReader → Asked → Option Reason → ScriptStep
tested_step s d a (Some r) = Wrong r
tested_step s d a None = plan_step d (plan_of (timed_craft d.times) s (suc d.drawn) a)

-- by what the words of a line of a client of this seed ask for
abbrev pub asked_step : ℕ → ScriptReader → Option Asked → ScriptStep
asked_step s d None = Wrong Syntax
asked_step s d (Some a) = tested_step s d a (first_reason (asked_tests (timed_craft d.times) s (suc d.drawn) a))

-- ---- lines

-- by the words of a line
abbrev pub words_step : ℕ → ScriptReader → List Bytes → ScriptStep
words_step s d [] = Wrong Syntax
words_step s d (w ∷ ws) =
    if bytes_eq w (codes "publish") then asked_step s d (publish_in ws)
    else if bytes_eq w (codes "declare") then asked_step s d (declare_in asked.Declare ws)
    else if bytes_eq w (codes "eta") then times_step d with_eta ws
    else if bytes_eq w (codes "expires") then times_step d with_expires ws
    else Wrong Syntax

-- by what is wrong with a line as a text
abbrev pub text_step : ℕ → ScriptReader → Bytes → Option Reason → ScriptStep
text_step s d line (Some r) = Wrong r
text_step s d line None = words_step s d (words_of line)

-- what a line after the header leads to
abbrev pub line_step : ℕ → ScriptReader → Bytes → ScriptStep
line_step s d line = text_step s d line (text_fault max_line line)

-- why a line isn't the header
abbrev pub header_reason : Bytes → Option Reason → Option Reason
header_reason line (Some r) = Some r
header_reason line None = if bytes_eq line (codes "celery-publish 1") then None else Some Header

-- ---- a script

-- what a script determines: the plans of its blocks in order, or its first bad line with the reason
pub data PublishScript : Type 0 where
  Blocks : List Plan → PublishScript
  Wrong_line : ℕ → Reason → PublishScript

-- a plan before the others
abbrev pub plan_before : Plan → PublishScript → PublishScript
plan_before p (Blocks ps) = Blocks (p ∷ ps)
plan_before p (Wrong_line n r) = Wrong_line n r

-- how it goes on after line n
abbrev pub script_on : (ScriptReader → PublishScript) → ℕ → ScriptStep → PublishScript
script_on go n (Noted d) = go d
script_on go n (Says d p) = plan_before p (go d)
script_on go n (Wrong r) = Wrong_line n r

-- whether no lines follow
abbrev pub is_last : List (ℕ × Bytes) → Bool
is_last [] = true
is_last (l ∷ ls) = false

-- a line by whether it is the last one of an input that goes on past its limit: it holds the first byte past it
abbrev pub unless_long : Bool → ScriptStep → ScriptStep
unless_long true l = Wrong Long
unless_long false l = l

-- whether the input is cut off amid the line before these
abbrev pub is_cut_before : Bool → List (ℕ × Bytes) → Bool
is_cut_before true ls = is_last ls
is_cut_before false ls = false

-- the numbered lines after the header, of a client of this seed; the mark tells whether the input goes on past its limit
abbrev pub lines_script : ℕ → Bool → ScriptReader → List (ℕ × Bytes) → PublishScript
lines_script s cut d [] = Blocks []
lines_script s cut d (l ∷ ls) = script_on (λ e. lines_script s cut e ls) l.0 (unless_long (is_cut_before cut ls) (line_step s d l.1))

-- behind a header of this fault
abbrev pub behind_header : ℕ → Bool → List (ℕ × Bytes) → Option Reason → PublishScript
behind_header s cut ls (Some r) = Wrong_line 1 r
behind_header s cut ls None = lines_script s cut new_reader ls

-- why the first line is none, where the input may be cut off amid it
abbrev pub cut_fault : Bool → Option Reason → Option Reason
cut_fault true fault = Some Long
cut_fault false fault = fault

-- the first line is the header
abbrev pub header_script : ℕ → Bool → List (ℕ × Bytes) → PublishScript
header_script s cut [] = Wrong_line 1 Header
header_script s cut (h ∷ ls) = behind_header s cut ls (cut_fault (is_cut_before cut ls) (header_reason h.1 (text_fault max_line h.1)))

-- what a script determines for a client of this seed; of a longer one than is lawful no more is read than one byte past the limit
abbrev pub script_told : ℕ → Bytes → PublishScript
script_told s bytes = header_script s (nat_lt max_input (length bytes)) (numbered 1 (lines_of (take (max_input + 1) bytes)))
