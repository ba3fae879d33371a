-- Why a line of a schedule is bad: its tests in their order.
use Rattle.std.specs.Prelude.{ℕ, suc, Bool, true, false, not, ◌&&◌, ◌||◌, nat_le, nat_lt, nat_eq, is_none, if◌then◌else◌, List, [], ◌∷◌, ◌++◌, Option, None, Some}
use Rattle.store_model.specs.Limits.{moment_limit}
use Rattle.std.specs.List.{list_any}
use Rattle.std.specs.FinMap.{get}
use Rattle.line_text.specs.declared.reason.Reason.{Reason}
use Rattle.line_text.specs.declared.reason.Reason.TheVariants.{UnknownClient, Stopped, Busy, Idle, Repeated, Moment, Name, Reserved, Json, Task}
use Rattle.queue_keys.specs.Bindings.{is_part}
use Rattle.queue_keys.specs.Names.{Bytes, all_free, has_length, is_reserved}
use Rattle.command_blocks.specs.Scripts.{Script, Off, Say}
use Rattle.command_blocks.specs.Setting.{Setting}
use Rattle.schedule_model.specs.Desk.{ScheduleReader, ClientBook}
use Rattle.schedule_model.specs.declared.line.Asked.{Asked}
use Rattle.schedule_model.specs.declared.line.Asked.TheVariants as asked
use Rattle.schedule_model.specs.declared.line.Line.{Line}
use Rattle.schedule_model.specs.declared.line.Line.TheVariants.{Client, At, Begin, Step, Run, Stop}

-- how lines are read from here on: the names and texts, which texts are arguments, and the envelope of a publication
pub record Craft : Type 0 where
  pub setting : Setting
  pub are_arguments : Bytes → Bool  -- a JSON array without a float, nested at most 90 deep
  pub sealed : ℕ → ℕ → Bytes → Bytes → ℕ → Bytes → Bytes → Option Bytes  -- by seed, counter, exchange, routing key, priority, task and arguments; none where it is refused

-- a test, and the reason that it gives where it holds
abbrev pub Test : Type 0
Test = Bool × Reason

-- the reason of the first test that holds
abbrev pub first_reason : List Test → Option Reason
first_reason [] = None
first_reason (t ∷ ts) = if t.0 then Some t.1 else first_reason ts

-- whether a client is stopped, or was put off by an answer that isn't listed
abbrev pub is_script_off : Script → Bool
is_script_off Off = true
is_script_off other = false

abbrev pub is_gone : Option ClientBook → Bool
is_gone None = false
is_gone (Some b) = b.stopped || is_script_off b.left

-- whether a client has a block that isn't over
abbrev pub has_more : Script → Bool
has_more (Say w go) = true
has_more other = false

abbrev pub is_busy : Option ClientBook → Bool
is_busy None = false
is_busy (Some b) = has_more b.left

-- ---- names

-- whether no queue's name is spelled so, reserved or not: one of its bytes parts texts, or it hasn't 1 to 255 bytes
abbrev pub is_no_name : Bytes → Bool
is_no_name q = not (all_free q && has_length q)

abbrev pub is_empty : Bytes → Bool
is_empty [] = true
is_empty (b ∷ bs) = false

-- ---- the tests

-- those of each line for a client that has to be there
abbrev pub present_tests : Option ClientBook → List Test
present_tests b = (is_none b, UnknownClient) ∷ (is_gone b, Stopped) ∷ []

-- those of a declaration
abbrev pub declare_tests : Bytes → Bytes → Bytes → Bytes → List Test
declare_tests x k p q = (not (is_part x) || not (is_part k) || not (is_part p) || is_no_name q, Name) ∷ (is_reserved q, Reserved) ∷ []

-- those of what a client of this seed begins, whose next tag has this counter
abbrev pub asked_tests : Craft → ℕ → ℕ → Asked → List Test
asked_tests κ s n (asked.Publish x k p t j) =
    (is_empty x && is_no_name k, Name) ∷ (is_empty x && is_reserved k, Reserved)
    ∷ (not (κ.are_arguments j), Json) ∷ (is_none (κ.sealed s n x k p t j), Task) ∷ []
asked_tests κ s n (asked.Declare x k p q) = declare_tests x k p q
asked_tests κ s n (asked.Undeclare x k p q) = declare_tests x k p q
asked_tests κ s n (asked.Pop qs) = (list_any is_no_name qs, Name) ∷ (list_any is_reserved qs, Reserved) ∷ []
asked_tests κ s n (asked.Ack a b) = []
asked_tests κ s n (asked.Restore a b) = []
asked_tests κ s n (asked.Requeue a b) = []
asked_tests κ s n (asked.Pass v) = []

-- the seed of a client, and the counter of its next tag
abbrev pub client_seed : Option ClientBook → ℕ
client_seed None = 0
client_seed (Some b) = b.seed

abbrev pub counter_of : Option ClientBook → ℕ
counter_of None = 0
counter_of (Some b) = suc b.drawn

abbrev pub has_number : ℕ → List (ℕ × ℕ) → Bool
has_number c clients = list_any (λ e. nat_eq e.0 c) clients

abbrev pub has_seed : ℕ → List (ℕ × ℕ) → Bool
has_seed s clients = list_any (λ e. nat_eq e.1 s) clients

-- those of a line, in their order
abbrev pub tests : Craft → ScheduleReader → Line → List Test
tests κ d (Client c s) = (is_gone (get d.books c), Stopped) ∷ (has_number c d.clients || has_seed s d.clients, Repeated) ∷ []
tests κ d (At m) = (nat_le moment_limit m || nat_lt m d.moment, Moment) ∷ []
tests κ d (Begin c a) = let b = get d.books c in present_tests b ++ (is_busy b, Busy) ∷ asked_tests κ (client_seed b) (counter_of b) a
tests κ d (Step c) = let b = get d.books c in present_tests b ++ (not (is_busy b), Idle) ∷ []
tests κ d (Run c) = let b = get d.books c in present_tests b ++ (not (is_busy b), Idle) ∷ []
tests κ d (Stop c) = present_tests (get d.books c)
