-- What the rows of a record lead to, one after the other.
use Rattle.std.specs.Prelude.{◌≡◌, ℕ, Bool, true, false, not, ◌||◌, nat_lt, nat_le, List, [], ◌∷◌, ◌++◌, Option, None, Some}
use Rattle.std.specs.FinMap.{empty}
use Rattle.std.specs.List.{list_any}
use Rattle.store_model.specs.Limits.{moment_limit}
use Rattle.line_text.specs.declared.reason.Reason.{Reason}
use Rattle.line_text.specs.declared.reason.Reason.TheVariants.{Syntax, UnknownClient, Stopped, Repeated, Moment, Illegal, Unmannered as Against_manner}
use Rattle.queue_keys.specs.Names.{Bytes}
use Rattle.command_blocks.specs.Setting.{Setting}
use Rattle.place_model.specs.Histories.{History, AnswersRight, after, and_then, calls_of, conn_of}
use Rattle.place_model.specs.Shown.{and_client, has_stopped, seed_of}
use Rattle.place_model.specs.declared.heard.Heard.{Heard}
use Rattle.place_model.specs.declared.history.Entry.{Entry}
use Rattle.place_model.specs.declared.history.Entry.TheVariants.{Call, Heard as Noted, Stop}
use Rattle.manner_laws.specs.Cursor.{Cursor, At, Unlisted, Unmannered, cursor_of}
use Rattle.schedule_model.specs.Costs.{is_full}
use Rattle.schedule_model.specs.Faults.{Test, first_reason, has_number, has_seed}
use Rattle.history_records.specs.declared.row.Row.{Row}
use Rattle.history_records.specs.declared.row.Row.TheVariants.{Client, Event}

-- by what clients' commands are judged: the names and texts, and the exchange whose bindings a key has
pub record Manner : Type 0 where
  pub setting : Setting
  pub exchange_at : Bytes → Option Bytes

-- before the first row: an empty store, and no client
abbrev pub first_history : History Heard
first_history = record { start = empty; used = []; clients = []; entries = [] }

-- ---- the tests of a row, in their order

-- whether a connection's number is below that of an earlier client
abbrev pub is_below : ℕ → List (ℕ × ℕ) → Bool
is_below c clients = list_any (λ d. nat_lt c d.0) clients

abbrev pub has_entry : List (Entry Heard) → Bool
has_entry [] = false
has_entry (e ∷ es) = true

-- a client's line stands before the entries, by its number, and names no connection and no seed again
abbrev pub client_tests : History Heard → ℕ → ℕ → List Test
client_tests h c s =
    (has_entry h.entries || is_below c h.clients, Syntax)
    ∷ (has_number c h.clients || has_seed s h.clients, Repeated) ∷ []

-- whether a call's moment is 2^40 or above
abbrev pub is_late : Entry Heard → Bool
is_late (Call c at words reply) = nat_le moment_limit at
is_late (Noted c note) = false
is_late (Stop c) = false

-- an entry's client is known and not gone, and its moment isn't too late
abbrev pub event_tests : History Heard → Entry Heard → List Test
event_tests h e =
    (not (has_number (conn_of e) h.clients), UnknownClient)
    ∷ (has_stopped (conn_of e) h.entries, Stopped)
    ∷ (is_late e, Moment) ∷ []

-- whether calls aren't mannered
abbrev pub is_out_of_manner : Cursor → Bool
is_out_of_manner (At spot) = false
is_out_of_manner Unlisted = false
is_out_of_manner Unmannered = true

-- whether the calls of a connection of this seed aren't mannered any more with one entry more
abbrev pub is_out_with : Manner → Option ℕ → History Heard → Entry Heard → Bool
is_out_with μ None h e = false
is_out_with μ (Some s) h e = is_out_of_manner (cursor_of μ.setting μ.exchange_at s (calls_of (conn_of e) (h.entries ++ e ∷ [])))

abbrev pub is_unmannered : Manner → History Heard → Entry Heard → Bool
is_unmannered μ h (Call c at words reply) = is_out_with μ (seed_of c h.clients) h (Call c at words reply)
is_unmannered μ h (Noted c note) = false
is_unmannered μ h (Stop c) = false

-- ---- a row

-- what a row leads to: the history with what it says, a history that was full, or the reason that it is bad
pub data RowStep : Type 0 where
  Grown : History Heard → RowStep
  Crowded : History Heard → RowStep
  Faulted : Reason → RowStep

-- a history, where there is no reason against it
abbrev pub grown_unless : History Heard → Option Reason → RowStep
grown_unless h None = Grown h
grown_unless h (Some r) = Faulted r

-- what an entry leads to: its tests come first, then the room of the history, then its reply, then its client's manner
pub data EventLeads (μ : Manner) (h : History Heard) (e : Entry Heard) : RowStep → Type 0 where
  Fails_test : (r : Reason) → first_reason (event_tests h e) ≡ Some r → EventLeads μ h e (Faulted r)
  Lacks_room : first_reason (event_tests h e) ≡ None → is_full h.entries ≡ true → EventLeads μ h e (Crowded h)
  Is_illegal : first_reason (event_tests h e) ≡ None → is_full h.entries ≡ false → (AnswersRight (after h) e → ⊥) → EventLeads μ h e (Faulted Illegal)
  Lacks_manner : first_reason (event_tests h e) ≡ None → is_full h.entries ≡ false → AnswersRight (after h) e → is_unmannered μ h e ≡ true → EventLeads μ h e (Faulted Against_manner)
  Comes_next : first_reason (event_tests h e) ≡ None → is_full h.entries ≡ false → AnswersRight (after h) e → is_unmannered μ h e ≡ false → EventLeads μ h e (Grown (and_then h (e ∷ [])))

-- what a row leads to
abbrev pub RowLeads : Manner → History Heard → Row → RowStep → Type 0
RowLeads μ h (Client c s) step = step ≡ grown_unless (and_client h c s) (first_reason (client_tests h c s))
RowLeads μ h (Event e) step = EventLeads μ h e step
