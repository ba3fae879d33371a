-- What a reader of schedules keeps: the present moment, the history so far, the store, and each client's block.
use Rattle.std.specs.Prelude.{ℕ, Bool, true, false, List, [], ◌∷◌, ◌++◌, if◌then◌else◌}
use Rattle.std.specs.Ordering.{nat_cmp}
use Rattle.std.specs.FinMap.{FinMap, empty, insert}
use Rattle.store_model.specs.Store.{State, empty_state, apply_of, gone_of}
use Rattle.store_model.specs.declared.reply.Reply.{Reply}
use Rattle.command_blocks.specs.Blocks.{drawn, passes_after}
use Rattle.command_blocks.specs.Scripts.{Script, Over, Off, Say, Plan, script_of, counter_use}
use Rattle.command_blocks.specs.Setting.{Setting}
use Rattle.place_model.specs.declared.heard.Heard.{Heard}
use Rattle.place_model.specs.declared.history.Entry.{Entry}
use Rattle.place_model.specs.declared.history.Entry.TheVariants.{Call, Stop}
use Rattle.schedule_model.specs.Costs.{is_full}

-- of a client: its seed, the tags that it drew, the passes that it made, what is left of its block, and whether it is stopped
pub record ClientBook : Type 0 where
  pub seed : ℕ
  pub drawn : ℕ
  pub passes : ℕ
  pub left : Script
  pub stopped : Bool

-- the reader
pub record ScheduleReader : Type 0 where
  pub moment : ℕ
  pub clients : List (ℕ × ℕ)  -- the numbers of the clients with their seeds, in the order of their lines
  pub entries : List (Entry Heard)
  pub store : State
  pub books : FinMap nat_cmp ClientBook

-- before the first line
abbrev pub first_desk : ScheduleReader
first_desk = record { moment = 0; clients = []; entries = []; store = empty_state; books = empty }

-- the desk with this book of a client
abbrev pub with_book : ScheduleReader → ℕ → ClientBook → ScheduleReader
with_book d c b = record d { books = insert d.books c b }

-- a client more, which has no block
abbrev pub reader_with_client : ScheduleReader → ℕ → ℕ → ScheduleReader
reader_with_client d c s = record d {
  clients = d.clients ++ (c, s) ∷ [];
  books = insert d.books c (record { seed = s; drawn = 0; passes = 0; left = Over; stopped = false });
}

-- the book of a client that begins a plan
abbrev pub begun : Setting → ClientBook → Plan → ClientBook
begun σ b p = record b { drawn = drawn (counter_use p) b.drawn; passes = passes_after (counter_use p) b.passes; left = script_of σ b.seed b.passes p }

-- the desk and the script after one more command, and whether the history had room for it
pub record Said : Type 0 where
  pub desk : ScheduleReader
  pub left : Script
  pub room : Bool

-- the desk after a call
abbrev pub with_call : ScheduleReader → ℕ → List (List ℕ) → State × Reply → ScheduleReader
with_call d c words r = record d { entries = d.entries ++ Call c d.moment words r.1 ∷ []; store = r.0 }

-- a client says the next command of a script, if there is one, where the history has room
abbrev pub said_one : ScheduleReader → ℕ → Script → Said
said_one d c Over = record { desk = d; left = Over; room = true }
said_one d c Off = record { desk = d; left = Off; room = true }
said_one d c (Say w go) =
    if is_full d.entries then record { desk = d; left = Say w go; room = false } else
    let r = apply_of d.store d.moment c (w d.moment) in record { desk = with_call d c (w d.moment) r; left = go r.1.answer; room = true }

-- a client says a script to its end, as far as the history has room
abbrev pub said_all : ScheduleReader → ℕ → Script → Said
said_all d c Over = record { desk = d; left = Over; room = true }
said_all d c Off = record { desk = d; left = Off; room = true }
said_all d c (Say w go) =
    if is_full d.entries then record { desk = d; left = Say w go; room = false } else
    let r = apply_of d.store d.moment c (w d.moment) in said_all (with_call d c (w d.moment) r) c (go r.1.answer)

-- a client that is gone
abbrev pub with_stop : ScheduleReader → ℕ → ClientBook → ScheduleReader
with_stop d c b = record d { entries = d.entries ++ Stop c ∷ []; store = gone_of d.store c; books = insert d.books c (record b { stopped = true }) }
