-- What a walk over a history's entries gathers, entry by entry. Serves the proofs of code.
use Rattle.std.specs.Prelude.{ℕ, true, false, if◌then◌else◌, List, [], ◌∷◌, ◌++◌, Option, None, Some}
use Rattle.std.specs.Ordering.{nat_cmp}
use Rattle.std.specs.FinMap.{FinMap, empty, get, insert}
use Rattle.wire_values.specs.declared.value.Value.{Value}
use Rattle.store_model.specs.Words.{command_of}
use Rattle.command_blocks.specs.Answers.{pair_of}
use Rattle.command_blocks.specs.Setting.{Setting, is_queue}
use Rattle.queue_keys.specs.Names.{Bytes}
use Rattle.place_model.specs.Histories.{History}
use Rattle.place_model.specs.declared.heard.Heard.{Heard}
use Rattle.place_model.specs.declared.history.Entry.{Entry}
use Rattle.place_model.specs.declared.history.Entry.TheVariants.{Call, Heard as Noted, Stop}
use Rattle.message_acts.specs.Acts.{act_of, kind_of, push_of}
use Rattle.message_acts.specs.Numbers.{listed, number_told}
use Rattle.message_acts.specs.Transactions.{copied_by, ended_by}
use Rattle.message_acts.specs.declared.act.Act.{Act}
use Rattle.message_acts.specs.declared.act.CallKind.{CallKind}
use Rattle.message_acts.specs.declared.act.CallKind.TheVariants.{Pushes, Pops, Begins, Runs, Others}
use Rattle.place_walk.specs.declared.seat.ClientSeat.{ClientSeat}
use Rattle.place_walk.specs.declared.walk.HistoryWalk.{HistoryWalk}

-- what is in hand after a key and an element were popped, if they were
abbrev pub hand_with : Setting → Option ℕ → Option (Bytes × Bytes) → Option ℕ
hand_with σ old None = old
hand_with σ old (Some p) = if is_queue σ p.0 then number_told (σ.tag_of p.1) else old

-- what is in hand after a call
abbrev pub hand_after : Setting → Option ℕ → CallKind → Value → Option ℕ
hand_after σ old Pushes r = old
hand_after σ old Pops r = hand_with σ old (pair_of r)
hand_after σ old Begins r = old
hand_after σ old Runs r = None
hand_after σ old Others r = old

-- what the commands since MULTI do, after a call
abbrev pub acts_after : List Act → CallKind → Act → List Act
acts_after old Pushes act = old ++ act ∷ []
acts_after old Pops act = old ++ act ∷ []
acts_after old Begins act = []
acts_after old Runs act = old ++ act ∷ []
acts_after old Others act = old ++ act ∷ []

-- a client after a call
abbrev pub seat_after : Setting → ClientSeat → CallKind → Act → Value → ClientSeat
seat_after σ seat kind act r = record { hand = hand_after σ seat.hand kind r; acts = acts_after seat.acts kind act; stopped = seat.stopped }

-- a client that has called nothing
abbrev pub new_seat : ClientSeat
new_seat = record { hand = None; acts = []; stopped = false }

-- with these clients
abbrev pub seated : FinMap nat_cmp ClientSeat → List (ℕ × ℕ) → FinMap nat_cmp ClientSeat
seated m [] = m
seated m (c ∷ cs) = seated (insert m c.0 new_seat) cs

-- after a call of a client of the table, whose commands since MULTI do this
abbrev pub call_noted : HistoryWalk → List Act → CallKind → Act → Value → HistoryWalk
call_noted w acts kind act r = record w {
  pushes = w.pushes ++ listed (push_of kind act r);
  ended = w.ended ++ ended_by acts kind r;
  copied = w.copied ++ copied_by acts kind r;
}

-- after a call of a connection, by what is known of it
abbrev pub walk_called : Setting → HistoryWalk → ℕ → CallKind → Act → Value → Option ClientSeat → HistoryWalk
walk_called σ w c kind act r None = record w { accepted = w.accepted ++ listed (push_of kind act r) }
walk_called σ w c kind act r (Some seat) = record {
  seats = insert w.seats c (seat_after σ seat kind act r);
  accepted = w.accepted ++ listed (push_of kind act r);
  pushes = w.pushes ++ listed (push_of kind act r);
  ended = w.ended ++ ended_by seat.acts kind r;
  copied = w.copied ++ copied_by seat.acts kind r;
}

-- after a connection is gone
abbrev pub walk_stopped : HistoryWalk → ℕ → Option ClientSeat → HistoryWalk
walk_stopped w c None = w
walk_stopped w c (Some seat) = record w { seats = insert w.seats c (record seat { stopped = true }) }

-- after an entry
abbrev pub walked : Setting → HistoryWalk → Entry Heard → HistoryWalk
walked σ w (Call c at words reply) = walk_called σ w c (kind_of (command_of words)) (act_of σ (command_of words)) reply.answer (get w.seats c)
walked σ w (Noted c note) = w
walked σ w (Stop c) = walk_stopped w c (get w.seats c)

-- after entries in a row
abbrev pub walked_all : Setting → HistoryWalk → List (Entry Heard) → HistoryWalk
walked_all σ w [] = w
walked_all σ w (e ∷ es) = walked_all σ (walked σ w e) es

-- before any entry
abbrev pub walk_start : List (ℕ × ℕ) → HistoryWalk
walk_start cs = record { seats = seated empty cs; accepted = []; pushes = []; ended = []; copied = [] }

-- after a history
abbrev pub gathered : Setting → History Heard → HistoryWalk
gathered σ h = walked_all σ (walk_start h.clients) h.entries
