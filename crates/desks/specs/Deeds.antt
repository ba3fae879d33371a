-- What a client did at its desk.
use Rattle.std.specs.Prelude.{List, [], map, ℕ, ◌∷◌}
use Rattle.store_model.specs.Words.{Words}
use Rattle.store_model.specs.declared.reply.Reply.{Reply}
use Rattle.place_model.specs.declared.heard.Heard.{Heard}
use Rattle.place_model.specs.declared.history.Entry.{Entry}
use Rattle.place_model.specs.declared.history.Entry.TheVariants as entry

-- a command that it asked at a moment, with the reply; a note that it told; that it left
pub data Deed : Type 0 where
  DidAsk : ℕ → Words → Reply → Deed
  DidNote : Heard → Deed
  DidStop : Deed

-- a deed of the client of this connection, as an entry of a history
abbrev pub entry_by : ℕ → Deed → Entry Heard
entry_by c (DidAsk at words reply) = entry.Call c at words reply
entry_by c (DidNote heard) = entry.Heard c heard
entry_by c DidStop = entry.Stop c

-- deeds of the client of this connection, as entries of a history
abbrev pub entries_by : ℕ → List Deed → List (Entry Heard)
entries_by c deeds = map (entry_by c) deeds
