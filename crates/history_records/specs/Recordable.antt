-- What a record can spell: each number has as many bits as its type.
use Rattle.std.specs.Prelude.{◌≡◌, ℕ, suc, ℤ, pos, negsuc, ◌<◌, ◌^◌, Bool, true, nat_lt, List, [], ◌∷◌, max}
use Rattle.std.specs.FinMap.{entries}
use Rattle.std.specs.List.{list_all}
use Rattle.delivery_tags.specs.declared.tag.Tag.{Tag}
use Rattle.wire_values.specs.declared.value.Value.{Value}
use Rattle.wire_values.specs.declared.value.Value.TheFolds.{fold-Value}
use Rattle.wire_values.specs.declared.value.Value.TheOpen.{Value-F}
use Rattle.store_model.specs.declared.reply.Reply.{Reply}
use Rattle.place_model.specs.Histories.{History}
use Rattle.place_model.specs.declared.heard.Heard.{Heard}
use Rattle.place_model.specs.declared.heard.Heard.TheVariants.{Took, Finished, Expired, Revoked, Rejected, Held, Unreadable}
use Rattle.place_model.specs.declared.heard.Outcome.{Outcome}
use Rattle.place_model.specs.declared.heard.Outcome.TheVariants.{Success, Failure, Retry}
use Rattle.place_model.specs.declared.history.Entry.{Entry}
use Rattle.place_model.specs.declared.history.Entry.TheVariants.{Call, Heard as Noted, Stop}
use Rattle.history_records.specs.Records.{seed_map}
use Rattle.history_records.specs.declared.row.Row.{Row}
use Rattle.history_records.specs.declared.row.Row.TheVariants.{Client, Event}

-- ---- values

-- an integer of 64 bits
abbrev pub is_integer : ℤ → Bool
is_integer (pos n) = nat_lt n (2 ^ 63)
is_integer (negsuc n) = nat_lt n (2 ^ 63)

-- bytes of 8 bits
abbrev pub are_bytes : List ℕ → Bool
are_bytes bytes = list_all (λ b. nat_lt b 256) bytes

abbrev pub typed_step : Value-F Bool → Bool
typed_step (Value-F.Status t) = are_bytes t
typed_step (Value-F.Error t) = are_bytes t
typed_step (Value-F.Integer z) = is_integer z
typed_step (Value-F.Bulk t) = are_bytes t
typed_step Value-F.NullBulk = true
typed_step (Value-F.Array items) = list_all (λ b. b) items
typed_step Value-F.NullArray = true

-- whether each byte in a value has 8 bits, and each integer 64
abbrev pub is_typed : Value → Bool
is_typed = fold-Value Bool typed_step

-- the greatest of numbers
abbrev pub greatest : List ℕ → ℕ
greatest [] = 0
greatest (n ∷ ns) = max n (greatest ns)

abbrev pub depth_step : Value-F ℕ → ℕ
depth_step (Value-F.Array items) = suc (greatest items)
depth_step other = 0

-- how many arrays stand in one another
abbrev pub depth : Value → ℕ
depth = fold-Value ℕ depth_step

-- ---- entries

abbrev pub IsTag : Tag → Type 0
IsTag t = t.0 < 2 ^ 128

abbrev pub IsOutcome : Outcome → Type 0
IsOutcome (Success text) = are_bytes text ≡ true
IsOutcome (Failure text) = are_bytes text ≡ true
IsOutcome (Retry seconds) = seconds < 2 ^ 64

abbrev pub IsNote : Heard → Type 0
IsNote (Took t) = IsTag t
IsNote (Finished t o) = IsTag t × IsOutcome o
IsNote (Expired t expires now) = IsTag t × (is_integer expires ≡ true) × (is_integer now ≡ true)
IsNote (Revoked t) = IsTag t
IsNote (Rejected t) = IsTag t
IsNote (Held t eta) = IsTag t × (is_integer eta ≡ true)
IsNote Unreadable = Unit {0}

abbrev pub IsReply : Reply → Type 0
IsReply r = (list_all is_typed r.pushed ≡ true) × (is_typed r.answer ≡ true)

abbrev pub IsEvent : Entry Heard → Type 0
IsEvent (Call c at words reply) = (c < 2 ^ 32) × (at < 2 ^ 64) × (list_all are_bytes words ≡ true) × IsReply reply
IsEvent (Noted c note) = (c < 2 ^ 32) × IsNote note
IsEvent (Stop c) = c < 2 ^ 32

abbrev pub IsClient : ℕ × ℕ → Type 0
IsClient c = (c.0 < 2 ^ 32) × (c.1 < 2 ^ 64)

-- a row
abbrev pub IsRow : Row → Type 0
IsRow (Client connection seed) = IsClient (connection, seed)
IsRow (Event entry) = IsEvent entry

-- each of a list
abbrev pub Each : {A : Type 0} → (A → Type 0) → List A → Type 0
Each P [] = Unit {0}
Each P (x ∷ xs) = P x × Each P xs

-- a history
pub record IsRecordable (h : History Heard) : Type 0 where
  pub clients : Each IsClient (entries (seed_map h.clients))
  pub events : Each IsEvent h.entries
