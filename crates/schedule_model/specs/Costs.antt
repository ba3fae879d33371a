-- The two limits of a history: its entries, and what they cost.
use Rattle.std.specs.Prelude.{ℕ, ◌+◌, ◌^◌, Bool, ◌||◌, nat_le, List, length, sum, sum_by}
use Rattle.wire_values.specs.declared.value.Value.{Value}
use Rattle.wire_values.specs.declared.value.Value.TheFolds.{fold-Value}
use Rattle.wire_values.specs.declared.value.Value.TheOpen.{Value-F}
use Rattle.store_model.specs.declared.reply.Reply.{Reply}
use Rattle.queue_keys.specs.Names.{Bytes}
use Rattle.place_model.specs.declared.history.Entry.{Entry}
use Rattle.place_model.specs.declared.history.Entry.TheVariants.{Call, Heard, Stop}

-- the bytes of the bulk strings of a layer, with those of each item in its place
abbrev pub bulk_step : Value-F ℕ → ℕ
bulk_step (Value-F.Bulk b) = length b
bulk_step (Value-F.Array items) = sum items
bulk_step other = 0

-- the bytes of a value's bulk strings
abbrev pub bulk_size : Value → ℕ
bulk_size = fold-Value ℕ bulk_step

-- the bytes of a reply's bulk strings
abbrev pub reply_size : Reply → ℕ
reply_size r = sum_by bulk_size r.pushed + bulk_size r.answer

-- the bytes of words
abbrev pub words_size : List Bytes → ℕ
words_size ws = sum_by (λ w. length w) ws

-- what an entry costs: 64, and for a call the bytes of its words and of its reply's bulk strings
abbrev pub cost : {N : Type 0} → Entry N → ℕ
cost (Call c at words reply) = 64 + words_size words + reply_size reply
cost (Heard c note) = 64
cost (Stop c) = 64

-- what entries cost together
abbrev pub total_cost : {N : Type 0} → List (Entry N) → ℕ
total_cost es = sum_by cost es

-- the most entries of a history
abbrev pub max_entries : ℕ
max_entries = 1000000

-- the most that they cost together
abbrev pub max_cost : ℕ
max_cost = 2 ^ 30

-- whether a history may not grow any more: it has that many entries, or they cost that much
abbrev pub is_full : {N : Type 0} → List (Entry N) → Bool
is_full es = nat_le max_entries (length es) || nat_le max_cost (total_cost es)
