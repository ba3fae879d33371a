-- What a return leaves: the message is out of the table, and in each of its queues.
use Rattle.std.specs.Prelude.{◌≡◌, ◌⊎◌, ℕ, true, false, List, [], ◌∷◌, ◌++◌, None, Some}
use Rattle.std.specs.FinMap.{get}
use Rattle.store_model.specs.Replies.{bulks}
use Rattle.store_model.specs.Keys.{Keys, expiry_of, is_expired, value_at}
use Rattle.store_model.specs.declared.command.Command.{Command}
use Rattle.store_model.specs.declared.command.Command.TheVariants.{Lpush, Rpush, Zrem, Hdel}
use Rattle.store_model.specs.declared.held.Stored.TheVariants.{Items}
use Rattle.queue_keys.specs.Names.{Bytes}
use Rattle.queue_keys.specs.QueueKeys.{IsAway, Among}
use Rattle.command_blocks.specs.Setting.{Setting}
use Rattle.command_blocks.specs.ReturnBlocks.{Carries}
use Rattle.place_model.specs.Seen.{Seen}
use Rattle.place_model.specs.Counts.{table_entry, is_field, is_member, score_at}
use Rattle.place_model.specs.Starts.{IsHashOrNone, IsScoresOrNone, elements_at}
use Rattle.command_blocks.specs.declared.side.Side.{Side}
use Rattle.command_blocks.specs.declared.side.Side.TheVariants.{Left, Right}

-- the push at this side
abbrev pub push_command : Side → Bytes → Bytes → Command
push_command Left k v = Lpush k (v ∷ [])
push_command Right k v = Rpush k (v ∷ [])

-- the pushes of the same bytes to these keys
abbrev pub push_commands : Side → Bytes → List Bytes → List Command
push_commands side v [] = []
push_commands side v (k ∷ ks) = push_command side k v ∷ push_commands side v ks

-- the transaction that takes t out of the table, and what it goes on with
abbrev pub take_out : Setting → Bytes → List Command → List Command
take_out σ t commands = Zrem σ.index (t ∷ []) ∷ Hdel σ.unacked (t ∷ []) ∷ commands

-- the list with the bytes at this side
abbrev pub gain : Side → Bytes → List Bytes → List Bytes
gain Left v xs = v ∷ xs
gain Right v xs = xs ++ v ∷ []

-- from the keys m to m', at this moment: the entry u of t left the table, its envelope v with the two marks came to this side of each of these queues' lists, every other tag has the same entry and the same score, the table is a hash and its index a sorted set, if they are there, none of these keys expires, and every other key is as it was, or was due and is gone
pub record IsWholeReturn (σ : Setting) (m m' : Keys) (at : ℕ) (side : Side) (t u v : Bytes) (ks : List Bytes) : Type 0 where
  pub was : table_entry σ m t ≡ Some u
  pub carries : Carries σ u t v
  pub no_field : is_field σ m' t ≡ false
  pub no_member : is_member σ m' t ≡ false
  pub gained : (k : Bytes) → Among k ks → get m' k ≡ Some (record { value = Items (gain side v (elements_at m k)); expiry = None })
  pub others : (x : Bytes) → (x ≡ t → ⊥) → (table_entry σ m' x ≡ table_entry σ m x) × (score_at σ m' x ≡ score_at σ m x)
  pub table : IsHashOrNone (value_at m' σ.unacked) × (expiry_of (get m' σ.unacked) ≡ None)
  pub index : IsScoresOrNone (value_at m' σ.index) × (expiry_of (get m' σ.index) ≡ None)
  pub elsewhere : (k : Bytes) → IsAway k (σ.unacked ∷ σ.index ∷ ks) → (get m' k ≡ get m k) ⊎ ((is_expired at (get m k) ≡ true) × (get m' k ≡ None))

-- the transaction that a client has queued is that of a return's try, to the queues that the lookup gives over what SMEMBERS answered in this try, since its WATCH, if the exchange has a name; and from the keys m to m' it returned its message whole
pub record ReturnsWhole (σ : Setting) (sn : Seen) (m m' : Keys) (at : ℕ) : Type 0 where
  pub side : Side
  pub tag : Bytes
  pub entry : Bytes
  pub envelope : Bytes
  pub members : List Bytes
  pub commands : sn.since ≡ take_out σ tag (push_commands side envelope (σ.keys_in entry members))
  pub lookup : (σ.exchange_in entry ≡ None) ⊎ (sn.asked ≡ bulks members)
  pub whole : IsWholeReturn σ m m' at side tag entry envelope (σ.keys_in entry members)
