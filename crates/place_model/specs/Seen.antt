-- What is read off a client's calls, one after the other.
use Rattle.std.specs.Prelude.{ℕ, zero, suc, ◌+◌, ℤ, pos, Bool, true, false, ◌&&◌, ◌||◌, List, [], ◌∷◌, ◌++◌, Option, None, Some, if◌then◌else◌}
use Rattle.wire_values.specs.declared.value.Value.{Value}
use Rattle.wire_values.specs.declared.value.Value.TheVariants.{NullArray}
use Rattle.store_model.specs.Words.{command_of}
use Rattle.store_model.specs.declared.command.Command.{Command}
use Rattle.store_model.specs.declared.command.Command.TheVariants.{Lpush, Rpush, Brpop, Multi, Exec, Hdel, Smembers, Watch}
use Rattle.queue_keys.specs.Names.{Bytes, same}
use Rattle.command_blocks.specs.Answers.{is_one, number_of, items_of, pair_of}
use Rattle.command_blocks.specs.Setting.{Setting, is_queue}
use Rattle.command_blocks.specs.Calls.{Call}

-- 1 where it is this tag
abbrev pub tag_weight : Bytes → Option Bytes → ℕ
tag_weight t None = 0
tag_weight t (Some u) = if same u t then 1 else 0

-- a transaction that ran, with its answers
pub record Ran : Type 0 where
  pub commands : List Command
  pub answers : List Value

-- what is read off a client's calls
pub record Seen : Type 0 where
  pub hand : Option Bytes  -- the tag that its last BRPOP that named a queue gave, with no EXEC since
  pub since : List Command  -- the commands since its last MULTI
  pub ran : List Ran  -- its transactions that ran, in order
  pub pushes : List Bytes  -- the tags of its direct pushes, in order
  pub asked : Value  -- what its last SMEMBERS since its last WATCH answered

-- what is in hand after a key and an element were popped, if they were; a key that is no queue's changes nothing
abbrev pub hand_from : Setting → Option Bytes → Option (Bytes × Bytes) → Option Bytes
hand_from σ old None = old
hand_from σ old (Some p) = if is_queue σ p.0 then σ.tag_of p.1 else old

-- what is in hand after a call
abbrev pub hand_by : Setting → Option Bytes → Command → Value → Option Bytes
hand_by σ old Exec r = None
hand_by σ old (Brpop ks) r = hand_from σ old (pair_of r)
hand_by σ old other r = old

-- the commands since MULTI after a call
abbrev pub since_by : List Command → Command → List Command
since_by old Multi = []
since_by old command = old ++ command ∷ []

-- the transaction, where EXEC answered an array
abbrev pub ran_with : List Command → Option (List Value) → List Ran
ran_with commands None = []
ran_with commands (Some rs) = record { commands = commands; answers = rs } ∷ []

-- the transaction that a call ran
abbrev pub ran_by : List Command → Command → Value → List Ran
ran_by commands Exec r = ran_with commands (items_of r)
ran_by commands other r = []

-- the tag as a list
abbrev pub tag_list : Option Bytes → List Bytes
tag_list None = []
tag_list (Some t) = t ∷ []

-- the tag that a push shows, where its answer is an integer
abbrev pub push_with : Setting → Bytes → Bytes → Option ℤ → List Bytes
push_with σ k v None = []
push_with σ k v (Some n) = if is_queue σ k then tag_list (σ.tag_of v) else []

-- the tags that a call pushed directly: an LPUSH of one envelope to a queue, answered by an integer
abbrev pub push_by : Setting → Command → Value → List Bytes
push_by σ (Lpush k (v ∷ [])) r = push_with σ k v (number_of r)
push_by σ other r = []

-- what the last SMEMBERS since the last WATCH answered, after a call; a try of a return begins with WATCH, so it is that try's own
abbrev pub asked_by : Value → Command → Value → Value
asked_by old (Smembers k) r = r
asked_by old (Watch ks) r = NullArray
asked_by old other r = old

-- what is read off one more call
abbrev pub seen_by : Setting → Seen → Command → Value → Seen
seen_by σ s command r = record {
  hand = hand_by σ s.hand command r;
  since = since_by s.since command;
  ran = s.ran ++ ran_by s.since command r;
  pushes = s.pushes ++ push_by σ command r;
  asked = asked_by s.asked command r;
}

-- what is read off further calls
abbrev pub seen_from : Setting → Seen → List Call → Seen
seen_from σ s [] = s
seen_from σ s (x ∷ xs) = seen_from σ (seen_by σ s (command_of x.words) x.answer) xs

-- before any call
abbrev pub nothing_seen : Seen
nothing_seen = record { hand = None; since = []; ran = []; pushes = []; asked = NullArray }

-- what is read off a client's calls
unfoldable pub seen : Setting → List Call → Seen
seen σ l = seen_from σ nothing_seen l

-- ---- transactions

-- the command took t out of the table
abbrev pub deletes_one : Setting → Bytes → Command → Value → Bool
deletes_one σ t (Hdel k (f ∷ [])) r = same k σ.unacked && (same f t && is_one (number_of r))
deletes_one σ t other r = false

-- whether one of the commands took t out of the table
abbrev pub deletes : Setting → Bytes → List Command → List Value → Bool
deletes σ t [] rs = false
deletes σ t (command ∷ commands) [] = false
deletes σ t (command ∷ commands) (r ∷ rs) = deletes_one σ t command r || deletes σ t commands rs

-- 1 where these bytes at this key are a message of t in a queue
abbrev pub push_weight_at : Setting → Bytes → Bytes → Bytes → ℕ
push_weight_at σ t k v = if is_queue σ k then tag_weight t (σ.tag_of v) else 0

-- 1 where the command pushes t to a queue
abbrev pub queued_push : Setting → Bytes → Command → ℕ
queued_push σ t (Lpush k (v ∷ [])) = push_weight_at σ t k v
queued_push σ t (Rpush k (v ∷ [])) = push_weight_at σ t k v
queued_push σ t other = 0

-- how many of a transaction's commands push t to a queue
abbrev pub queued_pushes : Setting → Bytes → List Command → ℕ
queued_pushes σ t [] = 0
queued_pushes σ t (command ∷ commands) = queued_push σ t command + queued_pushes σ t commands
