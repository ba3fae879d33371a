-- The blocks that pop a message into the table, and take one out of it for good.
use Rattle.std.specs.Prelude.{◌≡◌, ℕ, ℤ, true, ◌<◌, ◌≤◌, List, [], ◌∷◌, ◌++◌, codes, decimal, length, Some, None}
use Rattle.wire_values.specs.declared.value.Value.TheVariants.{NullArray}
use Rattle.store_model.specs.Limits.{moment_limit}
use Rattle.store_model.specs.Words.{Words}
use Rattle.store_model.specs.Replies.{done, queued, pair}
use Rattle.queue_keys.specs.Names.{Bytes, is_name}
use Rattle.queue_keys.specs.QueueKeys.{Each}
use Rattle.command_blocks.specs.Answers.{integers}
use Rattle.command_blocks.specs.Setting.{Setting}
use Rattle.command_blocks.specs.Calls.{Call, call}

-- the keys of a pop over these queues: lawful names, and at most 4,094 keys, since a command has at most 4,096 words; with four steps that is 1,023 queues
abbrev pub IsPop : Setting → List Bytes → List Bytes → Type 0
IsPop σ names ks = Each is_name names × (σ.pop_keys names ≡ ks) × (length ks ≤ 4094)

-- BRPOP of these keys, for at most a second
abbrev pub brpop_words : Bytes → List Bytes → Words
brpop_words k ks = codes "BRPOP" ∷ k ∷ ks ++ codes "1" ∷ []

-- a pop over these queues
pub data IsPopBlock (σ : Setting) (names : List Bytes) : List Call → Type 0 where
  -- nothing was there
  Empty : (a : ℕ) (k : Bytes) (ks : List Bytes) → IsPop σ names (k ∷ ks) → IsPopBlock σ names (call a (brpop_words k ks) NullArray ∷ [])
  -- what was there is no envelope
  Unreadable : (a : ℕ) (k : Bytes) (ks : List Bytes) (q v : Bytes) → IsPop σ names (k ∷ ks) → σ.tag_of v ≡ None → IsPopBlock σ names (call a (brpop_words k ks) (pair q v) ∷ [])
  -- the message was put into the table and its index
  Popped : (a b c d e : ℕ) (k : Bytes) (ks : List Bytes) (q v t : Bytes) (x y : ℤ) → IsPop σ names (k ∷ ks) → σ.tag_of v ≡ Some t → c < moment_limit
      → IsPopBlock σ names (
      call a (brpop_words k ks) (pair q v)
      ∷ call b (codes "MULTI" ∷ []) done
      ∷ call c (codes "ZADD" ∷ σ.index ∷ decimal c ∷ t ∷ []) queued
      ∷ call d (codes "HSET" ∷ σ.unacked ∷ t ∷ σ.entry_of v ∷ []) queued
      ∷ call e (codes "EXEC" ∷ []) (integers (x ∷ y ∷ []))
      ∷ [])

-- the acknowledgement of the tag t, which removed it where the second answer is 1
pub data IsEndBlock (σ : Setting) (t : Bytes) : List Call → Type 0 where
  Acknowledged : (a b c d : ℕ) (x y : ℤ) → σ.is_tag t ≡ true
      → IsEndBlock σ t (
      call a (codes "MULTI" ∷ []) done
      ∷ call b (codes "ZREM" ∷ σ.index ∷ t ∷ []) queued
      ∷ call c (codes "HDEL" ∷ σ.unacked ∷ t ∷ []) queued
      ∷ call d (codes "EXEC" ∷ []) (integers (x ∷ y ∷ []))
      ∷ [])
