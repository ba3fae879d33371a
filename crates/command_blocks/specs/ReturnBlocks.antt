-- The block that returns a message from the table to its queues.
use Rattle.std.specs.Prelude.{◌≡◌, ℕ, ℤ, suc, Bool, true, false, ◌<◌, List, [], ◌∷◌, codes, Option, Some, None}
use Rattle.wire_values.specs.declared.value.Value.{Value}
use Rattle.wire_values.specs.declared.value.Value.TheVariants.{Bulk, NullBulk, NullArray}
use Rattle.store_model.specs.Replies.{done, queued, bulks}
use Rattle.queue_keys.specs.Names.{Bytes}
use Rattle.command_blocks.specs.Answers.{integers}
use Rattle.command_blocks.specs.Setting.{Setting}
use Rattle.command_blocks.specs.Calls.{Call, call, push_word}
use Rattle.command_blocks.specs.declared.side.Side.{Side}

-- how a return ends
pub data ReturnEnd : Type 0 where
  Moved : ReturnEnd  -- the message is in its queues again
  Gone : ReturnEnd  -- it wasn't in the table
  Stayed : ReturnEnd  -- what the table has is no entry of it, or there is no queue for it
  Contended : ReturnEnd  -- the table was altered in each of eight tries

-- whether a pass goes on after a return
abbrev pub goes_on : ReturnEnd → Bool
goes_on Contended = false
goes_on other = true

-- pushes inside a transaction, each with its moment and key, and then the rest
abbrev pub queued_calls : Side → Bytes → List (ℕ × Bytes) → List Call → List Call
queued_calls side v [] rest = rest
queued_calls side v (q ∷ qs) rest = call q.0 (push_word side ∷ q.1 ∷ v ∷ []) queued ∷ queued_calls side v qs rest

-- their keys
abbrev pub queued_keys : List (ℕ × Bytes) → List Bytes
queued_keys [] = []
queued_keys (q ∷ qs) = q.1 ∷ queued_keys qs

-- the table is watched and the entry read, and then the rest
abbrev pub reading : Setting → Bytes → ℕ → ℕ → Value → List Call → List Call
reading σ t a b r rest = call a (codes "WATCH" ∷ σ.unacked ∷ []) done ∷ call b (codes "HGET" ∷ σ.unacked ∷ t ∷ []) r ∷ rest

-- the bindings are read, if the exchange has a name, and then the rest
abbrev pub asking : Setting → Option Bytes → ℕ → List Bytes → List Call → List Call
asking σ None a ms rest = rest
asking σ (Some e) a ms rest = call a (codes "SMEMBERS" ∷ σ.binding e ∷ []) (bulks ms) ∷ rest

-- UNWATCH, which ends a try that moves nothing
abbrev pub leaving : ℕ → List Call
leaving a = call a (codes "UNWATCH" ∷ []) done ∷ []

-- the transaction of a try, and then the rest
abbrev pub taking : Setting → Side → Bytes → ℕ → ℕ → ℕ → ℕ → Bytes → List (ℕ × Bytes) → Value → List Call → List Call
taking σ side t a b c d v qs r rest =
    call a (codes "MULTI" ∷ []) done
    ∷ call b (codes "ZREM" ∷ σ.index ∷ t ∷ []) queued
    ∷ call c (codes "HDEL" ∷ σ.unacked ∷ t ∷ []) queued
    ∷ queued_calls side v qs (call d (codes "EXEC" ∷ []) r ∷ rest)

-- the entry u is one of the tag t, and carries the envelope v
abbrev pub Carries : Setting → Bytes → Bytes → Bytes → Type 0
Carries σ u t v = (σ.carried u ≡ Some v) × (σ.tag_of v ≡ Some t)

-- the moments of a try that goes as far as EXEC, what it read, and where it pushes
pub record Try : Type 0 where
  pub a : ℕ
  pub b : ℕ
  pub c : ℕ
  pub d : ℕ
  pub e : ℕ
  pub f : ℕ
  pub g : ℕ
  pub entry : Bytes
  pub envelope : Bytes
  pub members : List Bytes
  pub first : ℕ × Bytes
  pub others : List (ℕ × Bytes)

-- all calls of a try that goes as far as EXEC, with the answer to that, and then the rest
abbrev pub whole_try : Setting → Side → Bytes → Try → Value → List Call → List Call
whole_try σ side t y r rest =
    reading σ t y.a y.b (Bulk y.entry) (asking σ (σ.exchange_in y.entry) y.c y.members (taking σ side t y.d y.e y.f y.g y.envelope (y.first ∷ y.others) r rest))

-- what was read and where it was pushed fit each other
abbrev pub IsTry : Setting → Bytes → Try → Type 0
IsTry σ t y = Carries σ y.entry t y.envelope × (queued_keys (y.first ∷ y.others) ≡ σ.keys_in y.entry y.members)

-- the tries of a return of t, of which n came before
pub data IsTries (σ : Setting) (side : Side) (t : Bytes) : ℕ → ReturnEnd → List Call → Type 0 where
  Missing : (n a b c : ℕ) → IsTries σ side t n Gone (reading σ t a b NullBulk (leaving c))
  Useless : (n a b c : ℕ) (u : Bytes) → ((v : Bytes) → Carries σ u t v → ⊥) → IsTries σ side t n Stayed (reading σ t a b (Bulk u) (leaving c))
  Nowhere : (n a b c d : ℕ) (u v : Bytes) (ms : List Bytes) → Carries σ u t v → σ.keys_in u ms ≡ []
      → IsTries σ side t n Stayed (reading σ t a b (Bulk u) (asking σ (σ.exchange_in u) c ms (leaving d)))
  Whole : (n : ℕ) (y : Try) (zs : List ℤ) → IsTry σ t y → IsTries σ side t n Moved (whole_try σ side t y (integers zs) [])
  Eighth : (y : Try) → IsTry σ t y → IsTries σ side t 7 Contended (whole_try σ side t y NullArray [])
  Again : (n : ℕ) (y : Try) (end : ReturnEnd) (l : List Call) → n < 7 → IsTry σ t y → IsTries σ side t (suc n) end l → IsTries σ side t n end (whole_try σ side t y NullArray l)

-- the return of t at this side, with its end
abbrev pub IsReturnBlock : Setting → Bytes → Side → ReturnEnd → List Call → Type 0
IsReturnBlock σ t side end l = (σ.is_tag t ≡ true) × IsTries σ side t 0 end l
