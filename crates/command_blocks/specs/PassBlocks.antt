-- The block that restores the messages that have stood in the table for long.
use Rattle.std.specs.Prelude.{◌≡◌, ◌⊎◌, ℕ, true, List, [], ◌∷◌, ◌++◌, codes, if◌then◌else◌}
use Rattle.wire_values.specs.declared.value.Value.{Value}
use Rattle.wire_values.specs.declared.value.Value.TheVariants.{Bulk, NullBulk, Array, NullArray}
use Rattle.store_model.specs.Words.{Words}
use Rattle.store_model.specs.Replies.{done, queued, bulks}
use Rattle.queue_keys.specs.Names.{Bytes}
use Rattle.queue_keys.specs.Texts.{difference}
use Rattle.command_blocks.specs.Setting.{Setting}
use Rattle.command_blocks.specs.Calls.{Call, call}
use Rattle.command_blocks.specs.ReturnBlocks.{ReturnEnd, Contended, goes_on, leaving, IsTries}
use Rattle.command_blocks.specs.declared.side.Side.TheVariants.{Right}

-- how a pass ends
pub data PassEnd : Type 0 where
  Held : PassEnd  -- another pass has the mutex
  Stuck : Bytes → PassEnd  -- the return of this tag was contended
  Done : List ReturnEnd → PassEnd  -- with the ends of its returns, in order

-- the returns of these tags, with their ends, as far as they go
pub data IsReturns (σ : Setting) : List Bytes → PassEnd → List Call → Type 0 where
  All_returned : IsReturns σ [] (Done []) []
  Returned : (t : Bytes) (ts : List Bytes) (end : ReturnEnd) (ends : List ReturnEnd) (l l' : List Call)
      → IsTries σ Right t 0 end l → goes_on end ≡ true → IsReturns σ ts (Done ends) l' → IsReturns σ (t ∷ ts) (Done (end ∷ ends)) (l ++ l')
  Returned_until : (t : Bytes) (ts : List Bytes) (end : ReturnEnd) (stuck : Bytes) (l l' : List Call)
      → IsTries σ Right t 0 end l → goes_on end ≡ true → IsReturns σ ts (Stuck stuck) l' → IsReturns σ (t ∷ ts) (Stuck stuck) (l ++ l')
  Ended_early : (t : Bytes) (ts : List Bytes) (l : List Call) → IsTries σ Right t 0 Contended l → IsReturns σ (t ∷ ts) (Stuck t) l

-- how a pass lets go of the mutex: its own, or another's or none
pub data IsRelease (σ : Setting) (token : Bytes) : List Call → Type 0 where
  Own : (a b c d e : ℕ) (r : Value) → ((rs : List Value) × (r ≡ Array rs)) ⊎ (r ≡ NullArray) → IsRelease σ token (
      call a (codes "WATCH" ∷ σ.mutex ∷ []) done
      ∷ call b (codes "GET" ∷ σ.mutex ∷ []) (Bulk token)
      ∷ call c (codes "MULTI" ∷ []) done
      ∷ call d (codes "DEL" ∷ σ.mutex ∷ []) queued
      ∷ call e (codes "EXEC" ∷ []) r
      ∷ [])
  Foreign : (a b c : ℕ) (r : Value) → ((u : Bytes) × (r ≡ Bulk u) × (u ≡ token → ⊥)) ⊎ (r ≡ NullBulk) → IsRelease σ token (
      call a (codes "WATCH" ∷ σ.mutex ∷ []) done
      ∷ call b (codes "GET" ∷ σ.mutex ∷ []) r
      ∷ leaving c)

-- those of the texts that are tags
abbrev pub tags_among : Setting → List Bytes → List Bytes
tags_among σ [] = []
tags_among σ (x ∷ xs) = if σ.is_tag x then x ∷ tags_among σ xs else tags_among σ xs

-- the mutex is taken for 300 seconds, where nobody has it
abbrev pub lock_words : Setting → Bytes → Words
lock_words σ token = codes "SET" ∷ σ.mutex ∷ token ∷ codes "NX" ∷ codes "EX" ∷ codes "300" ∷ []

-- of the members of the index that were taken at least v seconds before this moment the ten youngest: the store gives the highest scores first
abbrev pub due_words : Setting → ℕ → ℕ → Words
due_words σ at v = codes "ZREVRANGEBYSCORE" ∷ σ.index ∷ difference at v ∷ codes "0" ∷ codes "LIMIT" ∷ codes "0" ∷ codes "10" ∷ []

-- a pass under this token over the messages of v seconds, with its end
pub data IsPassBlock (σ : Setting) (token : Bytes) (v : ℕ) : PassEnd → List Call → Type 0 where
  Is_held : (a : ℕ) → IsPassBlock σ token v Held (call a (lock_words σ token) NullBulk ∷ [])
  Ran : (a b : ℕ) (ms : List Bytes) (end : PassEnd) (l l' : List Call) → IsReturns σ (tags_among σ ms) end l → IsRelease σ token l'
      → IsPassBlock σ token v end (call a (lock_words σ token) done ∷ call b (due_words σ b v) (bulks ms) ∷ l ++ l')
