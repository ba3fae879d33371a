-- The cursor on a few calls, computed.
use Rattle.std.proofs.Common.{◌≡◌, [], ◌∷◌, refl, codes, Option}
use Rattle.std.specs.Prelude.{pos}
use Rattle.wire_values.specs.Layer.{layer}
use Rattle.wire_values.specs.declared.value.Value.TheVariants.{Integer}
use Rattle.store_model.specs.Replies.{done, queued}
use Rattle.queue_keys.specs.Names.{Bytes}
use Rattle.command_blocks.specs.Setting.{Setting}
use Rattle.command_blocks.specs.Calls.{call}
use Rattle.manner_laws.specs.Spots.{Free, End_begun}
use Rattle.manner_laws.specs.Cursor.{start_ask, neutral_ask, At, Unlisted, Unmannered, cursor_of}

-- PING begins and ends a block
pinged : (σ : Setting) (exchange_at : Bytes → Option Bytes) → cursor_of σ exchange_at 7 (call 0 (codes "PING" ∷ []) done ∷ []) ≡ At (Free 0 0)
unfolding layer start_ask neutral_ask
pinged σ exchange_at = refl

-- MULTI begins an end
begun : (σ : Setting) (exchange_at : Bytes → Option Bytes) → cursor_of σ exchange_at 7 (call 0 (codes "MULTI" ∷ []) done ∷ []) ≡ At (End_begun 0 0)
unfolding layer start_ask
begun σ exchange_at = refl

-- its answer is OK and no other
unlisted : (σ : Setting) (exchange_at : Bytes → Option Bytes) → cursor_of σ exchange_at 7 (call 0 (codes "MULTI" ∷ []) queued ∷ []) ≡ Unlisted
unfolding layer start_ask
unlisted σ exchange_at = refl

-- and nothing may follow another
followed : (σ : Setting) (exchange_at : Bytes → Option Bytes) → cursor_of σ exchange_at 7 (call 0 (codes "MULTI" ∷ []) queued ∷ call 0 (codes "PING" ∷ []) done ∷ []) ≡ Unmannered
unfolding layer start_ask
followed σ exchange_at = refl

-- a client never deletes a key at a block's start
deleted : (σ : Setting) (exchange_at : Bytes → Option Bytes) (k : Bytes) → cursor_of σ exchange_at 7 (call 0 (codes "DEL" ∷ k ∷ []) (Integer (pos 1)) ∷ []) ≡ Unmannered
unfolding start_ask neutral_ask
deleted σ exchange_at k = refl
