-- The blocks that declare bindings and publish messages.
use Rattle.std.specs.Prelude.{◌≡◌, ℕ, ℤ, Bool, true, ◌&&◌, List, [], ◌∷◌, codes, Some, None}
use Rattle.std.specs.Str.{is_utf8}
use Rattle.wire_values.specs.declared.value.Value.TheVariants.{Integer}
use Rattle.store_model.specs.Replies.{bulks}
use Rattle.queue_keys.specs.Names.{Bytes, is_name, has_length}
use Rattle.queue_keys.specs.Bindings.{member, is_part}
use Rattle.command_blocks.specs.Setting.{Setting}
use Rattle.command_blocks.specs.Calls.{Call, call}

-- SADD of a binding to its exchange's set, or SREM
pub data IsDeclareBlock (σ : Setting) (word e r x q : Bytes) : List Call → Type 0 where
  Told : (a : ℕ) (z : ℤ) → is_part e ≡ true → is_part r ≡ true → is_part x ≡ true → is_name q ≡ true
      → IsDeclareBlock σ word e r x q (call a (word ∷ σ.binding e ∷ member r x q ∷ []) (Integer z) ∷ [])

-- LPUSHes of one envelope, each with its moment, key and answer
abbrev pub direct_calls : Bytes → List (ℕ × Bytes × ℤ) → List Call
direct_calls v [] = []
direct_calls v (d ∷ ds) = call d.0 (codes "LPUSH" ∷ d.1 ∷ v ∷ []) (Integer d.2) ∷ direct_calls v ds

-- their keys
abbrev pub direct_keys : List (ℕ × Bytes × ℤ) → List Bytes
direct_keys [] = []
direct_keys (d ∷ ds) = d.1 ∷ direct_keys ds

-- the publication of the envelope v, its compact text, under the tag t, also of a retry
pub data IsPublishBlock (σ : Setting) (t v : Bytes) : List Call → Type 0 where
  -- on the empty exchange
  Plain : (a : ℕ) (k : Bytes) (z : ℤ) → σ.written_tag v ≡ Some t → σ.exchange_of v ≡ None → σ.keys_for v [] ≡ k ∷ []
      → IsPublishBlock σ t v (call a (codes "LPUSH" ∷ k ∷ v ∷ []) (Integer z) ∷ [])
  -- on an exchange with a name: its bindings are read, and the envelope goes to each queue of the lookup
  Named : (a : ℕ) (e : Bytes) (ms : List Bytes) (ds : List (ℕ × Bytes × ℤ)) → σ.written_tag v ≡ Some t → σ.exchange_of v ≡ Some e → direct_keys ds ≡ σ.keys_for v ms
      → IsPublishBlock σ t v (call a (codes "SMEMBERS" ∷ σ.binding e ∷ []) (bulks ms) ∷ direct_calls v ds)

-- whether it may be the name of an exchange that a message tells: UTF-8 of 1 to 255 bytes
abbrev pub is_exchange : Bytes → Bool
is_exchange e = has_length e && is_utf8 e

-- a publication that ended after its bindings were read, since no call then shows its routing key
pub data IsShortPublish (σ : Setting) (t : Bytes) : List Call → Type 0 where
  Asked : (a : ℕ) (e : Bytes) (ms : List Bytes) → σ.is_tag t ≡ true → is_exchange e ≡ true → IsShortPublish σ t (call a (codes "SMEMBERS" ∷ σ.binding e ∷ []) (bulks ms) ∷ [])
