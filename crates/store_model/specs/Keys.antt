-- The keys with what they hold, and what a command leaves of them.
use Rattle.std.specs.Prelude.{ℕ, zero, suc, ◌+◌, Bool, false, not, List, [], ◌∷◌, length, is_some, nat_le, nat_lt, Option, None, Some, if◌then◌else◌}
use Rattle.std.specs.FinMap.{FinMap, get, insert, remove, retain_keys}
use Rattle.wire_values.specs.Order.{bytes_cmp}
use Rattle.wire_values.specs.declared.value.Value.{Value}
use Rattle.store_model.specs.Words.{Bytes}
use Rattle.store_model.specs.Limits.{member_limit}
use Rattle.store_model.specs.Replies.{number}
use Rattle.store_model.specs.declared.held.Stored.{Stored}
use Rattle.store_model.specs.declared.held.Held.{Held}

-- the keys with what they hold
abbrev pub Keys : Type 0
Keys = FinMap bytes_cmp Held

-- the value, if there is one
abbrev pub value_of : Option Held → Option Stored
value_of None = None
value_of (Some h) = Some h.value

-- the expiry, if there is one
abbrev pub expiry_of : Option Held → Option ℕ
expiry_of None = None
expiry_of (Some h) = h.expiry

-- the value of a key
abbrev pub value_at : Keys → Bytes → Option Stored
value_at m k = value_of (get m k)

-- a write keeps the key's expiry
abbrev pub put : Keys → Bytes → Stored → Keys
put m k v = insert m k (record { value = v; expiry = expiry_of (get m k) })

-- what a command leaves: the keys, those that it altered, and its answer
pub record CommandOutcome : Type 0 where
  pub keys : Keys
  pub altered : List Bytes
  pub answer : Value

-- an outcome, written short
abbrev pub out : Keys → List Bytes → Value → CommandOutcome
out m ks a = record { keys = m; altered = ks; answer = a }

-- a member or a field has at most 1,024 bytes
abbrev pub is_long : Bytes → Bool
is_long x = nat_lt member_limit (length x)

-- without these members or fields, and how many of them were there
abbrev pub taken_out : {X : Type 0} → FinMap bytes_cmp X → List Bytes → FinMap bytes_cmp X × ℕ
taken_out h [] = (h, 0)
taken_out h (x ∷ xs) = let r = taken_out (remove h x) xs in (r.0, (if is_some (get h x) then 1 else 0) + r.1)

-- an emptied set, hash or sorted set is gone with its expiry
abbrev pub kept : Keys → Bytes → Stored → ℕ → Keys
kept m k v n = elim n [ zero ↦ remove m k | suc p ↦ put m k v ]

-- what SREM, HDEL and ZREM leave: where nothing was taken out nothing changes
abbrev pub after_taking : Keys → Bytes → Stored → ℕ → ℕ → CommandOutcome
after_taking m k v n zero = out m [] (number 0)
after_taking m k v n (suc p) = out (kept m k v n) (k ∷ []) (number (suc p))

-- DEL: without these keys, and which of them were there
abbrev pub dropped : Keys → List Bytes → Keys × List Bytes
dropped m [] = (m, [])
dropped m (k ∷ ks) = let r = dropped (remove m k) ks in (r.0, (if is_some (get m k) then k ∷ r.1 else r.1))

-- EXPIRE, by what the key holds: it lasts until this moment
abbrev pub expire : Keys → Bytes → ℕ → Option Held → CommandOutcome
expire m k e None = out m [] (number 0)
expire m k e (Some h) = out (insert m k (record { value = h.value; expiry = Some e })) (k ∷ []) (number 1)

-- the moment reaches the expiry
abbrev pub is_over : ℕ → Option ℕ → Bool
is_over at None = false
is_over at (Some e) = nat_le e at

-- what is held is gone at this moment
abbrev pub is_expired : ℕ → Option Held → Bool
is_expired at None = false
is_expired at (Some h) = is_over at h.expiry

-- the keys whose expiry is reached
abbrev pub due_keys : ℕ → List (Bytes × Held) → List Bytes
due_keys at [] = []
due_keys at (e ∷ es) = if is_over at e.1.expiry then e.0 ∷ due_keys at es else due_keys at es

-- the keys without those that are due
abbrev pub live_at : ℕ → Keys → Keys
live_at at m = retain_keys m (λ k. not (is_expired at (get m k)))
