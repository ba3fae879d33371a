-- Dropping what is due keeps the invariant, whatever block comes next.
use Rattle.std.proofs.Common.{◌&&◌, Bool, List, None, Option, Some, [], ap, arith, cond, false, inl, inr, not, refl, subst, sym, true, ℕ, ◌∙◌, ◌∷◌, ◌≡◌, ◌≢◌, ◌⊎◌}
use Rattle.std.specs.FinMap.{entries, get, insert}
use Rattle.wire_values.specs.Order.{bytes_cmp}
use Rattle.wire_values.specs.declared.value.Value.{Value}
use Rattle.store_model.specs.Connections.{conn}
use Rattle.store_model.specs.Keys.{Keys, due_keys, expiry_of, is_expired, is_over, live_at, value_of}
use Rattle.store_model.specs.Store.{State, answer_to, quiet, serve, set_conn, settled}
use Rattle.store_model.specs.Words.{Words, command_of}
use Rattle.store_model.specs.declared.connection.Conn.{Conn}
use Rattle.store_model.specs.declared.held.Held.{Held}
use Rattle.store_laws.proofs.Connections.{marks_kept, set_other, set_same, untouched}
use Rattle.store_laws.proofs.Live.{get-live, total-live}
use Rattle.store_laws.proofs.Maps.{conn_or, weight}
use Rattle.place_model.specs.Counts.{has_field, has_member, in_held, in_value, table_count, total}
use Rattle.place_model.specs.Histories.{SystemState}
use Rattle.queue_keys.specs.Names.{Bytes}
use Rattle.place_model.specs.Seen.{Seen, seen}
use Rattle.command_blocks.specs.Setting.{is_queue}
use Rattle.place_model.specs.Starts.{IsHashOrNone, IsListOrNone, IsScoresOrNone}
use Rattle.place_theorem.proofs.Full.{Full, Kinds}
use Rattle.place_theorem.proofs.Kept.{Inv}
use Rattle.place_theorem.proofs.Machine.{Cursor}
use Rattle.place_theorem.proofs.Safe.{Stands, touched_stands}
use Rattle.store_tables.proofs.Maps.{bytes_anti, bytes_total}

-- the world in which nothing is due
abbrev pub settle : SystemState → ℕ → SystemState
settle w at = record { store = settled w.store at; clients = w.clients }

module _ (σ : Full) (m : Keys) (at : ℕ) (ks : Kinds σ m) where
  lasting : (o : Option Held) → expiry_of o ≡ None → is_expired at o ≡ false
  lasting None e = refl
  lasting (Some h) e = ap (is_over at) e

  -- a key that doesn't expire stays
  pub get-lasting : (k : Bytes) → expiry_of (get m k) ≡ None → get (live_at at m) k ≡ get m k
  get-lasting k e = get-live bytes_cmp bytes_total bytes_anti (λ h. is_over at h.expiry) m k ∙ ap (λ b. cond (not b) (get m k) None) (lasting (get m k) e)

  light : (t q : Bytes) → is_expired at (get m q) ≡ true → weight (in_held σ.names t) q (get m q) ≡ 0
  light t q due = go (is_queue σ.names q) refl
    where
      other : (o : Option Held) → is_queue σ.names q ≡ false → weight (in_held σ.names t) q o ≡ 0
      other None e = refl
      other (Some h) e = ap (λ b. cond b (in_value σ.names t h.value) 0) e

      go : (b : Bool) → is_queue σ.names q ≡ b → weight (in_held σ.names t) q (get m q) ≡ 0
      go true e = let z = lasting (get m q) (ks.lists_last q e) in absurd (cc (due, z))
      go false e = other (get m q) e

  pub sums_kept : (t : Bytes) → total (in_held σ.names t) (entries (live_at at m)) ≡ total (in_held σ.names t) (entries m)
  sums_kept t = total-live bytes_cmp bytes_total bytes_anti (in_held σ.names t) (λ h. is_over at h.expiry) m (light t)

  pub unacked_kept : get (live_at at m) σ.names.unacked ≡ get m σ.names.unacked
  unacked_kept = get-lasting σ.names.unacked ks.table_lasts

  pub index_kept : get (live_at at m) σ.names.index ≡ get m σ.names.index
  index_kept = get-lasting σ.names.index ks.members_last

  pub kinds_kept : Kinds σ (live_at at m)
  kinds_kept = record {
    lists = λ k q. subst IsListOrNone (sym (ap value_of (get-lasting k (ks.lists_last k q)))) (ks.lists k q);
    table = subst IsHashOrNone (sym (ap value_of unacked_kept)) ks.table;
    members = subst IsScoresOrNone (sym (ap value_of index_kept)) ks.members;
    lists_last = λ k q. ap expiry_of (get-lasting k (ks.lists_last k q)) ∙ ks.lists_last k q;
    table_lasts = ap expiry_of unacked_kept ∙ ks.table_lasts;
    members_last = ap expiry_of index_kept ∙ ks.members_last;
  }

-- dropping what is due keeps the invariant
pub inv_settled : (σ : Full) (base : Bytes → ℕ) (w : SystemState) (at : ℕ) → Inv σ base w → Inv σ base (settle w at)
inv_settled σ base w at inv =
    let u = unacked_kept σ w.store.keys at inv.kinds in
    let i = index_kept σ w.store.keys at inv.kinds in
    record {
      kinds = kinds_kept σ w.store.keys at inv.kinds;
      alike = λ t. ap (λ o. has_field (value_of o) t) u ∙ inv.alike t ∙ sym (ap (λ o. has_member (value_of o) t) i);
      clients = λ c cl cur is runs r live.
          let ok = inv.clients c cl cur is runs r live in
          touched_stands σ w.store (settled w.store at) (due_keys at (entries w.store.keys)) c cur (seen σ.names cl.calls) (seen σ.names cl.calls) (inr u) (marks_kept (due_keys at (entries w.store.keys)) w.store.conns w.store.conns c (untouched (conn w.store.conns c))) ok.is ok;
      placed = λ t one no_copy.
          let all = inv.placed t one no_copy in
          let l = sums_kept σ w.store.keys at inv.kinds t in
          let b : table_count σ.names (settle w at).store.keys t ≡ table_count σ.names w.store.keys t = λ j. cond (has_field (value_of (u j)) t && has_member (value_of (i j)) t) 1 0 in
          omega (arith, all, l, b);
    }

-- ---- pending messages are told first

-- the state in which the pending messages of a connection were told
abbrev pub quieted : State → ℕ → State
quieted s c = quiet s c (conn s.conns c) (conn s.conns c).pending

-- the world in which a connection was told its messages
abbrev pub hush : SystemState → ℕ → SystemState
hush w c = record { store = quieted w.store c; clients = w.clients }

-- the connection with no pending messages
abbrev told_of : Conn → Conn
told_of cn = record cn { pending = [] }

told_conn : (s : State) (c : ℕ) → conn (insert s.conns c (told_of (conn s.conns c))) c ≡ told_of (conn s.conns c)
told_conn s c = set_same s.conns c (told_of (conn s.conns c))

told_stands : (σ : Full) (s : State) (c d : ℕ) (cur : Cursor) (sn : Seen) → Stands σ s d cur sn → (d ≡ c) ⊎ (d ≢ c) → Stands σ (set_conn s c (told_of (conn s.conns c))) d cur sn
told_stands σ s c d cur sn ok (inl e) = record {
  marked = ok.marked;
  channels = ok.channels;
  pending = [];
  mine = ap (conn (insert s.conns c (told_of (conn s.conns c)))) e ∙ told_conn s c ∙ ap (λ x. told_of (conn s.conns x)) (sym e) ∙ ap told_of ok.mine;
  mark_ok = ok.mark_ok;
  talk_ok = ok.talk_ok;
  is = ok.is;
}
told_stands σ s c d cur sn ok (inr n) = record {
  marked = ok.marked;
  channels = ok.channels;
  pending = ok.pending;
  mine = set_other s.conns c (told_of (conn s.conns c)) d n ∙ ok.mine;
  mark_ok = ok.mark_ok;
  talk_ok = ok.talk_ok;
  is = ok.is;
}

-- telling them keeps the invariant
pub inv_hushed : (σ : Full) (base : Bytes → ℕ) (w : SystemState) (c : ℕ) → Inv σ base w → Inv σ base (hush w c)
inv_hushed σ base w c inv = go (conn w.store.conns c).pending
  where
    go : (ms : List Value) → Inv σ base (record { store = quiet w.store c (conn w.store.conns c) ms; clients = w.clients })
    go [] = inv
    go (x ∷ xs) = record {
      kinds = inv.kinds;
      alike = inv.alike;
      clients = λ d dl cur is runs r live. told_stands σ w.store c d cur (seen σ.names dl.calls) (inv.clients d dl cur is runs r live) (conn_or d c);
      placed = inv.placed;
    }

-- ---- a call is served after that

-- the state after a call
pub state_is : (at : ℕ) (s : State) (c : ℕ) (words : Words) → (answer_to at s c words).0 ≡ (serve at (quieted s c) c (command_of words) (conn (quieted s c).conns c)).0
unfolding answer_to
state_is at s c words = refl

-- and its answer
pub answer_is : (at : ℕ) (s : State) (c : ℕ) (words : Words) → (answer_to at s c words).1.answer ≡ (serve at (quieted s c) c (command_of words) (conn (quieted s c).conns c)).1
unfolding answer_to
answer_is at s c words = refl
