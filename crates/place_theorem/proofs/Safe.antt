-- What a call keeps, whatever block it is of, and where its client then stands.
use Rattle.std.proofs.Common.{◌&&◌, ◌+◌, Bool, List, None, Option, Some, [], ap, arith, false, if◌then◌else◌, inl, inr, refl, subst, sym, true, ◌||◌, ℕ, ℤ, ◌∙◌, ◌∷◌, ◌≡◌, ◌≢◌, ◌≤◌, ◌⊎◌}
use Rattle.std.specs.FinMap.{get}
use Rattle.wire_values.specs.Order.{bytes_cmp}
use Rattle.wire_values.specs.declared.value.Value.{Value}
use Rattle.store_model.specs.Commands.{Around, run}
use Rattle.store_model.specs.Connections.{around, conn, hit}
use Rattle.store_model.specs.Keys.{Keys, expiry_of, value_at, value_of}
use Rattle.store_model.specs.Lists.{brpop, brpop_at}
use Rattle.store_model.specs.Store.{State, run_one, set_conn}
use Rattle.store_model.specs.Words.{final}
use Rattle.store_model.specs.declared.command.Command.{Command}
use Rattle.store_model.specs.declared.command.Command.TheVariants.{Brpop, Exec, Lpush}
use Rattle.store_model.specs.declared.connection.Conn.{Conn}
use Rattle.store_model.specs.declared.connection.Queue.{Queue}
use Rattle.store_model.specs.declared.held.Held.{Held}
use Rattle.store_model.specs.declared.held.Stored.{Stored}
use Rattle.store_model.specs.declared.held.Stored.TheVariants.{Items}
use Rattle.store_laws.proofs.Connections.{conn_is, hit_none, run_one_conns, set_kept, set_same, untouched}
use Rattle.store_laws.proofs.Law.{ToldBy, altering, framed}
use Rattle.store_laws.proofs.Live.{total-same}
use Rattle.store_laws.proofs.Maps.{weight}
use Rattle.store_laws.specs.Laws.{IsTouched}
use Rattle.command_blocks.specs.Answers.{number_of, pair_of}
use Rattle.place_model.specs.Counts.{copy_one, count, end_one, table_entry, field_of, has_field, has_member, in_held, in_value, list_count, sum_of, table_count}
use Rattle.queue_keys.specs.Names.{Bytes, same}
use Rattle.queue_keys.specs.QueueKeys.{IsAway}
use Rattle.place_model.specs.Seen.{Seen, hand_by, hand_from, push_by, push_with, ran_by, seen, seen_by, tag_list, tag_weight}
use Rattle.command_blocks.specs.Setting.{IsApart, is_queue}
use Rattle.place_model.specs.Starts.{IsHashOrNone, IsListOrNone, IsScoresOrNone}
use Rattle.place_theorem.proofs.Full.{Alike, Full, Kinds}
use Rattle.place_theorem.proofs.Machine.{AllApart, At, Cursor, Halted, Idle, IsAside, Live}
use Rattle.place_theorem.proofs.Values.{itself, pair_of-Error, pair_of-NullArray, pair_of-pair}
use Rattle.store_tables.proofs.Maps.{bytes_anti, bytes_total}

-- ---- where a client stands

-- a whole queue with these commands
abbrev pub queue_of : Option (List Command) → Option Queue
queue_of None = None
queue_of (Some cs) = Some (record { commands = cs; broken = false })

-- the queue at a cursor
abbrev pub queue_in : Cursor → Option Queue
queue_in (At q w h r) = queue_of q
queue_in Halted = None

-- the watched keys there
abbrev pub watched_in : Cursor → List Bytes
watched_in (At q w h r) = w
watched_in Halted = []

-- the tag of what is in hand
abbrev pub tag_held : Option (Bytes × Bytes) → Option Bytes
tag_held None = None
tag_held (Some h) = Some h.0

-- the tag in hand at a cursor
abbrev pub hand_in : Cursor → Option Bytes
hand_in (At q w h r) = tag_held h
hand_in Halted = None

-- what is in hand there
abbrev pub held_in : Cursor → Option (Bytes × Bytes)
held_in (At q w h r) = h
held_in Halted = None

-- what was read there
abbrev pub read_in : Cursor → Option (Bytes × Bytes × Option Value)
read_in (At q w h r) = r
read_in Halted = None

-- the connection there, with its mark, channels and pending messages
abbrev pub conn_in : Cursor → Bool → List Bytes → List Value → Conn
conn_in cur b ch ms = record { queue = queue_in cur; watched = watched_in cur; marked = b; channels = ch; pending = ms }

-- where an entry was read and its reader isn't marked, the table still has that entry
abbrev pub ReadOk : Full → Option (Bytes × Bytes × Option Value) → List Bytes → Keys → Bool → Type 0
ReadOk σ None w m b = Unit {0}
ReadOk σ (Some r) w m b = (w ≡ σ.names.unacked ∷ []) × (b ≡ false → table_entry σ.names m r.0 ≡ Some r.1)

-- the mark: only who watches has it
pub record MarkOk (σ : Full) (cur : Cursor) (m : Keys) (b : Bool) : Type 0 where
  pub free : watched_in cur ≡ [] → b ≡ false
  pub held : ReadOk σ (read_in cur) (watched_in cur) m b

-- the commands since MULTI are those of the queue
abbrev pub SinceIs : Option Queue → List Command → Type 0
SinceIs None cs = Unit {0}
SinceIs (Some q) cs = cs ≡ q.commands

-- what was answered to SMEMBERS since the entry was read
abbrev pub AskedIs : Option (Bytes × Bytes × Option Value) → Value → Type 0
AskedIs None x = Unit {0}
AskedIs (Some (t, u, None)) x = Unit {0}
AskedIs (Some (t, u, Some a)) x = x ≡ a

-- what is read off the calls is what the cursor says
pub record SeenIs (cur : Cursor) (sn : Seen) : Type 0 where
  pub hand : sn.hand ≡ hand_in cur
  pub since : SinceIs (queue_in cur) sn.since
  pub asked : AskedIs (read_in cur) sn.asked

-- the connection is as the client's place in its block says, and so are its calls
pub record Stands (σ : Full) (s : State) (c : ℕ) (cur : Cursor) (sn : Seen) : Type 0 where
  pub marked : Bool
  pub channels : List Bytes
  pub pending : List Value
  pub mine : conn s.conns c ≡ conn_in cur marked channels pending
  pub mark_ok : MarkOk σ cur s.keys marked
  pub talk_ok : (channels ≡ []) ⊎ (cur ≡ Idle)
  pub is : SeenIs cur sn

-- ---- what a call leaves

-- how often a tag stands in lists
abbrev pub lists_of : Full → Keys → Bytes → ℕ
lists_of σ m t = list_count σ.names m t

-- 1 where it is in the table
abbrev pub table_of : Full → Keys → Bytes → ℕ
table_of σ m t = table_count σ.names m t

-- what a call of connection c with this command and reply leaves, whatever block it is of
pub record Safe (σ : Full) (s s' : State) (c : ℕ) (sn : Seen) (cm : Command) (reply : Value) : Type 0 where
  pub kinds : Kinds σ s'.keys
  pub alike : Alike σ s'.keys
  pub altered : List Bytes
  pub told : ToldBy s.keys σ.names.unacked altered s'.keys
  pub others : (d : ℕ) → d ≢ c → IsTouched altered (conn s.conns d) (conn s'.conns d)
  pub moves : (t : Bytes) → table_of σ s.keys t + tag_weight t sn.hand ≤ 1 → sum_of (copy_one σ.names t) (ran_by sn.since cm reply) ≡ 0
      → lists_of σ s'.keys t + table_of σ s'.keys t + tag_weight t (hand_by σ.names sn.hand cm reply) + sum_of (end_one σ.names t) (ran_by sn.since cm reply)
      ≡ lists_of σ s.keys t + table_of σ s.keys t + tag_weight t sn.hand + count t (push_by σ.names cm reply)

-- the call is safe, and its client lands where the machine says
pub record Effect (σ : Full) (s s' : State) (c : ℕ) (to : Cursor) (sn : Seen) (cm : Command) (reply : Value) : Type 0 where
  pub safe : Safe σ s s' c sn cm reply
  pub lands : Live to → Stands σ s' c to (seen_by σ.names sn cm reply)

-- the call shows nothing that is counted
pub record Quiet (σ : Full) (sn : Seen) (cm : Command) (reply : Value) : Type 0 where
  pub hand : hand_by σ.names sn.hand cm reply ≡ sn.hand
  pub ran : ran_by sn.since cm reply ≡ []
  pub pushes : push_by σ.names cm reply ≡ []

-- ---- marks

or_left_false : (a b : Bool) → (a || b) ≡ false → a ≡ false
or_left_false true b e = e
or_left_false false b e = refl

or_right_false : (a b : Bool) → (a || b) ≡ false → b ≡ false
or_right_false true b e = absurd (cc e)
or_right_false false b e = e

read_kept : (σ : Full) (r : Option (Bytes × Bytes × Option Value)) (w : List Bytes) (m m' : Keys) (b : Bool) (ks : List Bytes) → ToldBy m σ.names.unacked ks m' → ReadOk σ r w m b → ReadOk σ r w m' (b || hit ks w)
read_kept σ None w m m' b ks told ok = tt
read_kept σ (Some r) w m m' b ks told ok = (ok.0, λ not_yet. go told not_yet)
  where
    go : ToldBy m σ.names.unacked ks m' → (b || hit ks w) ≡ false → table_entry σ.names m' r.0 ≡ Some r.1
    go (inl h) not_yet = let z : hit ks (σ.names.unacked ∷ []) ≡ false = subst (λ x. hit ks x ≡ false) ok.0 (or_right_false b _ not_yet) in absurd (cc (h, z))
    go (inr e) not_yet = ap (λ o. field_of (value_of o) r.0) e ∙ ok.1 (or_left_false b _ not_yet)

-- marks stay right where keys are altered
pub mark_kept : (σ : Full) (cur : Cursor) (m m' : Keys) (b : Bool) (ks : List Bytes) → ToldBy m σ.names.unacked ks m' → MarkOk σ cur m b → MarkOk σ cur m' (b || hit ks (watched_in cur))
mark_kept σ cur m m' b ks told ok = record {
  free = λ e. (λ i. ok.free e i || hit ks (e i)) ∙ hit_none ks;
  held = read_kept σ (read_in cur) (watched_in cur) m m' b ks told ok.held;
}

-- a connection that was what a cursor says, and was touched
pub touched_is : (cur : Cursor) (ks : List Bytes) (b : Bool) (ch : List Bytes) (ms : List Value) (cn cn' : Conn) → cn ≡ conn_in cur b ch ms → IsTouched ks cn cn' → cn' ≡ conn_in cur (b || hit ks (watched_in cur)) ch cn'.pending
touched_is cur ks b ch ms cn cn' e t =
    conn_is cn' (queue_in cur) (watched_in cur) (b || hit ks (watched_in cur)) ch
    (t.queue ∙ ap (λ x. x.queue) e) (t.watched ∙ ap (λ x. x.watched) e) (t.marked ∙ ap (λ x. x.marked || hit ks x.watched) e) (t.channels ∙ ap (λ x. x.channels) e)

-- who isn't the caller, or is and only has its mark touched
abbrev pub touched_stands : (σ : Full) (s s' : State) (ks : List Bytes) (d : ℕ) (cur : Cursor) (sn sn' : Seen) → ToldBy s.keys σ.names.unacked ks s'.keys → IsTouched ks (conn s.conns d) (conn s'.conns d) → SeenIs cur sn' → Stands σ s d cur sn → Stands σ s' d cur sn'
touched_stands σ s s' ks d cur sn sn' told t seen ok = record {
  marked = ok.marked || hit ks (watched_in cur);
  channels = ok.channels;
  pending = (conn s'.conns d).pending;
  mine = touched_is cur ks ok.marked ok.channels ok.pending (conn s.conns d) (conn s'.conns d) ok.mine t;
  mark_ok = mark_kept σ cur s.keys s'.keys ok.marked ks told ok.mark_ok;
  talk_ok = ok.talk_ok;
  is = seen;
}

-- ---- the keys that the places are read from

-- a key that places are read from
abbrev pub IsOurs : Full → Bytes → Type 0
IsOurs σ k = (is_queue σ.names k ≡ true) ⊎ ((k ≡ σ.names.unacked) ⊎ (k ≡ σ.names.index))

-- these keys are the same
abbrev pub SameOurs : Full → Keys → Keys → Type 0
SameOurs σ m m' = (k : Bytes) → IsOurs σ k → get m' k ≡ get m k

apart_not : (σ : Full) (k a : Bytes) → IsOurs σ k → IsApart σ.names a → k ≢ a
apart_not σ k a (inl q) far e = let z : is_queue σ.names a ≡ true = subst (λ x. is_queue σ.names x ≡ true) e q in cc (z, far.0)
apart_not σ k a (inr (inl u)) far e = let z : same σ.names.unacked a ≡ true = subst (λ x. same σ.names.unacked x ≡ true) (sym u ∙ e) (itself σ.names.unacked) in cc (z, far.1)
apart_not σ k a (inr (inr i)) far e = let z : same σ.names.index a ≡ true = subst (λ x. same σ.names.index x ≡ true) (sym i ∙ e) (itself σ.names.index) in cc (z, far.2)

apart_away : (σ : Full) (k : Bytes) (ks : List Bytes) → IsOurs σ k → AllApart σ ks → IsAway k ks
apart_away σ k [] ours far = tt
apart_away σ k (a ∷ ks) ours far = (apart_not σ k a ours far.0, apart_away σ k ks ours far.1)

-- a command whose keys are all apart
pub far_same : (σ : Full) (e : Around) (m : Keys) (cm : Command) → AllApart σ (altering cm) → SameOurs σ m (run e m cm).keys
far_same σ e m cm far k ours = (framed e m cm).away k (apart_away σ k (altering cm) ours far)

module _ (σ : Full) (m m' : Keys) (same : SameOurs σ m m') where
  unacked_same : get m' σ.names.unacked ≡ get m σ.names.unacked
  unacked_same = same σ.names.unacked (inr (inl refl))

  index_same : get m' σ.names.index ≡ get m σ.names.index
  index_same = same σ.names.index (inr (inr refl))

  pub kinds_elsewhere : Kinds σ m → Kinds σ m'
  kinds_elsewhere ks = record {
    lists = λ k q. subst IsListOrNone (sym (ap value_of (same k (inl q)))) (ks.lists k q);
    table = subst IsHashOrNone (sym (ap value_of unacked_same)) ks.table;
    members = subst IsScoresOrNone (sym (ap value_of index_same)) ks.members;
    lists_last = λ k q. ap expiry_of (same k (inl q)) ∙ ks.lists_last k q;
    table_lasts = ap expiry_of unacked_same ∙ ks.table_lasts;
    members_last = ap expiry_of index_same ∙ ks.members_last;
  }

  pub alike_elsewhere : Alike σ m → Alike σ m'
  alike_elsewhere a t = ap (λ o. has_field (value_of o) t) unacked_same ∙ a t ∙ sym (ap (λ o. has_member (value_of o) t) index_same)

  pub table_elsewhere : (t : Bytes) → table_of σ m' t ≡ table_of σ m t
  table_elsewhere t = λ j. if has_field (value_of (unacked_same j)) t && has_member (value_of (index_same j)) t then 1 else 0

  pub lists_elsewhere : (t : Bytes) → lists_of σ m' t ≡ lists_of σ m t
  lists_elsewhere t = total-same bytes_cmp bytes_total bytes_anti (in_held σ.names t) m' m (λ q. go q (is_queue σ.names q) refl)
    where
      none : (q : Bytes) (o : Option Held) → is_queue σ.names q ≡ false → weight (in_held σ.names t) q o ≡ 0
      none q None e = refl
      none q (Some h) e = ap (λ b. if b then in_value σ.names t h.value else 0) e

      go : (q : Bytes) (b : Bool) → is_queue σ.names q ≡ b → weight (in_held σ.names t) q (get m' q) ≡ weight (in_held σ.names t) q (get m q)
      go q true e = ap (weight (in_held σ.names t) q) (same q (inl e))
      go q false e = none q (get m' q) e ∙ sym (none q (get m q) e)

-- ---- calls that show nothing

module _ (σ : Full) (s : State) (c : ℕ) (sn : Seen) (kinds : Kinds σ s.keys) (alike : Alike σ s.keys) where
  -- the state is the same but for keys that aren't ours and for this connection
  pub quiet_safe : (s' : State) (ks : List Bytes) (cm : Command) (reply : Value) → SameOurs σ s.keys s'.keys → ToldBy s.keys σ.names.unacked ks s'.keys → ((d : ℕ) → d ≢ c → IsTouched ks (conn s.conns d) (conn s'.conns d))
      → Quiet σ sn cm reply → Safe σ s s' c sn cm reply
  quiet_safe s' ks cm reply same told others q = record {
    kinds = kinds_elsewhere σ s.keys s'.keys same kinds;
    alike = alike_elsewhere σ s.keys s'.keys same alike;
    altered = ks;
    told = told;
    others = others;
    moves = λ x le one.
        let l = lists_elsewhere σ s.keys s'.keys same x in
        let w = table_elsewhere σ s.keys s'.keys same x in
        let a : tag_weight x (hand_by σ.names sn.hand cm reply) ≡ tag_weight x sn.hand = ap (tag_weight x) q.hand in
        let e : sum_of (end_one σ.names x) (ran_by sn.since cm reply) ≡ 0 = ap (sum_of (end_one σ.names x)) q.ran in
        let d : count x (push_by σ.names cm reply) ≡ 0 = ap (count x) q.pushes in
        omega (arith, l, w, a, e, d);
  }

  -- what only sets the connection
  pub set_safe : (cn : Conn) (cm : Command) (reply : Value) → Quiet σ sn cm reply → Safe σ s (set_conn s c cn) c sn cm reply
  set_safe cn cm reply q = quiet_safe (set_conn s c cn) [] cm reply (λ k o. refl) (inr refl) (λ d ne. set_kept s.conns c cn d ne) q

  -- what changes nothing
  pub same_safe : (cm : Command) (reply : Value) → Quiet σ sn cm reply → Safe σ s s c sn cm reply
  same_safe cm reply q = quiet_safe s [] cm reply (λ k o. refl) (inr refl) (λ d ne. untouched (conn s.conns d)) q

  -- a command that alters none of our keys
  pub far_safe : (at : ℕ) (cm : Command) (reply : Value) → AllApart σ (altering cm) → Quiet σ sn cm reply → Safe σ s (run_one at s cm).0 c sn cm reply
  far_safe at cm reply far q = quiet_safe _ (run (around at s.conns) s.keys cm).altered cm reply (far_same σ (around at s.conns) s.keys cm far) ((framed (around at s.conns) s.keys cm).told σ.names.unacked) (λ d ne. run_one_conns at s cm d) q

  pub set_stands : (to : Cursor) (b : Bool) (ch : List Bytes) (ms : List Value) (sn' : Seen) → MarkOk σ to s.keys b → (ch ≡ []) ⊎ (to ≡ Idle) → SeenIs to sn' → Stands σ (set_conn s c (conn_in to b ch ms)) c to sn'
  set_stands to b ch ms sn' mark talk is = record { marked = b; channels = ch; pending = ms; mine = set_same s.conns c (conn_in to b ch ms); mark_ok = mark; talk_ok = talk; is = is }

brpop_apart : (σ : Full) (m : Keys) (old : Option Bytes) (ks : List Bytes) → AllApart σ ks → hand_from σ.names old (pair_of (brpop m ks).answer) ≡ old
brpop_apart σ m old [] far = ap (hand_from σ.names old) pair_of-NullArray
brpop_apart σ m old (k ∷ ks) far = go (value_at m k) (brpop_apart σ m old ks far.1)
  where
    go : (o : Option Stored) → hand_from σ.names old (pair_of (brpop m ks).answer) ≡ old → hand_from σ.names old (pair_of (brpop_at m k o (brpop m ks)).answer) ≡ old
    go None later = later
    go (Some (Items [])) later = later
    go (Some (Items (x ∷ xs))) later = ap (hand_from σ.names old) (pair_of-pair k (final x xs)) ∙ ap (λ b. if b then σ.names.tag_of (final x xs) else old) far.0.0
    go (Some other) later = ap (hand_from σ.names old) (pair_of-Error _)

push_apart : (σ : Full) (k v : Bytes) (o : Option ℤ) → IsApart σ.names k → push_with σ.names k v o ≡ []
push_apart σ k v None far = refl
push_apart σ k v (Some n) far = ap (λ b. if b then tag_list (σ.names.tag_of v) else []) far.0

-- a command aside shows nothing that is counted
pub aside_quiet : (σ : Full) (e : Around) (m : Keys) (sn : Seen) (cm : Command) (reply : Value) → IsAside σ cm → reply ≡ (run e m cm).answer → Quiet σ sn cm reply
aside_quiet σ e m sn (Lpush k (v ∷ [])) reply far is = record { hand = refl; ran = refl; pushes = push_apart σ k v (number_of reply) far.0.0 }
aside_quiet σ e m sn (Brpop ks) reply far is = record { hand = ap (λ r. hand_from σ.names sn.hand (pair_of r)) is ∙ brpop_apart σ m sn.hand ks far.0; ran = refl; pushes = refl }
aside_quiet σ e m sn Exec reply far is = absurd (cc far.1)
aside_quiet σ e m sn other reply far is = record { hand = refl; ran = refl; pushes = refl }
