-- What a transaction that runs does: no message is lost or doubled.
use Rattle.std.proofs.Common.{◌&&◌, ◌+◌, Bool, List, None, Some, [], ap, arith, cond, false, inl, inr, pos, refl, subst, suc, sym, true, zero, ◌||◌, ℕ, ℤ, ◌∙◌, ◌∷◌, ◌≡◌, ◌≢◌, ◌≤◌, ◌⊎◌}
use Rattle.std.specs.FinMap.{insert}
use Rattle.wire_values.specs.declared.value.Value.{Value}
use Rattle.wire_values.specs.declared.value.Value.TheVariants.{Array}
use Rattle.store_model.specs.Commands.{Around, run}
use Rattle.store_model.specs.Connections.{Conns, around, conn, hit, posted}
use Rattle.store_model.specs.Keys.{Keys, is_long, value_at, value_of}
use Rattle.store_model.specs.Replies.{number}
use Rattle.store_model.specs.Store.{State, run_all, run_queue, set_conn}
use Rattle.store_model.specs.declared.command.Command.{Command}
use Rattle.store_model.specs.declared.command.Command.TheVariants.{Del, Exec, Hdel, Hset, Zadd, Zrem}
use Rattle.store_model.specs.declared.connection.Conn.{Conn}
use Rattle.store_laws.proofs.Changes.{Pushed, hdel_answer, hdel_done, hset_done, lpush_done, rpush_done, unacked_not_index, zadd_done, zrem_done}
use Rattle.store_laws.proofs.Connections.{hit_none, or_false, run_queue_conns, set_other, set_same}
use Rattle.store_laws.proofs.Law.{run_all_told}
use Rattle.store_laws.proofs.Table.{Turned, table_turned}
use Rattle.store_laws.specs.Laws.{IsTouched}
use Rattle.command_blocks.specs.Answers.{is_one, number_of}
use Rattle.place_model.specs.Counts.{copy_one, end_one, has_field, has_member, is_field, one_if_more, one_if_none, sum_of}
use Rattle.queue_keys.specs.Names.{Bytes, same}
use Rattle.place_model.specs.Returns.{push_command, push_commands, take_out}
use Rattle.place_model.specs.Seen.{Seen, deletes, hand_by, queued_push, queued_pushes, ran_by, ran_with, tag_weight}
use Rattle.command_blocks.specs.Setting.{is_queue}
use Rattle.place_model.specs.Starts.{IsHashOrNone}
use Rattle.command_blocks.specs.declared.side.Side.{Side}
use Rattle.command_blocks.specs.declared.side.Side.TheVariants.{Left, Right}
use Rattle.place_theorem.proofs.Full.{Alike, Full, Kinds, QueueKeys, keys_of}
use Rattle.place_theorem.proofs.Machine.{AllApart, Idle}
use Rattle.place_theorem.proofs.Safe.{Safe, Stands, conn_in, far_same, lists_elsewhere, lists_of, table_elsewhere, table_of, touched_is}
use Rattle.place_theorem.proofs.Values.{differ_false, items_of-Array, itself, number_of-Integer, text_or}

both_self : (b : Bool) → (b && b) ≡ b
both_self true = refl
both_self false = refl

-- with a table like its index, the table alone counts
pub table_is : (σ : Full) (m : Keys) → Alike σ m → (t : Bytes) → table_of σ m t ≡ cond (is_field σ.names m t) 1 0
table_is σ m a t = ap (λ b. cond (is_field σ.names m t && b) 1 0) (sym (a t)) ∙ ap (λ b. cond b 1 0) (both_self (is_field σ.names m t))

-- a tag weighs 1 at itself
pub tag_self : (t : Bytes) → tag_weight t (Some t) ≡ 1
tag_self t = ap (λ b. cond b 1 0) (itself t)

-- and nothing at another
pub tag_other : (t x : Bytes) → t ≢ x → tag_weight t (Some x) ≡ 0
tag_other t x n = ap (λ b. cond b 1 0) (differ_false x t (λ e. n (sym e)))

-- a change that leaves the table and its index
pub kept_alike : (σ : Full) (m m' : Keys) → Alike σ m → value_at m' σ.names.unacked ≡ value_at m σ.names.unacked → value_at m' σ.names.index ≡ value_at m σ.names.index → Alike σ m'
kept_alike σ m m' a u i t = ap (λ o. has_field o t) u ∙ a t ∙ sym (ap (λ o. has_member o t) i)

-- then the table weighs the same
pub kept_table : (σ : Full) (m m' : Keys) → value_at m' σ.names.unacked ≡ value_at m σ.names.unacked → value_at m' σ.names.index ≡ value_at m σ.names.index → (t : Bytes) → table_of σ m' t ≡ table_of σ m t
kept_table σ m m' u i t = λ j. cond (has_field (u j) t && has_member (i j) t) 1 0

module _ (σ : Full) (at : ℕ) (cs : Conns) (s : State) (c : ℕ) (sn : Seen) (kinds : Kinds σ s.keys) (alike : Alike σ s.keys) where
  -- no message is lost or doubled by the transaction
  abbrev pub Moves : Keys → List Value → Type 0
  Moves m' rs = (t : Bytes) → table_of σ s.keys t + tag_weight t sn.hand ≤ 1 → sum_of (copy_one σ.names t) (record { commands = sn.since; answers = rs } ∷ []) ≡ 0
      → lists_of σ m' t + table_of σ m' t + 0 + sum_of (end_one σ.names t) (record { commands = sn.since; answers = rs } ∷ [])
      ≡ lists_of σ s.keys t + table_of σ s.keys t + tag_weight t sn.hand + 0

  -- a transaction that ran, with a connection that has no queue and watches nothing any more
  pub exec_safe : (cn : Conn) (commands : List Command) → Kinds σ (run_all at s.keys (insert s.conns c cn) commands).keys → Alike σ (run_all at s.keys (insert s.conns c cn) commands).keys
      → Moves (run_all at s.keys (insert s.conns c cn) commands).keys (run_all at s.keys (insert s.conns c cn) commands).answers
      → Safe σ s (run_queue at (set_conn s c cn) commands).0 c sn Exec (Array (run_all at s.keys (insert s.conns c cn) commands).answers)
  exec_safe cn commands k a moves = record {
    kinds = k;
    alike = a;
    altered = (run_all at s.keys (insert s.conns c cn) commands).altered;
    told = run_all_told at s.keys (insert s.conns c cn) σ.names.unacked commands;
    others = λ d ne. subst (λ x. IsTouched (run_all at s.keys (insert s.conns c cn) commands).altered x (conn (run_queue at (set_conn s c cn) commands).0.conns d)) (set_other s.conns c cn d ne) (run_queue_conns at (set_conn s c cn) commands d);
    moves = λ t le one.
        let h : tag_weight t (hand_by σ.names sn.hand Exec (Array (run_all at s.keys (insert s.conns c cn) commands).answers)) ≡ 0 = refl in
        let r : ran_by sn.since Exec (Array (run_all at s.keys (insert s.conns c cn) commands).answers) ≡ record { commands = sn.since; answers = (run_all at s.keys (insert s.conns c cn) commands).answers } ∷ [] = ap (ran_with sn.since) (items_of-Array _) in
        let m = moves t le (subst (λ x. sum_of (copy_one σ.names t) x ≡ 0) r one) in
        let e = ap (sum_of (end_one σ.names t)) r in
        omega (arith, m, e, h);
  }

  pub exec_stands : (ms : List Value) (commands : List Command) (sn' : Seen) → sn'.hand ≡ None
      → Stands σ (run_queue at (set_conn s c (conn_in Idle false [] ms)) commands).0 c Idle sn'
  exec_stands ms commands sn' hand =
      let cn = conn_in Idle false [] ms in
      let ks = (run_all at s.keys (insert s.conns c cn) commands).altered in
      let s' = (run_queue at (set_conn s c cn) commands).0 in
      record {
        marked = false || hit ks [];
        channels = [];
        pending = (conn s'.conns c).pending;
        mine = touched_is Idle ks false [] ms (conn (insert s.conns c cn) c) (conn s'.conns c) (set_same s.conns c cn) (run_queue_conns at (set_conn s c cn) commands c);
        mark_ok = record { free = λ w. hit_none ks; held = tt };
        talk_ok = inl refl;
        is = record { hand = hand; since = tt; asked = tt };
      }

  -- the two commands of a Pop's transaction
  pub pop_turned : (n : ℤ) (t u : Bytes) → is_long t ≡ false → Turned (keys_of σ) s.keys (run (around at cs) (run (around at cs) s.keys (Zadd σ.names.index n t)).keys (Hset σ.names.unacked t u)).keys t true
  pop_turned n t u short =
      let a = zadd_done (around at cs) s.keys σ.names.index n t short kinds.members in
      let between : value_at (run (around at cs) s.keys (Zadd σ.names.index n t)).keys σ.names.unacked ≡ value_at s.keys σ.names.unacked = ap value_of (a.change.there σ.names.unacked (unacked_not_index (keys_of σ))) in
      table_turned (keys_of σ) s.keys _ _ t true kinds alike a (hset_done (around at cs) (run (around at cs) s.keys (Zadd σ.names.index n t)).keys σ.names.unacked t u short (subst IsHashOrNone (sym between) kinds.table))

  -- and the first two of an End's and a Return's
  pub end_turned : (t : Bytes) → Turned (keys_of σ) s.keys (run (around at cs) (run (around at cs) s.keys (Zrem σ.names.index (t ∷ []))).keys (Hdel σ.names.unacked (t ∷ []))).keys t false
  end_turned t =
      let a = zrem_done (around at cs) s.keys σ.names.index t kinds.members in
      let between : value_at (run (around at cs) s.keys (Zrem σ.names.index (t ∷ []))).keys σ.names.unacked ≡ value_at s.keys σ.names.unacked = ap value_of (a.change.there σ.names.unacked (unacked_not_index (keys_of σ))) in
      table_turned (keys_of σ) s.keys _ _ t false kinds alike a (hdel_done (around at cs) (run (around at cs) s.keys (Zrem σ.names.index (t ∷ []))).keys σ.names.unacked t (subst IsHashOrNone (sym between) kinds.table))

  pub end_answer : (t : Bytes) → (run (around at cs) (run (around at cs) s.keys (Zrem σ.names.index (t ∷ []))).keys (Hdel σ.names.unacked (t ∷ []))).answer ≡ number (cond (is_field σ.names s.keys t) 1 0 + 0)
  end_answer t =
      let a = zrem_done (around at cs) s.keys σ.names.index t kinds.members in
      let between : value_at (run (around at cs) s.keys (Zrem σ.names.index (t ∷ []))).keys σ.names.unacked ≡ value_at s.keys σ.names.unacked = ap value_of (a.change.there σ.names.unacked (unacked_not_index (keys_of σ))) in
      hdel_answer (around at cs) (run (around at cs) s.keys (Zrem σ.names.index (t ∷ []))).keys σ.names.unacked t (subst IsHashOrNone (sym between) kinds.table) ∙ ap (λ o. number (cond (has_field o t) 1 0 + 0)) between

  -- what is in the table after the transaction
  table_this : (m' : Keys) (x : Bytes) (b : Bool) → Turned (keys_of σ) s.keys m' x b → table_of σ m' x ≡ cond b 1 0
  table_this m' x b r = table_is σ m' r.alike x ∙ ap (λ y. cond y 1 0) r.this

  table_others : (m' : Keys) (x : Bytes) (b : Bool) → Turned (keys_of σ) s.keys m' x b → (t : Bytes) → t ≢ x → table_of σ m' t ≡ table_of σ s.keys t
  table_others m' x b r t n = table_is σ m' r.alike t ∙ ap (λ y. cond y 1 0) (r.others t n) ∙ sym (table_is σ s.keys alike t)

  pub pop_moves : (m' : Keys) (t u : Bytes) (k : ℤ) (r₁ r₂ : Value) → Turned (keys_of σ) s.keys m' t true → sn.hand ≡ Some t → sn.since ≡ Zadd σ.names.index k t ∷ Hset σ.names.unacked t u ∷ [] → Moves m' (r₁ ∷ r₂ ∷ [])
  pop_moves m' t u k r₁ r₂ r hand since x le one = go (text_or x t)
    where
      none : sum_of (end_one σ.names x) (record { commands = sn.since; answers = r₁ ∷ r₂ ∷ [] } ∷ []) ≡ 0
      none = ap (λ cs. sum_of (end_one σ.names x) (record { commands = cs; answers = r₁ ∷ r₂ ∷ [] } ∷ [])) since

      go : (x ≡ t) ⊎ (x ≢ t) → lists_of σ m' x + table_of σ m' x + 0 + sum_of (end_one σ.names x) (record { commands = sn.since; answers = r₁ ∷ r₂ ∷ [] } ∷ []) ≡ lists_of σ s.keys x + table_of σ s.keys x + tag_weight x sn.hand + 0
      go (inl same) =
          let l = r.lists x in
          let w : table_of σ m' x ≡ 1 = ap (table_of σ m') same ∙ table_this m' t true r in
          let h : tag_weight x sn.hand ≡ 1 = ap (tag_weight x) hand ∙ ap (λ y. tag_weight x (Some y)) (sym same) ∙ tag_self x in
          omega (arith, l, w, h, none, le)
      go (inr n) =
          let l = r.lists x in
          let w = table_others m' t true r x n in
          let h : tag_weight x sn.hand ≡ 0 = ap (tag_weight x) hand ∙ tag_other x t n in
          omega (arith, l, w, h, none)

  -- DEL of keys that are apart
  pub free_moves : (ks : List Bytes) → AllApart σ ks → sn.hand ≡ None → sn.since ≡ Del ks ∷ [] → Moves (run (around at cs) s.keys (Del ks)).keys ((run (around at cs) s.keys (Del ks)).answer ∷ [])
  free_moves ks far hand since x le one =
      let r = run (around at cs) s.keys (Del ks) in
      let l = lists_elsewhere σ s.keys r.keys (far_same σ (around at cs) s.keys (Del ks) far) x in
      let w = table_elsewhere σ s.keys r.keys (far_same σ (around at cs) s.keys (Del ks) far) x in
      let h : tag_weight x sn.hand ≡ 0 = ap (tag_weight x) hand in
      let n : sum_of (end_one σ.names x) (record { commands = sn.since; answers = r.answer ∷ [] } ∷ []) ≡ 0 = ap (λ cs. sum_of (end_one σ.names x) (record { commands = cs; answers = r.answer ∷ [] } ∷ [])) since in
      omega (arith, l, w, h, n)

-- ---- the pushes of a Return

-- what a push at either side does
pub push_done : (σ : Full) (e : Around) (m : Keys) (side : Side) (k v : Bytes) → Kinds σ m → is_queue σ.names k ≡ true → Pushed (keys_of σ) m k v (run e m (push_command side k v))
push_done σ e m Left k v ks q = lpush_done (keys_of σ) e m k v ks q
push_done σ e m Right k v ks q = rpush_done (keys_of σ) e m k v ks q

push_one-is : (σ : Full) (x : Bytes) (side : Side) (k v : Bytes) → is_queue σ.names k ≡ true → queued_push σ.names x (push_command side k v) ≡ tag_weight x (σ.names.tag_of v)
push_one-is σ x Left k v q = ap (λ b. cond b (tag_weight x (σ.names.tag_of v)) 0) q
push_one-is σ x Right k v q = ap (λ b. cond b (tag_weight x (σ.names.tag_of v)) 0) q

-- what the pushes leave
pub record AllPushed (σ : Full) (m m' : Keys) (cs : List Command) : Type 0 where
  pub kinds : Kinds σ m'
  pub table : value_at m' σ.names.unacked ≡ value_at m σ.names.unacked
  pub members : value_at m' σ.names.index ≡ value_at m σ.names.index
  pub gains : (x : Bytes) → lists_of σ m' x ≡ lists_of σ m x + queued_pushes σ.names x cs

-- pushes in a row
pub pushes_done : (σ : Full) (at : ℕ) (cs : Conns) (m : Keys) (side : Side) (v : Bytes) (qs : List Bytes) → Kinds σ m → QueueKeys σ qs → AllPushed σ m (run_all at m cs (push_commands side v qs)).keys (push_commands side v qs)
pushes_done σ at cs m side v [] ks h = record { kinds = ks; table = refl; members = refl; gains = λ x. omega arith }
pushes_done σ at cs m side v (q ∷ qs) ks h =
    let p = push_done σ (around at cs) m side q v ks h.0 in
    let r = pushes_done σ at (posted (push_command side q v) cs) (run (around at cs) m (push_command side q v)).keys side v qs p.after.kinds h.1 in
    record {
      kinds = r.kinds;
      table = r.table ∙ p.after.table;
      members = r.members ∙ p.after.members;
      gains = λ x.
          let a = p.gains x in
          let b = r.gains x in
          let d = push_one-is σ x side q v h.0 in
          omega (arith, a, b, d);
    }

no_pushes : (σ : Full) (t x : Bytes) (side : Side) (v : Bytes) (qs : List Bytes) → QueueKeys σ qs → σ.names.tag_of v ≡ Some t → x ≢ t → queued_pushes σ.names x (push_commands side v qs) ≡ 0
no_pushes σ t x side v [] h tag n = refl
no_pushes σ t x side v (q ∷ qs) h tag n =
    let r = no_pushes σ t x side v qs h.1 tag n in
    let d : queued_push σ.names x (push_command side q v) ≡ 0 = push_one-is σ x side q v h.0 ∙ ap (tag_weight x) tag ∙ tag_other x t n in
    omega (arith, r, d)

none_else : (σ : Full) (t x : Bytes) (side : Side) (v : Bytes) (qs : List Bytes) → QueueKeys σ qs → (qs ≡ []) ⊎ (σ.names.tag_of v ≡ Some t) → x ≢ t → queued_pushes σ.names x (push_commands side v qs) ≡ 0
none_else σ t x side v qs h (inl e) n = ap (λ z. queued_pushes σ.names x (push_commands side v z)) e
none_else σ t x side v qs h (inr tag) n = no_pushes σ t x side v qs h tag n

no_deletes : (σ : Full) (x : Bytes) (side : Side) (v : Bytes) (qs : List Bytes) (rs : List Value) → deletes σ.names x (push_commands side v qs) rs ≡ false
no_deletes σ x side v [] rs = refl
no_deletes σ x side v (q ∷ qs) [] = refl
no_deletes σ x Left v (q ∷ qs) (r ∷ rs) = no_deletes σ x Left v qs rs
no_deletes σ x Right v (q ∷ qs) (r ∷ rs) = no_deletes σ x Right v qs rs

one_or_none : (b : Bool) → is_one (Some (pos (cond b 1 0 + 0))) ≡ b
one_or_none true = refl
one_or_none false = refl

-- a taken tag is pushed once, or ended
balance : (f : Bool) (p : ℕ) → one_if_more p ≡ 0 → (f ≡ true) ⊎ (p ≡ 0) → p + cond f (one_if_none p) 0 ≡ cond f 1 0
balance true zero h w = refl
balance true (suc zero) h w = refl
balance true (suc (suc n)) h w = absurd (omega arith)
balance false p h (inl e) = absurd (cc e)
balance false p h (inr e) = omega arith

module _ (σ : Full) (at : ℕ) (cs : Conns) (s : State) (c : ℕ) (sn : Seen) (kinds : Kinds σ s.keys) (alike : Alike σ s.keys) (t : Bytes) (side : Side) (v : Bytes) (qs : List Bytes) (queues : QueueKeys σ qs) (tagged : (qs ≡ []) ⊎ (σ.names.tag_of v ≡ Some t)) where
  -- the keys after the first two commands
  abbrev pub between : Keys
  between = (run (around at cs) (run (around at cs) s.keys (Zrem σ.names.index (t ∷ []))).keys (Hdel σ.names.unacked (t ∷ []))).keys

  -- all its commands
  abbrev pub taken : List Command
  taken = take_out σ.names t (push_commands side v qs)

  -- the keys in the end
  abbrev pub last : Keys
  last = (run_all at s.keys cs taken).keys

  pub turned : Turned (keys_of σ) s.keys between t false
  turned = end_turned σ at cs s c sn kinds alike t

  pub all_pushed : AllPushed σ between last (push_commands side v qs)
  all_pushed = pushes_done σ at cs between side v qs turned.kinds queues

  last_alike : Alike σ last
  last_alike = kept_alike σ between last turned.alike all_pushed.table all_pushed.members

  last_table : (x : Bytes) → table_of σ last x ≡ table_of σ between x
  last_table = kept_table σ between last all_pushed.table all_pushed.members

  -- the answers
  abbrev pub rs : List Value
  rs = (run_all at s.keys cs taken).answers

  deletes_is : (x : Bytes) → deletes σ.names x taken rs ≡ (same t x && is_field σ.names s.keys t)
  deletes_is x =
      (λ i. (itself σ.names.unacked i && (same t x && is_one (number_of (end_answer σ at cs s c sn kinds alike t i)))) || no_deletes σ x side v qs (run_all at between cs (push_commands side v qs)).answers i)
      ∙ or_false (same t x && is_one (number_of (number (cond (is_field σ.names s.keys t) 1 0 + 0))))
      ∙ ap (λ o. same t x && is_one o) (number_of-Integer (pos (cond (is_field σ.names s.keys t) 1 0 + 0)))
      ∙ ap (λ b. same t x && b) (one_or_none (is_field σ.names s.keys t))

  -- how often it pushes a tag
  abbrev pub count_of : Bytes → ℕ
  count_of x = queued_pushes σ.names x (push_commands side v qs)

  take_moves : sn.hand ≡ None → sn.since ≡ taken → (is_field σ.names s.keys t ≡ true) ⊎ (qs ≡ []) → Moves σ at cs s c sn kinds alike last rs
  take_moves hand since why x le one = go (text_or x t)
    where
      few : one_if_more (count_of x) ≡ 0
      few =
          let a : one_if_more (queued_pushes σ.names x taken) + 0 ≡ 0 = subst (λ z. one_if_more (queued_pushes σ.names x z) + 0 ≡ 0) since one in
          let b : queued_pushes σ.names x taken ≡ queued_pushes σ.names x (push_commands side v qs) = omega arith in
          let d : one_if_more (queued_pushes σ.names x taken) ≡ one_if_more (queued_pushes σ.names x (push_commands side v qs)) = ap one_if_more b in
          omega (arith, a, d)

      ends : sum_of (end_one σ.names x) (record { commands = sn.since; answers = rs } ∷ []) ≡ cond (same t x && is_field σ.names s.keys t) (one_if_none (count_of x)) 0
      ends =
          let b : queued_pushes σ.names x taken ≡ queued_pushes σ.names x (push_commands side v qs) = omega arith in
          let a : sum_of (end_one σ.names x) (record { commands = sn.since; answers = rs } ∷ []) ≡ cond (deletes σ.names x taken rs) (one_if_none (queued_pushes σ.names x taken)) 0 + 0 = ap (λ z. cond (deletes σ.names x z rs) (one_if_none (queued_pushes σ.names x z)) 0 + 0) since in
          let d : cond (deletes σ.names x taken rs) (one_if_none (queued_pushes σ.names x taken)) 0 ≡ cond (same t x && is_field σ.names s.keys t) (one_if_none (queued_pushes σ.names x (push_commands side v qs))) 0 = λ i. cond (deletes_is x i) (one_if_none (b i)) 0 in
          omega (arith, a, d)

      go : (x ≡ t) ⊎ (x ≢ t) → lists_of σ last x + table_of σ last x + 0 + sum_of (end_one σ.names x) (record { commands = sn.since; answers = rs } ∷ []) ≡ lists_of σ s.keys x + table_of σ s.keys x + tag_weight x sn.hand + 0
      go (inl same') =
          let g = all_pushed.gains x in
          let l = turned.lists x in
          let w : table_of σ last x ≡ 0 = last_table x ∙ ap (table_of σ between) same' ∙ table_this σ at cs s c sn kinds alike between t false turned in
          let was : table_of σ s.keys x ≡ cond (is_field σ.names s.keys t) 1 0 = ap (table_of σ s.keys) same' ∙ table_is σ s.keys alike t in
          let h : tag_weight x sn.hand ≡ 0 = ap (tag_weight x) hand in
          let why' : (is_field σ.names s.keys t ≡ true) ⊎ (count_of x ≡ 0) = elim why [ inl f ↦ inl f | inr n ↦ inr (ap (λ q. queued_pushes σ.names x (push_commands side v q)) n) ] in
          let z : cond (same t x && is_field σ.names s.keys t) (one_if_none (count_of x)) 0 ≡ cond (is_field σ.names s.keys t) (one_if_none (count_of x)) 0 = ap (λ b. cond (b && is_field σ.names s.keys t) (one_if_none (count_of x)) 0) (ap (same t) same' ∙ itself t) in
          let k = balance (is_field σ.names s.keys t) (count_of x) few why' in
          omega (arith, g, l, w, was, h, ends, z, k)
      go (inr n) =
          let g = all_pushed.gains x in
          let l = turned.lists x in
          let w : table_of σ last x ≡ table_of σ s.keys x = last_table x ∙ table_others σ at cs s c sn kinds alike between t false turned x n in
          let h : tag_weight x sn.hand ≡ 0 = ap (tag_weight x) hand in
          let z : cond (same t x && is_field σ.names s.keys t) (one_if_none (count_of x)) 0 ≡ 0 = ap (λ b. cond (b && is_field σ.names s.keys t) (one_if_none (count_of x)) 0) (differ_false t x (λ z. n (sym z))) in
          let y = none_else σ t x side v qs queues tagged n in
          omega (arith, g, l, w, h, ends, z, y)

  pub take_all : (reply : Value) → sn.hand ≡ None → sn.since ≡ taken → (is_field σ.names s.keys t ≡ true) ⊎ (qs ≡ []) → (Kinds σ last) × (Alike σ last) × Moves σ at cs s c sn kinds alike last rs
  take_all reply hand since why = (all_pushed.kinds, last_alike, take_moves hand since why)
