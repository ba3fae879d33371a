-- What each step of the machine does.
use Rattle.std.proofs.Common.{◌++◌, Bool, List, None, Option, Some, [], ap, arith, cond, false, inl, inr, is_some, length, nat_lt, pos, refl, subst, sym, true, unwrap_or, ℕ, ℤ, ◌∙◌, ◌∷◌, ◌≡◌, ◌⊎◌}
use Rattle.std.specs.FinMap.{get, insert}
use Rattle.wire_values.specs.declared.value.Value.{Value}
use Rattle.wire_values.specs.declared.value.Value.TheVariants.{Array, Bulk, Error, NullArray, Status}
use Rattle.store_model.specs.Commands.{Around, is_queued, run}
use Rattle.store_model.specs.Connections.{Conns, around, conn}
use Rattle.store_model.specs.Hashes.{field_answer}
use Rattle.store_model.specs.Keys.{value_at}
use Rattle.store_model.specs.Replies.{bulk, pair, queued}
use Rattle.store_model.specs.Store.{State, inside, is_heard, outside_transaction, run_all, run_one, run_queue, serve, set_conn, spoken, to_queue}
use Rattle.store_model.specs.declared.command.Command.{Command}
use Rattle.store_model.specs.declared.command.Command.TheVariants.{Brpop, Del, Discard, Exec, Faulty, Hget, Hset, Lpush, Multi, Ping, Smembers, Subscribe, Unsubscribe, Unwatch, Watch, Zadd}
use Rattle.store_model.specs.declared.connection.Conn.{Conn}
use Rattle.store_model.specs.declared.connection.Queue.{Queue}
use Rattle.store_model.specs.declared.held.Stored.{Stored}
use Rattle.store_model.specs.declared.held.Stored.TheVariants.{Hash}
use Rattle.store_laws.proofs.Changes.{Brpopped, brpop_done, lpush_done}
use Rattle.store_laws.proofs.Connections.{run_one_conns}
use Rattle.store_laws.proofs.Law.{ToldBy, framed}
use Rattle.command_blocks.specs.Answers.{items_of, number_of, pair_of}
use Rattle.place_model.specs.Counts.{count, table_entry, field_of, is_field}
use Rattle.queue_keys.specs.Names.{Bytes}
use Rattle.place_model.specs.Returns.{push_commands, take_out}
use Rattle.place_model.specs.Seen.{Seen, asked_by, hand_by, hand_from, push_with, ran_with, seen, seen_by, since_by, tag_list, tag_weight}
use Rattle.command_blocks.specs.Setting.{is_queue}
use Rattle.command_blocks.specs.declared.side.Side.{Side}
use Rattle.command_blocks.specs.declared.side.Side.TheVariants.{Right}
use Rattle.place_theorem.proofs.Full.{Alike, Full, Kinds, QueueKeys, keys_of, tag_short}
use Rattle.place_theorem.proofs.Machine.{AllApart, Asks, At, Begins, Cursor, Ends, Fails, Finds, Finds_none, Finds_other, Idle, IsTalk, Leaves, Live, Passes_by, Publishes, Queues, Reads, Refuses, Step, Talks, Watches, Whole, Whole_end, Whole_free, Whole_pop, Whole_return, is_aside}
use Rattle.place_theorem.proofs.Safe.{AskedIs, Effect, MarkOk, Quiet, Safe, SameOurs, SeenIs, Stands, alike_elsewhere, aside_quiet, conn_in, far_safe, far_same, kinds_elsewhere, quiet_safe, same_safe, set_safe, set_stands, table_of, touched_stands}
use Rattle.place_theorem.proofs.Transactions.{exec_safe, exec_stands, free_moves, kept_alike, kept_table, pop_moves, pop_turned, take_all}
use Rattle.place_theorem.proofs.Values.{items_of-Error, items_of-NullArray, items_of-Status, number_of-Error, number_of-Integer, number_of-NullArray, number_of-Status, pair_of-Error, pair_of-NullArray, pair_of-Status, pair_of-pair}

count-listed : (t : Bytes) (o : Option Bytes) → count t (tag_list o) ≡ tag_weight t o
count-listed t None = refl
count-listed t (Some x) = omega arith

has_entry : (o : Option Bytes) (u : Bytes) → o ≡ Some u → is_some o ≡ true
has_entry None u e = absurd (cc e)
has_entry (Some x) u e = refl

bulk_is : (u : Bytes) (o : Option Bytes) → Bulk u ≡ bulk o → o ≡ Some u
bulk_is u None e = absurd (cc e)
bulk_is u (Some v) e = let z : v ≡ u = cc e in ap (λ x. Some x) z

field_is : (t u : Bytes) (o : Option Stored) → Bulk u ≡ field_answer t o → field_of o t ≡ Some u
field_is t u None e = absurd (cc e)
field_is t u (Some (Hash h)) e = bulk_is u (get h t) e
field_is t u (Some other) e = absurd (cc e)

-- such a command runs at once
pub aside_plain : (at : ℕ) (s : State) (c : ℕ) (cn : Conn) (cm : Command) → is_aside cm ≡ true → outside_transaction at s c cn cm ≡ run_one at s cm
aside_plain at s c cn Multi h = absurd (cc h)
aside_plain at s c cn (Watch ks) h = absurd (cc h)
aside_plain at s c cn Unwatch h = absurd (cc h)
aside_plain at s c cn (Subscribe x) h = absurd (cc h)
aside_plain at s c cn (Unsubscribe x) h = absurd (cc h)
aside_plain at s c cn other h = refl

-- a command that may be queued is, where there is room
pub queued_inside : (at : ℕ) (s : State) (c : ℕ) (cn : Conn) (q : Queue) (cm : Command) → is_queued cm ≡ true → inside at s c cn q cm ≡ to_queue s c cn q cm true (nat_lt (length q.commands) 4096)
queued_inside at s c cn q Exec h = absurd (cc h)
queued_inside at s c cn q Discard h = absurd (cc h)
queued_inside at s c cn q (Faulty fault heard) h = absurd (cc h)
queued_inside at s c cn q other h = ap (λ b. to_queue s c cn q other b (nat_lt (length q.commands) 4096)) h

queued_since : (old : List Command) (cm : Command) → is_queued cm ≡ true → since_by old cm ≡ old ++ cm ∷ []
queued_since old Multi h = absurd (cc h)
queued_since old other h = refl

queued_asked : (old : Value) (cm : Command) → is_queued cm ≡ true → asked_by old cm queued ≡ old
queued_asked old (Smembers k) h = absurd (cc h)
queued_asked old (Watch ks) h = absurd (cc h)
queued_asked old other h = refl

-- the answer is no integer and no array
pub record IsBare (r : Value) : Type 0 where
  pub no_number : number_of r ≡ None
  pub no_items : items_of r ≡ None
  pub no_pair : pair_of r ≡ None

error_bare : (r : Value) (b : Bytes) → r ≡ Error b → IsBare r
error_bare r b e = record { no_number = ap number_of e ∙ number_of-Error b; no_items = ap items_of e ∙ items_of-Error b; no_pair = ap pair_of e ∙ pair_of-Error b }

status_bare : (r : Value) (b : Bytes) → r ≡ Status b → IsBare r
status_bare r b e = record { no_number = ap number_of e ∙ number_of-Status b; no_items = ap items_of e ∙ items_of-Status b; no_pair = ap pair_of e ∙ pair_of-Status b }

null_bare : (r : Value) → r ≡ NullArray → IsBare r
null_bare r e = record { no_number = ap number_of e ∙ number_of-NullArray; no_items = ap items_of e ∙ items_of-NullArray; no_pair = ap pair_of e ∙ pair_of-NullArray }

module _ (σ : Full) (sn : Seen) where
  -- a command whose answer is bare shows nothing, unless it empties the hand
  bare_quiet : (cm : Command) (reply : Value) → sn.hand ≡ None → IsBare reply → Quiet σ sn cm reply
  bare_quiet Exec reply hand is = record { hand = sym hand; ran = ap (ran_with sn.since) is.no_items; pushes = refl }
  bare_quiet (Brpop ks) reply hand is = record { hand = ap (hand_from σ.names sn.hand) is.no_pair; ran = refl; pushes = refl }
  bare_quiet (Lpush k (v ∷ [])) reply hand is = record { hand = refl; ran = refl; pushes = ap (push_with σ.names k v) is.no_number }
  bare_quiet other reply hand is = record { hand = refl; ran = refl; pushes = refl }

  -- a command that was queued, or refused where it was to be queued
  queued_quiet : (cm : Command) (reply : Value) → is_queued cm ≡ true → IsBare reply → Quiet σ sn cm reply
  queued_quiet Exec reply q is = absurd (cc q)
  queued_quiet (Brpop ks) reply q is = absurd (cc q)
  queued_quiet (Lpush k (v ∷ [])) reply q is = record { hand = refl; ran = refl; pushes = ap (push_with σ.names k v) is.no_number }
  queued_quiet other reply q is = record { hand = refl; ran = refl; pushes = refl }

-- where the client stands, with its mark and its channels
pub record Ready (σ : Full) (s : State) (c : ℕ) (sn : Seen) (cur : Cursor) (b : Bool) (ch : List Bytes) (ms : List Value) : Type 0 where
  pub mine : conn s.conns c ≡ conn_in cur b ch ms
  pub mark_ok : MarkOk σ cur s.keys b
  pub talk_ok : (ch ≡ []) ⊎ (cur ≡ Idle)
  pub is : SeenIs cur sn

-- the same as where the client stands
abbrev pub stands_of : (σ : Full) (s : State) (c : ℕ) (sn : Seen) (cur : Cursor) (b : Bool) (ch : List Bytes) (ms : List Value) → Ready σ s c sn cur b ch ms → Stands σ s c cur sn
stands_of σ s c sn cur b ch ms ok = record { marked = b; channels = ch; pending = ms; mine = ok.mine; mark_ok = ok.mark_ok; talk_ok = ok.talk_ok; is = ok.is }

module _ (σ : Full) (at : ℕ) (s : State) (c : ℕ) (sn : Seen) (kinds : Kinds σ s.keys) (alike : Alike σ s.keys) where
  abbrev e : Around
  e = around at s.conns

  -- the state after a command outside MULTI that changes the keys
  abbrev pub ran : Command → State
  ran cm = (run_one at s cm).0

  pub told : (cm : Command) → ToldBy s.keys σ.names.unacked (run e s.keys cm).altered (run e s.keys cm).keys
  told cm = (framed e s.keys cm).told σ.names.unacked

  abbrev ran_stands : (cm : Command) (cur : Cursor) (sn' : Seen) → SeenIs cur sn' → Stands σ s c cur sn → Stands σ (ran cm) c cur sn'
  ran_stands cm cur sn' seen ok = touched_stands σ s (ran cm) (run e s.keys cm).altered c cur sn sn' (told cm) (run_one_conns at s cm c) seen ok

  publish_safe : (k v : Bytes) (reply : Value) → is_queue σ.names k ≡ true → reply ≡ (run e s.keys (Lpush k (v ∷ []))).answer → Safe σ s (ran (Lpush k (v ∷ []))) c sn (Lpush k (v ∷ [])) reply
  publish_safe k v reply q is =
      let p = lpush_done (keys_of σ) e s.keys k v kinds q in
      let r = run e s.keys (Lpush k (v ∷ [])) in
      let shown : push_with σ.names k v (number_of reply) ≡ tag_list (σ.names.tag_of v) = ap (λ x. push_with σ.names k v (number_of x)) (is ∙ p.answer) ∙ ap (push_with σ.names k v) (number_of-Integer (pos p.size)) ∙ ap (λ b. cond b (tag_list (σ.names.tag_of v)) []) q in
      record {
        kinds = p.after.kinds;
        alike = kept_alike σ s.keys r.keys alike p.after.table p.after.members;
        altered = r.altered;
        told = told (Lpush k (v ∷ []));
        others = λ d ne. run_one_conns at s (Lpush k (v ∷ [])) d;
        moves = λ x le one.
            let g = p.gains x in
            let w : table_of σ r.keys x ≡ table_of σ s.keys x = kept_table σ s.keys r.keys p.after.table p.after.members x in
            let a : count x (push_with σ.names k v (number_of reply)) ≡ tag_weight x (σ.names.tag_of v) = ap (count x) shown ∙ count-listed x (σ.names.tag_of v) in
            omega (arith, g, w, a);
      }

  brpop_safe : (ks : List Bytes) (reply : Value) → sn.hand ≡ None → Brpopped (keys_of σ) s.keys (run e s.keys (Brpop ks)) → reply ≡ (run e s.keys (Brpop ks)).answer
      → Safe σ s (ran (Brpop ks)) c sn (Brpop ks) reply
  brpop_safe ks reply hand (inl p) is =
      let keys : (run e s.keys (Brpop ks)).keys ≡ s.keys = ap (λ r. r.keys) p in
      let same : SameOurs σ s.keys (run e s.keys (Brpop ks)).keys = λ k o. ap (λ m. get m k) keys in
      quiet_safe σ s c sn kinds alike (ran (Brpop ks)) (run e s.keys (Brpop ks)).altered (Brpop ks) reply same (told (Brpop ks)) (λ d ne. run_one_conns at s (Brpop ks) d)
      (bare_quiet σ sn (Brpop ks) reply hand (null_bare reply (is ∙ ap (λ r. r.answer) p)))
  brpop_safe ks reply hand (inr p) is =
      let r = run e s.keys (Brpop ks) in
      let now : cond (is_queue σ.names p.0) (σ.names.tag_of p.1) sn.hand ≡ σ.names.tag_of p.1 = ap (λ b. cond b (σ.names.tag_of p.1) sn.hand) p.2.queue in
      let shown : hand_from σ.names sn.hand (pair_of reply) ≡ σ.names.tag_of p.1 = ap (λ x. hand_from σ.names sn.hand (pair_of x)) (is ∙ p.2.answer) ∙ ap (hand_from σ.names sn.hand) (pair_of-pair p.0 p.1) ∙ now in
      record {
        kinds = p.2.after.kinds;
        alike = kept_alike σ s.keys r.keys alike p.2.after.table p.2.after.members;
        altered = r.altered;
        told = told (Brpop ks);
        others = λ d ne. run_one_conns at s (Brpop ks) d;
        moves = λ x le one.
            let l = p.2.loses x in
            let w = kept_table σ s.keys r.keys p.2.after.table p.2.after.members x in
            let a : tag_weight x (hand_from σ.names sn.hand (pair_of reply)) ≡ tag_weight x (σ.names.tag_of p.1) = ap (tag_weight x) shown in
            let b : tag_weight x sn.hand ≡ 0 = ap (tag_weight x) hand in
            omega (arith, l, w, a, b);
      }

  -- the tag of the bytes that were given
  found_tag : (ks : List Bytes) (q v : Bytes) → Brpopped (keys_of σ) s.keys (run e s.keys (Brpop ks)) → pair q v ≡ (run e s.keys (Brpop ks)).answer → hand_from σ.names sn.hand (pair_of (pair q v)) ≡ σ.names.tag_of v
  found_tag ks q v (inl p) reply = absurd (cc (reply, ap (λ x. x.answer) p))
  found_tag ks q v (inr p) reply =
      let same_pair : Some (q, v) ≡ Some (p.0, p.1) = sym (pair_of-pair q v) ∙ ap pair_of (reply ∙ p.2.answer) ∙ pair_of-pair p.0 p.1 in
      let same_key : q ≡ p.0 = ap (λ (o : Option (Bytes × Bytes)). (unwrap_or o (q, v)).0) same_pair in
      ap (hand_from σ.names sn.hand) (pair_of-pair q v) ∙ ap (λ b. cond b (σ.names.tag_of v) sn.hand) (ap (is_queue σ.names) same_key ∙ p.2.queue)

  -- ---- EXEC

  -- the call is safe, whatever is answered
  abbrev pub SafeGoal : Cursor → Bool → List Bytes → List Value → Command → Value → Type 0
  SafeGoal from b ch ms cm reply = reply ≡ (serve at s c cm (conn_in from b ch ms)).1 → Safe σ s (serve at s c cm (conn_in from b ch ms)).0 c sn cm reply

  null_safe : (ms : List Value) (reply : Value) → sn.hand ≡ None → reply ≡ NullArray → Safe σ s (set_conn s c (conn_in Idle false [] ms)) c sn Exec reply
  null_safe ms reply hand is = set_safe σ s c sn kinds alike (conn_in Idle false [] ms) Exec reply (bare_quiet σ sn Exec reply hand (null_bare reply is))

  abbrev conns_for : List Value → Conns
  conns_for ms = insert s.conns c (conn_in Idle false [] ms)

  pop_safe : (t v : Bytes) (n : ℤ) (ms : List Value) (reply : Value) → σ.names.tag_of v ≡ Some t → SeenIs (At (Some (Zadd σ.names.index n t ∷ Hset σ.names.unacked t (σ.names.entry_of v) ∷ [])) [] (Some (t, v)) None) sn
      → SafeGoal (At (Some (Zadd σ.names.index n t ∷ Hset σ.names.unacked t (σ.names.entry_of v) ∷ [])) [] (Some (t, v)) None) false [] ms Exec reply
  pop_safe t v n ms reply tag is r =
      let cs = Zadd σ.names.index n t ∷ Hset σ.names.unacked t (σ.names.entry_of v) ∷ [] in
      let p = pop_turned σ at (conns_for ms) s c sn kinds alike n t (σ.names.entry_of v) (tag_short σ v t tag) in
      subst (λ x. Safe σ s (run_queue at (set_conn s c (conn_in Idle false [] ms)) cs).0 c sn Exec x) (sym r)
      (exec_safe σ at (conns_for ms) s c sn kinds alike (conn_in Idle false [] ms) cs p.kinds p.alike
      (pop_moves σ at (conns_for ms) s c sn kinds alike _ t (σ.names.entry_of v) n _ _ p is.hand is.since))

  free_safe : (ks : List Bytes) (w : List Bytes) (ms : List Value) (reply : Value) → AllApart σ ks → SeenIs (At (Some (Del ks ∷ [])) w None None) sn → SafeGoal (At (Some (Del ks ∷ [])) w None None) false [] ms Exec reply
  free_safe ks w ms reply far is r =
      let same = far_same σ (around at (conns_for ms)) s.keys (Del ks) far in
      let m' = (run_all at s.keys (conns_for ms) (Del ks ∷ [])).keys in
      subst (λ x. Safe σ s (run_queue at (set_conn s c (conn_in Idle false [] ms)) (Del ks ∷ [])).0 c sn Exec x) (sym r)
      (exec_safe σ at (conns_for ms) s c sn kinds alike (conn_in Idle false [] ms) (Del ks ∷ []) (kinds_elsewhere σ s.keys m' same kinds) (alike_elsewhere σ s.keys m' same alike)
      (free_moves σ at (conns_for ms) s c sn kinds alike ks far is.hand is.since))

  taking_safe : (t : Bytes) (side : Side) (v : Bytes) (qs : List Bytes) (ms : List Value) (reply : Value) → QueueKeys σ qs → (qs ≡ []) ⊎ (σ.names.tag_of v ≡ Some t) → sn.hand ≡ None
      → sn.since ≡ take_out σ.names t (push_commands side v qs) → (is_field σ.names s.keys t ≡ true) ⊎ (qs ≡ [])
      → reply ≡ Array (run_all at s.keys (conns_for ms) (take_out σ.names t (push_commands side v qs))).answers
      → Safe σ s (run_queue at (set_conn s c (conn_in Idle false [] ms)) (take_out σ.names t (push_commands side v qs))).0 c sn Exec reply
  taking_safe t side v qs ms reply queues tag hand since why is =
      let k = take_all σ at (conns_for ms) s c sn kinds alike t side v qs queues tag reply hand since why in
      subst (λ x. Safe σ s (run_queue at (set_conn s c (conn_in Idle false [] ms)) (take_out σ.names t (push_commands side v qs))).0 c sn Exec x) (sym is)
      (exec_safe σ at (conns_for ms) s c sn kinds alike (conn_in Idle false [] ms) (take_out σ.names t (push_commands side v qs)) k.0 k.1 k.2)

  whole_safe : (cs : List Command) (w : List Bytes) (h : Option (Bytes × Bytes)) (r : Option (Bytes × Bytes × Option Value)) (b : Bool) (ms : List Value) (reply : Value) → Whole σ cs w h r → Ready σ s c sn (At (Some cs) w h r) b [] ms → SafeGoal (At (Some cs) w h r) b [] ms Exec reply
  whole_safe cs w h r true ms reply (Whole_pop t u n tag) ok is = let z = ok.mark_ok.free refl in absurd (cc z)
  whole_safe cs w h r true ms reply (Whole_end t) ok is = null_safe ms reply ok.is.hand is
  whole_safe cs w h r true ms reply (Whole_return side t u v xs a carries asked) ok is = null_safe ms reply ok.is.hand is
  whole_safe cs w h r true ms reply (Whole_free ks w' far) ok is = null_safe ms reply ok.is.hand is
  whole_safe cs w h r false ms reply (Whole_pop t v n tag) ok is = pop_safe t v n ms reply tag ok.is is
  whole_safe cs w h r false ms reply (Whole_end t) ok is = taking_safe t Right [] [] ms reply tt (inl refl) ok.is.hand ok.is.since (inr refl) is
  whole_safe cs w h r false ms reply (Whole_return side t u v xs a carries asked) ok is =
      taking_safe t side v (σ.names.keys_in u xs) ms reply (σ.laws.keys_in_are u xs) (inr carries.1) ok.is.hand ok.is.since (inl (has_entry (table_entry σ.names s.keys t) u (ok.mark_ok.held.1 refl))) is
  whole_safe cs w h r false ms reply (Whole_free ks w' far) ok is = free_safe ks w ms reply far ok.is is

  -- ---- whatever the reply is: the call is safe where a block allows its command

  queue_safe : (cs : List Command) (w : List Bytes) (h : Option (Bytes × Bytes)) (r : Option (Bytes × Bytes × Option Value)) (cm : Command) (q : is_queued cm ≡ true) (b room : Bool) (ms : List Value) (reply : Value)
      → reply ≡ (to_queue s c (conn_in (At (Some cs) w h r) b [] ms) (record { commands = cs; broken = false }) cm true room).1
      → Safe σ s (to_queue s c (conn_in (At (Some cs) w h r) b [] ms) (record { commands = cs; broken = false }) cm true room).0 c sn cm reply
  queue_safe cs w h r cm q b true ms reply is = set_safe σ s c sn kinds alike _ cm reply (queued_quiet σ sn cm reply q (status_bare reply _ is))
  queue_safe cs w h r cm q b false ms reply is = set_safe σ s c sn kinds alike _ cm reply (queued_quiet σ sn cm reply q (error_bare reply _ is))

  talk_safe : (cm : Command) (b : Bool) (ms : List Value) (reply : Value) → IsTalk cm → SafeGoal Idle b [] ms cm reply
  talk_safe (Subscribe x) b ms reply t is = set_safe σ s c sn kinds alike _ (Subscribe x) reply (record { hand = refl; ran = refl; pushes = refl })
  talk_safe (Unsubscribe x) b ms reply t is = set_safe σ s c sn kinds alike _ (Unsubscribe x) reply (record { hand = refl; ran = refl; pushes = refl })
  talk_safe other b ms reply t is = absurd t

  safe_plain : (from to : Cursor) (cm : Command) (some reply : Value) (b : Bool) (ms : List Value) → Step σ from cm some to → Ready σ s c sn from b [] ms → SafeGoal from b [] ms cm reply
  safe_plain from to cm some reply b ms (Passes_by w h cm' x far) ok =
      subst (λ (p : State × Value). reply ≡ p.1 → Safe σ s p.0 c sn cm reply) (sym (aside_plain at s c (conn_in (At None w h None) b [] ms) cm far.1)) (λ is. far_safe σ s c sn kinds alike at cm reply far.0 (aside_quiet σ e s.keys sn cm reply far is))
  safe_plain from to cm some reply b ms (Asks t u e' x told) ok = λ is. far_safe σ s c sn kinds alike at (Smembers (σ.names.binding e')) reply tt (record { hand = refl; ran = refl; pushes = refl })
  safe_plain from to cm some reply b ms (Talks cm' x t) ok = talk_safe cm b ms reply t
  safe_plain from to cm some reply b ms (Publishes k v n q) ok = λ is. publish_safe k v reply q is
  safe_plain from to cm some reply b ms (Finds_none ks qs) ok = λ is. brpop_safe ks reply ok.is.hand (brpop_done (keys_of σ) e s.keys ks kinds qs) is
  safe_plain from to cm some reply b ms (Finds_other ks q v qs none) ok = λ is. brpop_safe ks reply ok.is.hand (brpop_done (keys_of σ) e s.keys ks kinds qs) is
  safe_plain from to cm some reply b ms (Finds ks q v t qs tag) ok = λ is. brpop_safe ks reply ok.is.hand (brpop_done (keys_of σ) e s.keys ks kinds qs) is
  safe_plain from to cm some reply b ms (Begins w h r) ok = λ is. set_safe σ s c sn kinds alike _ Multi reply (record { hand = refl; ran = refl; pushes = refl })
  safe_plain from to cm some reply b ms (Queues cs w h r cm' q) ok =
      subst (λ (p : State × Value). reply ≡ p.1 → Safe σ s p.0 c sn cm reply) (sym (queued_inside at s c (conn_in (At (Some cs) w h r) b [] ms) (record { commands = cs; broken = false }) cm q)) (queue_safe cs w h r cm q b (nat_lt (length cs) 4096) ms reply)
  safe_plain from to cm some reply b ms (Ends cs w h r xs whole) ok = whole_safe cs w h r b ms reply whole ok
  safe_plain from to cm some reply b ms (Fails cs w h r whole) ok = whole_safe cs w h r b ms reply whole ok
  safe_plain from to cm some reply b ms (Watches k) ok = λ is. set_safe σ s c sn kinds alike _ (Watch (k ∷ [])) reply (record { hand = refl; ran = refl; pushes = refl })
  safe_plain from to cm some reply b ms (Reads t u) ok = λ is. far_safe σ s c sn kinds alike at (Hget σ.names.unacked t) reply tt (record { hand = refl; ran = refl; pushes = refl })
  safe_plain from to cm some reply b ms (Leaves w r) ok = λ is. set_safe σ s c sn kinds alike _ Unwatch reply (record { hand = refl; ran = refl; pushes = refl })
  safe_plain from to cm some reply b ms (Refuses f g cm' x y st) ok = safe_plain f g cm x reply b ms st ok

  -- a subscribed client is in no block
  abbrev answered_spoken : Bool → List Bytes → List Value → Command → State × Value
  answered_spoken b ch ms cm = spoken at s c (conn_in Idle b ch ms) cm None (is_heard cm)

  spoken_safe : (b : Bool) (ch : List Bytes) (ms : List Value) (cm : Command) (reply : Value) → sn.hand ≡ None → reply ≡ (answered_spoken b ch ms cm).1 → Safe σ s (answered_spoken b ch ms cm).0 c sn cm reply
  spoken_safe b ch ms (Subscribe x) reply hand is = set_safe σ s c sn kinds alike _ (Subscribe x) reply (record { hand = refl; ran = refl; pushes = refl })
  spoken_safe b ch ms (Unsubscribe x) reply hand is = set_safe σ s c sn kinds alike _ (Unsubscribe x) reply (record { hand = refl; ran = refl; pushes = refl })
  spoken_safe b ch ms Ping reply hand is = same_safe σ s c sn kinds alike Ping reply (record { hand = refl; ran = refl; pushes = refl })
  spoken_safe b ch ms (Faulty fault true) reply hand is = far_safe σ s c sn kinds alike at (Faulty fault true) reply tt (record { hand = refl; ran = refl; pushes = refl })
  spoken_safe b ch ms (Faulty fault false) reply hand is = same_safe σ s c sn kinds alike (Faulty fault false) reply (record { hand = refl; ran = refl; pushes = refl })
  spoken_safe b ch ms other reply hand is = same_safe σ s c sn kinds alike other reply (bare_quiet σ sn other reply hand (error_bare reply _ is))

  -- ---- where the client then stands

  -- the client then stands here
  abbrev pub StandsGoal : Cursor → Bool → List Bytes → List Value → Command → Value → Cursor → Type 0
  StandsGoal from b ch ms cm reply to = reply ≡ (serve at s c cm (conn_in from b ch ms)).1 → Stands σ (serve at s c cm (conn_in from b ch ms)).0 c to (seen_by σ.names sn cm reply)

  queue_stands : (cs : List Command) (w : List Bytes) (h : Option (Bytes × Bytes)) (r : Option (Bytes × Bytes × Option Value)) (cm : Command) (q : is_queued cm ≡ true) (b room : Bool) (ms : List Value) → Ready σ s c sn (At (Some cs) w h r) b [] ms
      → queued ≡ (to_queue s c (conn_in (At (Some cs) w h r) b [] ms) (record { commands = cs; broken = false }) cm true room).1
      → Stands σ (to_queue s c (conn_in (At (Some cs) w h r) b [] ms) (record { commands = cs; broken = false }) cm true room).0 c (At (Some (cs ++ cm ∷ [])) w h r) (seen_by σ.names sn cm queued)
  queue_stands cs w h r cm q b true ms ok is = set_stands σ s c sn kinds alike (At (Some (cs ++ cm ∷ [])) w h r) b [] ms _ (record { free = ok.mark_ok.free; held = ok.mark_ok.held }) (inl refl)
      (record { hand = (queued_quiet σ sn cm queued q (status_bare queued _ refl)).hand ∙ ok.is.hand; since = queued_since sn.since cm q ∙ ap (λ l. l ++ cm ∷ []) ok.is.since; asked = subst (AskedIs r) (sym (queued_asked sn.asked cm q)) ok.is.asked })
  queue_stands cs w h r cm q b false ms ok is = absurd (cc is)

  ends_stands : (cs : List Command) (w : List Bytes) (h : Option (Bytes × Bytes)) (r : Option (Bytes × Bytes × Option Value)) (b : Bool) (ms : List Value) (xs : List Value) → StandsGoal (At (Some cs) w h r) b [] ms Exec (Array xs) Idle
  ends_stands cs w h r true ms xs is = absurd (cc is)
  ends_stands cs w h r false ms xs is = exec_stands σ at (conns_for ms) s c sn kinds alike ms cs _ refl

  free_mark : MarkOk σ Idle s.keys false
  free_mark = record { free = λ w. refl; held = tt }

  fails_stands : (cs : List Command) (w : List Bytes) (h : Option (Bytes × Bytes)) (r : Option (Bytes × Bytes × Option Value)) (b : Bool) (ms : List Value) → StandsGoal (At (Some cs) w h r) b [] ms Exec NullArray Idle
  fails_stands cs w h r true ms is = set_stands σ s c sn kinds alike Idle false [] ms _ free_mark (inl refl) (record { hand = refl; since = tt; asked = tt })
  fails_stands cs w h r false ms is = absurd (cc is)

  talk_stands : (cm : Command) (b : Bool) (ms : List Value) (reply : Value) → IsTalk cm → Ready σ s c sn Idle b [] ms → StandsGoal Idle b [] ms cm reply Idle
  talk_stands (Subscribe x) b ms reply t ok is = set_stands σ s c sn kinds alike Idle b _ ms _ ok.mark_ok (inr refl) (record { hand = ok.is.hand; since = tt; asked = tt })
  talk_stands (Unsubscribe x) b ms reply t ok is = set_stands σ s c sn kinds alike Idle b _ ms _ ok.mark_ok (inr refl) (record { hand = ok.is.hand; since = tt; asked = tt })
  talk_stands other b ms reply t ok is = absurd t

  stands_plain : (from to : Cursor) (cm : Command) (reply : Value) (b : Bool) (ms : List Value) → Step σ from cm reply to → Live to → Ready σ s c sn from b [] ms → StandsGoal from b [] ms cm reply to
  stands_plain from to cm reply b ms (Passes_by w h cm' x far) l ok =
      subst (λ (p : State × Value). reply ≡ p.1 → Stands σ p.0 c from (seen_by σ.names sn cm reply)) (sym (aside_plain at s c (conn_in (At None w h None) b [] ms) cm far.1))
      (λ is. ran_stands cm from _ (record { hand = (aside_quiet σ e s.keys sn cm reply far is).hand ∙ ok.is.hand; since = tt; asked = tt }) (stands_of σ s c sn from b [] ms ok))
  stands_plain from to cm reply b ms (Asks t u e' x told) l ok = λ is.
      let st = ran_stands (Smembers (σ.names.binding e')) (At None (σ.names.unacked ∷ []) None (Some (t, u, None))) sn ok.is (stands_of σ s c sn (At None (σ.names.unacked ∷ []) None (Some (t, u, None))) b [] ms ok) in
      record { marked = st.marked; channels = []; pending = st.pending; mine = st.mine; mark_ok = record { free = st.mark_ok.free; held = st.mark_ok.held }; talk_ok = inl refl; is = record { hand = ok.is.hand; since = tt; asked = refl } }
  stands_plain from to cm reply b ms (Talks cm' x t) l ok = talk_stands cm b ms reply t ok
  stands_plain from to cm reply b ms (Publishes k v n q) l ok = λ is. ran_stands (Lpush k (v ∷ [])) Idle _ (record { hand = ok.is.hand; since = tt; asked = tt }) (stands_of σ s c sn Idle b [] ms ok)
  stands_plain from to cm reply b ms (Finds_none ks qs) l ok = λ is. ran_stands (Brpop ks) Idle _ (record { hand = (bare_quiet σ sn (Brpop ks) NullArray ok.is.hand (null_bare NullArray refl)).hand ∙ ok.is.hand; since = tt; asked = tt }) (stands_of σ s c sn Idle b [] ms ok)
  stands_plain from to cm reply b ms (Finds_other ks q v qs none) l ok = λ is. ran_stands (Brpop ks) Idle _ (record { hand = found_tag ks q v (brpop_done (keys_of σ) e s.keys ks kinds qs) is ∙ none; since = tt; asked = tt }) (stands_of σ s c sn Idle b [] ms ok)
  stands_plain from to cm reply b ms (Finds ks q v t qs tag) l ok = λ is.
      let st = ran_stands (Brpop ks) Idle sn ok.is (stands_of σ s c sn Idle b [] ms ok) in
      record { marked = st.marked; channels = []; pending = st.pending; mine = st.mine; mark_ok = record { free = st.mark_ok.free; held = tt }; talk_ok = inl refl; is = record { hand = found_tag ks q v (brpop_done (keys_of σ) e s.keys ks kinds qs) is ∙ tag; since = tt; asked = tt } }
  stands_plain from to cm reply b ms (Begins w h r) l ok = λ is. set_stands σ s c sn kinds alike (At (Some []) w h r) b [] ms _ (record { free = ok.mark_ok.free; held = ok.mark_ok.held }) (inl refl) (record { hand = ok.is.hand; since = refl; asked = ok.is.asked })
  stands_plain from to cm reply b ms (Queues cs w h r cm' q) l ok =
      subst (λ (p : State × Value). queued ≡ p.1 → Stands σ p.0 c (At (Some (cs ++ cm ∷ [])) w h r) (seen_by σ.names sn cm queued)) (sym (queued_inside at s c (conn_in (At (Some cs) w h r) b [] ms) (record { commands = cs; broken = false }) cm q))
      (queue_stands cs w h r cm q b (nat_lt (length cs) 4096) ms ok)
  stands_plain from to cm reply b ms (Ends cs w h r xs whole) l ok = ends_stands cs w h r b ms xs
  stands_plain from to cm reply b ms (Fails cs w h r whole) l ok = fails_stands cs w h r b ms
  stands_plain from to cm reply b ms (Watches k) l ok = λ is. set_stands σ s c sn kinds alike (At None (k ∷ []) None None) b [] ms _ (record { free = λ z. absurd (cc z); held = tt }) (inl refl) (record { hand = ok.is.hand; since = tt; asked = tt })
  stands_plain from to cm reply b ms (Reads t u) l ok = λ is.
      let st = ran_stands (Hget σ.names.unacked t) (At None (σ.names.unacked ∷ []) None None) sn ok.is (stands_of σ s c sn (At None (σ.names.unacked ∷ []) None None) b [] ms ok) in
      record { marked = st.marked; channels = []; pending = st.pending; mine = st.mine; mark_ok = record { free = st.mark_ok.free; held = (refl, λ not_yet. field_is t u (value_at s.keys σ.names.unacked) is) }; talk_ok = inl refl; is = record { hand = ok.is.hand; since = tt; asked = tt } }
  stands_plain from to cm reply b ms (Leaves w r) l ok = λ is. set_stands σ s c sn kinds alike Idle false [] ms _ free_mark (inl refl) (record { hand = ok.is.hand; since = tt; asked = tt })
  stands_plain from to cm reply b ms (Refuses f g cm' x y st) l ok = absurd l

  -- what a subscribed connection is told, and where it then stands
  same_spoken : (b : Bool) (ch : List Bytes) (ms : List Value) (cm : Command) (reply : Value) → hand_by σ.names sn.hand cm reply ≡ sn.hand → Ready σ s c sn Idle b ch ms → Stands σ s c Idle (seen_by σ.names sn cm reply)
  same_spoken b ch ms cm reply hand ok = record { marked = b; channels = ch; pending = ms; mine = ok.mine; mark_ok = ok.mark_ok; talk_ok = inr refl; is = record { hand = hand ∙ ok.is.hand; since = tt; asked = tt } }

  aside_spoken : (b : Bool) (ch : List Bytes) (ms : List Value) (cm : Command) (reply : Value) → is_aside cm ≡ true → Ready σ s c sn Idle b ch ms → reply ≡ (answered_spoken b ch ms cm).1 → Stands σ (answered_spoken b ch ms cm).0 c Idle (seen_by σ.names sn cm reply)
  aside_spoken b ch ms (Subscribe x) reply far ok is = absurd (cc far)
  aside_spoken b ch ms (Unsubscribe x) reply far ok is = absurd (cc far)
  aside_spoken b ch ms Ping reply far ok is = same_spoken b ch ms Ping reply refl ok
  aside_spoken b ch ms (Faulty fault true) reply far ok is = ran_stands (Faulty fault true) Idle _ (record { hand = ok.is.hand; since = tt; asked = tt }) (stands_of σ s c sn Idle b ch ms ok)
  aside_spoken b ch ms (Faulty fault false) reply far ok is = same_spoken b ch ms (Faulty fault false) reply refl ok
  aside_spoken b ch ms other reply far ok is = same_spoken b ch ms other reply ((bare_quiet σ sn other reply ok.is.hand (error_bare reply _ is)).hand) ok

  talk_spoken : (b : Bool) (ch : List Bytes) (ms : List Value) (cm : Command) (reply : Value) → IsTalk cm → Ready σ s c sn Idle b ch ms → Stands σ (answered_spoken b ch ms cm).0 c Idle (seen_by σ.names sn cm reply)
  talk_spoken b ch ms (Subscribe x) reply t ok = set_stands σ s c sn kinds alike Idle b _ ms _ ok.mark_ok (inr refl) (record { hand = ok.is.hand; since = tt; asked = tt })
  talk_spoken b ch ms (Unsubscribe x) reply t ok = set_stands σ s c sn kinds alike Idle b _ ms _ ok.mark_ok (inr refl) (record { hand = ok.is.hand; since = tt; asked = tt })
  talk_spoken b ch ms other reply t ok = absurd t

  stands_spoken : (to : Cursor) (cm : Command) (reply : Value) (b : Bool) (ch : List Bytes) (ms : List Value) → Step σ Idle cm reply to → Live to → Ready σ s c sn Idle b ch ms → reply ≡ (answered_spoken b ch ms cm).1 → Stands σ (answered_spoken b ch ms cm).0 c to (seen_by σ.names sn cm reply)
  stands_spoken to cm reply b ch ms (Passes_by w h cm' x far) l ok is = aside_spoken b ch ms cm reply far.1 ok is
  stands_spoken to cm reply b ch ms (Talks cm' x t) l ok is = talk_spoken b ch ms cm reply t ok
  stands_spoken to cm reply b ch ms (Publishes k v n q) l ok is = absurd (cc is)
  stands_spoken to cm reply b ch ms (Finds_none ks qs) l ok is = absurd (cc is)
  stands_spoken to cm reply b ch ms (Finds_other ks q v qs none) l ok is = absurd (cc is)
  stands_spoken to cm reply b ch ms (Finds ks q v t qs tag) l ok is = absurd (cc is)
  stands_spoken to cm reply b ch ms (Begins w h r) l ok is = absurd (cc is)
  stands_spoken to cm reply b ch ms (Watches k) l ok is = absurd (cc is)
  stands_spoken to cm reply b ch ms (Leaves w r) l ok is = absurd (cc is)
  stands_spoken to cm reply b ch ms (Refuses f g cm' x y st) l ok is = absurd l

  -- ---- the step

  effect_spoken : (to : Cursor) (cm : Command) (reply : Value) (b : Bool) (x : Bytes) (xs : List Bytes) (ms : List Value) → Step σ Idle cm reply to → Ready σ s c sn Idle b (x ∷ xs) ms → reply ≡ (serve at s c cm (conn_in Idle b (x ∷ xs) ms)).1 → Effect σ s (serve at s c cm (conn_in Idle b (x ∷ xs) ms)).0 c to sn cm reply
  effect_spoken to cm reply b x xs ms st ok is = record { safe = spoken_safe b (x ∷ xs) ms cm reply ok.is.hand is; lands = λ l. stands_spoken to cm reply b (x ∷ xs) ms st l ok is }

  effect_at : (from to : Cursor) (cm : Command) (reply : Value) (b : Bool) (ch : List Bytes) (ms : List Value) → Step σ from cm reply to → Ready σ s c sn from b ch ms → reply ≡ (serve at s c cm (conn_in from b ch ms)).1 → Effect σ s (serve at s c cm (conn_in from b ch ms)).0 c to sn cm reply
  effect_at from to cm reply b [] ms st ok is = record { safe = safe_plain from to cm reply reply b ms st ok is; lands = λ l. stands_plain from to cm reply b ms st l ok is }
  effect_at from to cm reply b (x ∷ xs) ms st ok is = go ok.talk_ok st ok is
    where
      go : ((x ∷ xs) ≡ []) ⊎ (from ≡ Idle) → Step σ from cm reply to → Ready σ s c sn from b (x ∷ xs) ms → reply ≡ (serve at s c cm (conn_in from b (x ∷ xs) ms)).1 → Effect σ s (serve at s c cm (conn_in from b (x ∷ xs) ms)).0 c to sn cm reply
      go (inl z) = absurd (cc z)
      go (inr z) = subst (λ f. Step σ f cm reply to → Ready σ s c sn f b (x ∷ xs) ms → reply ≡ (serve at s c cm (conn_in f b (x ∷ xs) ms)).1 → Effect σ s (serve at s c cm (conn_in f b (x ∷ xs) ms)).0 c to sn cm reply) (sym z) (λ st' ok' is'. effect_spoken to cm reply b x xs ms st' ok' is')

  pub effect_of : (from to : Cursor) (cm : Command) (reply : Value) → Step σ from cm reply to → (ok : Stands σ s c from sn) → reply ≡ (serve at s c cm (conn_in from ok.marked ok.channels ok.pending)).1
      → Effect σ s (serve at s c cm (conn_in from ok.marked ok.channels ok.pending)).0 c to sn cm reply
  effect_of from to cm reply st ok is = effect_at from to cm reply ok.marked ok.channels ok.pending st (record { mine = ok.mine; mark_ok = ok.mark_ok; talk_ok = ok.talk_ok; is = ok.is }) is
