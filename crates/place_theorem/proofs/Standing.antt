-- What each step adds to the envelopes that stand in the store: what it publishes, and what its client has in hand.
use Rattle.std.proofs.Common.{Bool, List, None, Option, Some, [], ap, false, inl, inr, length, nat_lt, pos, refl, subst, sym, true, ℕ, ◌∙◌, ◌∷◌, ◌≡◌, ◌≢◌, ◌⊎◌}
use Rattle.std.specs.FinMap.{insert}
use Rattle.wire_values.specs.declared.value.Value.{Value}
use Rattle.store_model.specs.Commands.{Around, run}
use Rattle.store_model.specs.Connections.{Conns, around, posted}
use Rattle.store_model.specs.Keys.{Keys, value_at, value_of}
use Rattle.store_model.specs.Lists.{brpop, brpop_at, shortened}
use Rattle.store_model.specs.Replies.{pair}
use Rattle.store_model.specs.Store.{State, is_heard, run_all, serve, spoken, to_queue}
use Rattle.store_model.specs.Words.{front}
use Rattle.store_model.specs.declared.command.Command.{Command}
use Rattle.store_model.specs.declared.command.Command.TheVariants.{Del, Exec, Faulty, Hdel, Hset, Ping, Subscribe, Unsubscribe, Zadd, Zrem}
use Rattle.store_model.specs.declared.connection.Conn.{Conn}
use Rattle.store_model.specs.declared.connection.Queue.{Queue}
use Rattle.store_model.specs.declared.held.Stored.{Stored}
use Rattle.store_model.specs.declared.held.Stored.TheVariants.{Items}
use Rattle.store_laws.proofs.Changes.{lpush_done, queue_not_index, queue_not_unacked, unacked_not_index}
use Rattle.store_laws.proofs.Elements.{among_append, brpop_gives, shortened_among, shortened_away}
use Rattle.store_laws.proofs.Fields.{hdel_from, hset_from}
use Rattle.store_laws.proofs.Law.{altering, framed}
use Rattle.command_blocks.specs.Answers.{number_of}
use Rattle.place_model.specs.Counts.{table_entry, field_of}
use Rattle.place_model.specs.Identity.{HasEnvelope, In_a_list, In_the_table, IsPush}
use Rattle.queue_keys.specs.Names.{Bytes, same}
use Rattle.queue_keys.specs.QueueKeys.{Among, IsAway}
use Rattle.place_model.specs.Returns.{gain, push_command, push_commands}
use Rattle.place_model.specs.Seen.{Seen}
use Rattle.command_blocks.specs.Setting.{is_queue}
use Rattle.place_model.specs.Starts.{IsHashOrNone, elements_at, elements_of}
use Rattle.command_blocks.specs.declared.side.Side.{Side}
use Rattle.command_blocks.specs.declared.side.Side.TheVariants.{Left, Right}
use Rattle.place_theorem.proofs.Effects.{Ready, aside_plain, queued_inside}
use Rattle.place_theorem.proofs.Full.{Alike, Full, Kinds, QueueKeys, keys_of}
use Rattle.place_theorem.proofs.Machine.{Asks, At, Begins, Cursor, Ends, Fails, Finds, Finds_none, Finds_other, Idle, IsTalk, Leaves, Passes_by, Publishes, Queues, Reads, Refuses, Step, Talks, Watches, Whole, Whole_end, Whole_free, Whole_pop, Whole_return}
use Rattle.place_theorem.proofs.Pushed.{among_queue, push_away, push_gains}
use Rattle.place_theorem.proofs.Safe.{SameOurs, conn_in, far_same, held_in}
use Rattle.place_theorem.proofs.Transactions.{end_turned, push_done}
use Rattle.place_theorem.proofs.Values.{number_of-Integer, text_or}

module _ (σ : Full) (t b : Bytes) where
  stood_same : (m m' : Keys) → SameOurs σ m m' → HasEnvelope σ.names m' t b → HasEnvelope σ.names m t b
  stood_same m m' same (In_a_list k v q is tag body) = In_a_list k v q (subst (Among v) (ap (λ o. elements_of (value_of o)) (same k (inl q))) is) tag body
  stood_same m m' same (In_the_table u is body) = In_the_table u (sym (ap (λ o. field_of (value_of o) t) (same σ.names.unacked (inr (inl refl)))) ∙ is) body

  among_gain : (side : Side) (x v : Bytes) (xs : List Bytes) → Among x (gain side v xs) → (x ≡ v) ⊎ Among x xs
  among_gain Left x v xs is = is
  among_gain Right x v xs is = among_append x v xs is

  -- the new one
  abbrev New : Bytes → Type 0
  New v = (σ.names.tag_of v ≡ Some t) × (σ.names.body_of v ≡ b)

  stood_push : (e : Around) (m : Keys) (side : Side) (k v : Bytes) → Kinds σ m → is_queue σ.names k ≡ true → HasEnvelope σ.names (run e m (push_command side k v)).keys t b → HasEnvelope σ.names m t b ⊎ New v
  stood_push e m side k v kinds q (In_a_list k' x q' is tag body) = go (text_or k' k)
    where
      go : (k' ≡ k) ⊎ (k' ≢ k) → HasEnvelope σ.names m t b ⊎ New v
      go (inl same) =
          let here : Among x (gain side v (elements_at m k)) = subst (Among x) (push_gains e m side k v (kinds.lists k q)) (subst (λ z. Among x (elements_at (run e m (push_command side k v)).keys z)) same is) in
          elim (among_gain side x v (elements_at m k) here) [
            | inl equal_v ↦ inr (sym (ap σ.names.tag_of equal_v) ∙ tag, sym (ap σ.names.body_of equal_v) ∙ body)
            | inr old ↦ inl (In_a_list k x q old tag body)
          ]
      go (inr n) = inl (In_a_list k' x q' (subst (Among x) (ap (λ o. elements_of (value_of o)) (push_away e m side v k k' n)) is) tag body)
  stood_push e m side k v kinds q (In_the_table u is body) = inl (In_the_table u (sym (ap (λ o. field_of (value_of o) t) (push_away e m side v k σ.names.unacked (queue_not_unacked (keys_of σ) k q))) ∙ is) body)

  stood_pushes : (at : ℕ) (cs : Conns) (m : Keys) (side : Side) (v : Bytes) (ks : List Bytes) → Kinds σ m → QueueKeys σ ks → HasEnvelope σ.names (run_all at m cs (push_commands side v ks)).keys t b → HasEnvelope σ.names m t b ⊎ New v
  stood_pushes at cs m side v [] kinds qs st = inl st
  stood_pushes at cs m side v (k ∷ ks) kinds qs st =
      let e = around at cs in
      elim (stood_pushes at (posted (push_command side k v) cs) (run e m (push_command side k v)).keys side v ks (push_done σ e m side k v kinds qs.0).after.kinds qs.1 st) [
        | inl old ↦ stood_push e m side k v kinds qs.0 old
        | inr new ↦ inr new
      ]

  stood_short : (m : Keys) (k x : Bytes) (xs : List Bytes) → is_queue σ.names k ≡ true → value_at m k ≡ Some (Items (x ∷ xs)) → HasEnvelope σ.names (shortened m k (front x xs)) t b → HasEnvelope σ.names m t b
  stood_short m k x xs q was (In_a_list k' y q' is tag body) = go (text_or k' k)
    where
      go : (k' ≡ k) ⊎ (k' ≢ k) → HasEnvelope σ.names m t b
      go (inl same) = In_a_list k y q (shortened_among m k x y xs was (subst (λ z. Among y (elements_at (shortened m k (front x xs)) z)) same is)) tag body
      go (inr n) = In_a_list k' y q' (subst (Among y) (ap (λ o. elements_of (value_of o)) (shortened_away m k k' (front x xs) n)) is) tag body
  stood_short m k x xs q was (In_the_table u is body) = In_the_table u (sym (ap (λ o. field_of (value_of o) t) (shortened_away m k σ.names.unacked (front x xs) (queue_not_unacked (keys_of σ) k q))) ∙ is) body

  stood_brpop : (m : Keys) (ks : List Bytes) → QueueKeys σ ks → HasEnvelope σ.names (brpop m ks).keys t b → HasEnvelope σ.names m t b
  stood_brpop m [] qs st = st
  stood_brpop m (k ∷ ks) qs st = go (value_at m k) refl (stood_brpop m ks qs.1) st
    where
      go : (o : Option Stored) → value_at m k ≡ o → (HasEnvelope σ.names (brpop m ks).keys t b → HasEnvelope σ.names m t b) → HasEnvelope σ.names (brpop_at m k o (brpop m ks)).keys t b → HasEnvelope σ.names m t b
      go None was later st' = later st'
      go (Some (Items [])) was later st' = later st'
      go (Some (Items (x ∷ xs))) was later st' = stood_short m k x xs qs.0 was st'
      go (Some other) was later st' = st'

  -- what BRPOP gave stood in a list
  stood_given : (m : Keys) (ks : List Bytes) (q v : Bytes) → QueueKeys σ ks → pair q v ≡ (brpop m ks).answer → σ.names.tag_of v ≡ Some t → σ.names.body_of v ≡ b → HasEnvelope σ.names m t b
  stood_given m ks q v qs is tag body = let g = brpop_gives m ks q v is in In_a_list q v (among_queue σ q ks qs g.0) g.1 tag body

  -- a command on the index alone
  stood_index : (e : Around) (m : Keys) (cm : Command) → altering cm ≡ σ.names.index ∷ [] → HasEnvelope σ.names (run e m cm).keys t b → HasEnvelope σ.names m t b
  stood_index e m cm at (In_a_list k v q is tag body) =
      In_a_list k v q (subst (Among v) (ap (λ o. elements_of (value_of o)) ((framed e m cm).away k (subst (IsAway k) (sym at) ((λ z. queue_not_index (keys_of σ) k q (sym z)), tt)))) is) tag body
  stood_index e m cm at (In_the_table u is body) =
      In_the_table u (sym (ap (λ o. field_of (value_of o) t) ((framed e m cm).away σ.names.unacked (subst (IsAway σ.names.unacked) (sym at) (unacked_not_index (keys_of σ), tt)))) ∙ is) body

  list_kept : (e : Around) (m : Keys) (cm : Command) (k : Bytes) → altering cm ≡ σ.names.unacked ∷ [] → is_queue σ.names k ≡ true → elements_at (run e m cm).keys k ≡ elements_at m k
  list_kept e m cm k at q = ap (λ o. elements_of (value_of o)) ((framed e m cm).away k (subst (IsAway k) (sym at) ((λ z. queue_not_unacked (keys_of σ) k q (sym z)), tt)))

  some_inj : (x y : Bytes) → Some x ≡ Some y → x ≡ y
  some_inj x y e = cc e

  stood_set : (e : Around) (m : Keys) (x u : Bytes) → IsHashOrNone (value_at m σ.names.unacked) → HasEnvelope σ.names (run e m (Hset σ.names.unacked x u)).keys t b → HasEnvelope σ.names m t b ⊎ ((x ≡ t) × (σ.names.body_in u ≡ b))
  stood_set e m x u is (In_a_list k v q am tag body) = inl (In_a_list k v q (subst (Among v) (list_kept e m (Hset σ.names.unacked x u) k refl q) am) tag body)
  stood_set e m x u is (In_the_table w at body) = elim (hset_from e m σ.names.unacked x u t w is at) [
    | inl old ↦ inl (In_the_table w old body)
    | inr new ↦ inr (new.0, ap σ.names.body_in new.1 ∙ body)
  ]

  stood_cut : (e : Around) (m : Keys) (x : Bytes) → IsHashOrNone (value_at m σ.names.unacked) → HasEnvelope σ.names (run e m (Hdel σ.names.unacked (x ∷ []))).keys t b → HasEnvelope σ.names m t b
  stood_cut e m x is (In_a_list k v q am tag body) = In_a_list k v q (subst (Among v) (list_kept e m (Hdel σ.names.unacked (x ∷ [])) k refl q) am) tag body
  stood_cut e m x is (In_the_table w at body) = In_the_table w (hdel_from e m σ.names.unacked x t w is at) body

  -- ---- the steps

  -- the client has it in hand
  abbrev pub Holds : Option (Bytes × Bytes) → Type 0
  Holds None = ⊥
  Holds (Some h) = (h.0 ≡ t) × (σ.names.body_of h.1 ≡ b)

  -- it stood there, was published by the call, or was in hand
  abbrev pub Comes : State → Cursor → Command → Value → Type 0
  Comes s from cm reply = HasEnvelope σ.names s.keys t b ⊎ (IsPush σ.names t b cm reply ⊎ Holds (held_in from))

  module _ (at : ℕ) (s : State) (c : ℕ) (sn : Seen) (kinds : Kinds σ s.keys) (alike : Alike σ s.keys) where
    hash_after : (e : Around) (cm : Command) → altering cm ≡ σ.names.index ∷ [] → IsHashOrNone (value_at (run e s.keys cm).keys σ.names.unacked)
    hash_after e cm is = subst IsHashOrNone (sym (ap value_of ((framed e s.keys cm).away σ.names.unacked (subst (IsAway σ.names.unacked) (sym is) (unacked_not_index (keys_of σ), tt))))) kinds.table

    -- the keys after the transaction
    whole_comes : (cs : List Command) (w : List Bytes) (h : Option (Bytes × Bytes)) (r : Option (Bytes × Bytes × Option Value)) (mark : Bool) (ps : List Value) (reply : Value) → Whole σ cs w h r → Ready σ s c sn (At (Some cs) w h r) mark [] ps
        → HasEnvelope σ.names (serve at s c Exec (conn_in (At (Some cs) w h r) mark [] ps)).0.keys t b → Comes s (At (Some cs) w h r) Exec reply
    whole_comes cs w h r true ps reply whole ok st = inl st
    whole_comes cs w h r false ps reply (Whole_pop x v n tag) ok st =
        let e = around at (insert s.conns c (conn_in Idle false [] ps)) in
        elim (stood_set e (run e s.keys (Zadd σ.names.index n x)).keys x (σ.names.entry_of v) (hash_after e (Zadd σ.names.index n x) refl) st) [
          | inl old ↦ inl (stood_index e s.keys (Zadd σ.names.index n x) refl old)
          | inr new ↦ inr (inr (new.0, sym (σ.laws.entry_body v) ∙ new.1))
        ]
    whole_comes cs w h r false ps reply (Whole_end x) ok st =
        let e = around at (insert s.conns c (conn_in Idle false [] ps)) in
        inl (stood_index e s.keys (Zrem σ.names.index (x ∷ [])) refl (stood_cut e (run e s.keys (Zrem σ.names.index (x ∷ []))).keys x (hash_after e (Zrem σ.names.index (x ∷ [])) refl) st))
    whole_comes cs w h r false ps reply (Whole_return side x u v ms a carries asked) ok st =
        let conns' : Conns = insert s.conns c (conn_in Idle false [] ps) in
        let e = around at conns' in
        let mid = (run e (run e s.keys (Zrem σ.names.index (x ∷ []))).keys (Hdel σ.names.unacked (x ∷ []))).keys in
        elim (stood_pushes at conns' mid side v (σ.names.keys_in u ms) (end_turned σ at conns' s c sn kinds alike x).kinds (σ.laws.keys_in_are u ms) st) [
          | inl old ↦ inl (stood_index e s.keys (Zrem σ.names.index (x ∷ [])) refl (stood_cut e (run e s.keys (Zrem σ.names.index (x ∷ []))).keys x (hash_after e (Zrem σ.names.index (x ∷ [])) refl) old))
          | inr new ↦
              let same : x ≡ t = some_inj x t (sym carries.1 ∙ new.0) in
              let was : table_entry σ.names s.keys t ≡ Some u = subst (λ z. table_entry σ.names s.keys z ≡ Some u) same (ok.mark_ok.held.1 refl) in
              inl (In_the_table u was (sym (σ.laws.carried_body u v carries.0) ∙ new.1))
        ]
    whole_comes cs w h r false ps reply (Whole_free ks w' far) ok st = inl (stood_same s.keys _ (far_same σ (around at (insert s.conns c (conn_in Idle false [] ps))) s.keys (Del ks) far) st)

    queue_comes : (cn : Conn) (q : Queue) (cm : Command) (room : Bool) → HasEnvelope σ.names (to_queue s c cn q cm true room).0.keys t b → HasEnvelope σ.names s.keys t b
    queue_comes cn q cm true st = st
    queue_comes cn q cm false st = st

    talk_comes : (cm : Command) (mark : Bool) (ps : List Value) → IsTalk cm → HasEnvelope σ.names (serve at s c cm (conn_in Idle mark [] ps)).0.keys t b → HasEnvelope σ.names s.keys t b
    talk_comes (Subscribe x) mark ps h st = st
    talk_comes (Unsubscribe x) mark ps h st = st
    talk_comes other mark ps h st = absurd h

    comes_plain : (from to : Cursor) (cm : Command) (some reply : Value) (mark : Bool) (ps : List Value) → Step σ from cm some to → Ready σ s c sn from mark [] ps → reply ≡ (serve at s c cm (conn_in from mark [] ps)).1
        → HasEnvelope σ.names (serve at s c cm (conn_in from mark [] ps)).0.keys t b → Comes s from cm reply
    comes_plain from to cm some reply mark ps (Passes_by w h cm' x far) ok is st =
        inl (stood_same s.keys _ (far_same σ (around at s.conns) s.keys cm far.0) (subst (λ (p : State × Value). HasEnvelope σ.names p.0.keys t b) (aside_plain at s c (conn_in (At None w h None) mark [] ps) cm far.1) st))
    comes_plain from to cm some reply mark ps (Asks x u e y named) ok is st = inl st
    comes_plain from to cm some reply mark ps (Talks cm' x h) ok is st = inl (talk_comes cm mark ps h st)
    comes_plain from to cm some reply mark ps (Publishes k v n q) ok is st = elim (stood_push (around at s.conns) s.keys Left k v kinds q st) [
      | inl old ↦ inl old
      | inr new ↦ let p = lpush_done (keys_of σ) (around at s.conns) s.keys k v kinds q in inr (inl (record { key = k; bytes = v; size = pos p.size; pushes = refl; answered = ap number_of (is ∙ p.answer) ∙ number_of-Integer (pos p.size); queue = q; tag = new.0; body = new.1 }))
    ]
    comes_plain from to cm some reply mark ps (Finds_none ks qs) ok is st = inl (stood_brpop s.keys ks qs st)
    comes_plain from to cm some reply mark ps (Finds_other ks q v qs none) ok is st = inl (stood_brpop s.keys ks qs st)
    comes_plain from to cm some reply mark ps (Finds ks q v x qs tag) ok is st = inl (stood_brpop s.keys ks qs st)
    comes_plain from to cm some reply mark ps (Begins w h r) ok is st = inl st
    comes_plain from to cm some reply mark ps (Queues cs w h r cm' q) ok is st =
        inl (queue_comes (conn_in (At (Some cs) w h r) mark [] ps) (record { commands = cs; broken = false }) cm (nat_lt (length cs) 4096)
        (subst (λ (p : State × Value). HasEnvelope σ.names p.0.keys t b) (queued_inside at s c (conn_in (At (Some cs) w h r) mark [] ps) (record { commands = cs; broken = false }) cm q) st))
    comes_plain from to cm some reply mark ps (Ends cs w h r xs whole) ok is st = whole_comes cs w h r mark ps reply whole ok st
    comes_plain from to cm some reply mark ps (Fails cs w h r whole) ok is st = whole_comes cs w h r mark ps reply whole ok st
    comes_plain from to cm some reply mark ps (Watches k) ok is st = inl st
    comes_plain from to cm some reply mark ps (Reads x u) ok is st = inl st
    comes_plain from to cm some reply mark ps (Leaves w r) ok is st = inl st
    comes_plain from to cm some reply mark ps (Refuses f g cm' x y step) ok is st = comes_plain f g cm x reply mark ps step ok is st

    spoken_comes : (cn : Conn) (cm : Command) → HasEnvelope σ.names (spoken at s c cn cm None (is_heard cm)).0.keys t b → HasEnvelope σ.names s.keys t b
    spoken_comes cn (Subscribe x) st = st
    spoken_comes cn (Unsubscribe x) st = st
    spoken_comes cn Ping st = st
    spoken_comes cn (Faulty fault true) st = st
    spoken_comes cn (Faulty fault false) st = st
    spoken_comes cn other st = st

    -- what stands in the store after a step
    pub comes : (from to : Cursor) (cm : Command) (reply : Value) (mark : Bool) (ch : List Bytes) (ps : List Value) → Step σ from cm reply to → Ready σ s c sn from mark ch ps → reply ≡ (serve at s c cm (conn_in from mark ch ps)).1
        → HasEnvelope σ.names (serve at s c cm (conn_in from mark ch ps)).0.keys t b → Comes s from cm reply
    comes from to cm reply mark [] ps step ok is st = comes_plain from to cm reply reply mark ps step ok is st
    comes from to cm reply mark (x ∷ xs) ps step ok is st = go ok.talk_ok st
      where
        go : ((x ∷ xs) ≡ []) ⊎ (from ≡ Idle) → HasEnvelope σ.names (serve at s c cm (conn_in from mark (x ∷ xs) ps)).0.keys t b → Comes s from cm reply
        go (inl z) st' = absurd (cc z)
        go (inr z) st' = inl (spoken_comes (conn_in Idle mark (x ∷ xs) ps) cm (subst (λ f. HasEnvelope σ.names (serve at s c cm (conn_in f mark (x ∷ xs) ps)).0.keys t b) z st'))

-- what a client has in hand after a step, it had before, or it stood in the store
module _ (σ : Full) (at : ℕ) (s : State) (c : ℕ) where
  -- it was in hand, or stood in the store
  abbrev pub HeldBefore : Cursor → Bytes × Bytes → Type 0
  HeldBefore from h = (held_in from ≡ Some h) ⊎ HasEnvelope σ.names s.keys h.0 (σ.names.body_of h.1)

  held_plain : (from to : Cursor) (cm : Command) (reply : Value) (mark : Bool) (ps : List Value) (h : Bytes × Bytes) → Step σ from cm reply to → reply ≡ (serve at s c cm (conn_in from mark [] ps)).1 → held_in to ≡ Some h → HeldBefore from h
  held_plain from to cm reply mark ps h (Passes_by w h' cm' x far) is in_hand = inl in_hand
  held_plain from to cm reply mark ps h (Asks x u e y named) is in_hand = inl in_hand
  held_plain from to cm reply mark ps h (Talks cm' x h') is in_hand = inl in_hand
  held_plain from to cm reply mark ps h (Publishes k v n q) is in_hand = inl in_hand
  held_plain from to cm reply mark ps h (Finds_none ks qs) is in_hand = inl in_hand
  held_plain from to cm reply mark ps h (Finds_other ks q v qs none) is in_hand = inl in_hand
  held_plain from to cm reply mark ps h (Finds ks q v x qs tag) is in_hand =
      let it : (x, v) ≡ h = cc in_hand in
      inr (subst (λ (z : Bytes × Bytes). HasEnvelope σ.names s.keys z.0 (σ.names.body_of z.1)) it (stood_given σ x (σ.names.body_of v) s.keys ks q v qs is tag refl))
  held_plain from to cm reply mark ps h (Begins w h' r) is in_hand = inl in_hand
  held_plain from to cm reply mark ps h (Queues cs w h' r cm' q) is in_hand = inl in_hand
  held_plain from to cm reply mark ps h (Ends cs w h' r xs whole) is in_hand = absurd (cc in_hand)
  held_plain from to cm reply mark ps h (Fails cs w h' r whole) is in_hand = absurd (cc in_hand)
  held_plain from to cm reply mark ps h (Watches k) is in_hand = absurd (cc in_hand)
  held_plain from to cm reply mark ps h (Reads x u) is in_hand = absurd (cc in_hand)
  held_plain from to cm reply mark ps h (Leaves w r) is in_hand = absurd (cc in_hand)
  held_plain from to cm reply mark ps h (Refuses f g cm' x y step) is in_hand = absurd (cc in_hand)

  held_spoken : (to : Cursor) (cm : Command) (reply : Value) (mark : Bool) (ch : List Bytes) (ps : List Value) (h : Bytes × Bytes) → Step σ Idle cm reply to → reply ≡ (spoken at s c (conn_in Idle mark ch ps) cm None (is_heard cm)).1 → held_in to ≡ Some h → ⊥
  held_spoken to cm reply mark ch ps h (Passes_by w h' cm' x far) is in_hand = cc in_hand
  held_spoken to cm reply mark ch ps h (Talks cm' x h') is in_hand = cc in_hand
  held_spoken to cm reply mark ch ps h (Publishes k v n q) is in_hand = cc in_hand
  held_spoken to cm reply mark ch ps h (Finds_none ks qs) is in_hand = cc in_hand
  held_spoken to cm reply mark ch ps h (Finds_other ks q v qs none) is in_hand = cc in_hand
  held_spoken to cm reply mark ch ps h (Finds ks q v x qs tag) is in_hand = cc is
  held_spoken to cm reply mark ch ps h (Begins w h' r) is in_hand = cc in_hand
  held_spoken to cm reply mark ch ps h (Watches k) is in_hand = cc in_hand
  held_spoken to cm reply mark ch ps h (Leaves w r) is in_hand = cc in_hand
  held_spoken to cm reply mark ch ps h (Refuses f g cm' x y step) is in_hand = cc in_hand

  pub held_before : (from to : Cursor) (cm : Command) (reply : Value) (mark : Bool) (ch : List Bytes) (ps : List Value) (h : Bytes × Bytes) → Step σ from cm reply to → (ch ≡ []) ⊎ (from ≡ Idle) → reply ≡ (serve at s c cm (conn_in from mark ch ps)).1 → held_in to ≡ Some h → HeldBefore from h
  held_before from to cm reply mark [] ps h step talk is in_hand = held_plain from to cm reply mark ps h step is in_hand
  held_before from to cm reply mark (x ∷ xs) ps h step (inl z) is in_hand = absurd (cc z)
  held_before from to cm reply mark (x ∷ xs) ps h step (inr z) is in_hand =
      absurd (held_spoken to cm reply mark (x ∷ xs) ps h (subst (λ f. Step σ f cm reply to) z step) (subst (λ f. reply ≡ (serve at s c cm (conn_in f mark (x ∷ xs) ps)).1) z is) in_hand)
