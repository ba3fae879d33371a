-- Each envelope in the store was published with that body, or stood in the start.
use Rattle.std.specs.Prelude.{option_map, if◌then◌else◌}
use Rattle.std.proofs.Common.{◌++◌, Bool, List, None, Option, Some, [], ap, false, inl, inr, nat_cmp, refl, subst, sym, true, ℕ, ◌∙◌, ◌∷◌, ◌≡◌, ◌≢◌, ◌⊎◌}
use Rattle.std.proofs.lemmas.Cmp.{nat_cmp_total}
use Rattle.std.specs.FinMap.{get, insert, nat_cmp-IsAntisymmetric}
use Rattle.wire_values.specs.Layer.{layer}
use Rattle.wire_values.specs.declared.value.Value.{Value}
use Rattle.wire_values.specs.declared.value.Value.TheVariants.{Error, NullArray}
use Rattle.store_model.specs.Connections.{conn}
use Rattle.store_model.specs.Keys.{CommandOutcome, Keys, live_at, value_at, value_of}
use Rattle.store_model.specs.Store.{State, apply_of, gone_of, refused, serve, serve_by, settled}
use Rattle.store_model.specs.Words.{Words, command_of, final}
use Rattle.store_model.specs.Lists.{brpop, brpop_at}
use Rattle.store_model.specs.Replies.{pair}
use Rattle.store_model.specs.declared.command.Command.{Command}
use Rattle.store_model.specs.declared.command.Command.TheVariants.{Brpop, Exec}
use Rattle.store_model.specs.declared.connection.Conn.{Conn}
use Rattle.store_model.specs.declared.connection.Queue.{Queue}
use Rattle.store_model.specs.declared.held.Stored.{Stored}
use Rattle.store_model.specs.declared.held.Stored.TheVariants.{Hash, Items, Members, Scores, Text}
use Rattle.store_model.specs.declared.reply.Reply.{Reply}
use Rattle.store_laws.proofs.Maps.{conn_or, get-insert_other, get-insert_same}
use Rattle.command_blocks.specs.Answers.{pair_of}
use Rattle.command_blocks.specs.Calls.{Call}
use Rattle.command_blocks.specs.Setting.{Setting, is_queue}
use Rattle.place_model.specs.Counts.{field_of, start_count}
use Rattle.place_model.specs.Histories.{AllMayCome, Client, History, IsHistoryPrefix, MayCome, SystemState, after, after_entries, and_then, next, start_from, with_client}
use Rattle.place_model.specs.Identity.{HasAnywhere, HasEnvelope, HasOrigin, held_after, held_by, held_from, In_a_list, In_the_table, IsPublished, IsPush, PushedIn}
use Rattle.queue_keys.specs.Names.{Bytes}
use Rattle.queue_keys.specs.QueueKeys.{Among}
use Rattle.place_model.specs.Seen.{seen}
use Rattle.place_model.specs.Starts.{IsSound, elements_at, elements_of}
use Rattle.place_model.specs.declared.history.Entry.{Entry}
use Rattle.place_model.specs.declared.history.Entry.TheVariants.{Call as Called, Heard, Stop}
use Rattle.place_theorem.proofs.Effects.{Ready}
use Rattle.place_theorem.proofs.Full.{Full, Kinds}
use Rattle.place_theorem.proofs.Kept.{Inv, stopped_is}
use Rattle.place_theorem.proofs.Machine.{Cursor, Idle, Runs, Step, runs_split, step_live}
use Rattle.place_theorem.proofs.Safe.{conn_in, held_in}
use Rattle.place_theorem.proofs.Settle.{get-lasting, state_is, unacked_kept}
use Rattle.place_theorem.proofs.Sound.{all_mannered, inv_begin, parted}
use Rattle.place_theorem.proofs.Standing.{Holds, comes, held_before}
use Rattle.place_theorem.proofs.Whole.{AllMannered, call_in, grows_one, inv_ready, next_called, next_heard, one_entry, prefix_self, ready, ready_keys, runs_to, served, table_get}

-- it stood in the start, or a client published it
abbrev pub OriginIn : Full → Keys → SystemState → Bytes → Bytes → Type 0
OriginIn σ m w t b = HasEnvelope σ.names m t b ⊎ IsPublished σ.names w t b

-- what is known of each envelope that stands in the store, or that a client has in hand, stopped or not
pub record AllKnown (σ : Full) (m : Keys) (w : SystemState) : Type 0 where
  pub stored : (t b : Bytes) → HasEnvelope σ.names w.store.keys t b → OriginIn σ m w t b
  pub held : (c : ℕ) (cl : Client) (t v : Bytes) → get w.clients c ≡ Some cl → held_after σ.names None cl.calls ≡ Some (t, v) → OriginIn σ m w t (σ.names.body_of v)
  pub hands : (c : ℕ) (cl : Client) (cur : Cursor) (h : Bytes × Bytes) → get w.clients c ≡ Some cl → cl.stopped ≡ false → Runs σ Idle cl.calls cur → held_in cur ≡ Some h → OriginIn σ m w h.0 (σ.names.body_of h.1)

-- ---- what a pop gives stood in a list

some_same : {A : Type 0} (x y : A) → Some x ≡ Some y → x ≡ y
some_same x y e = cc e

no_pair : {A : Type 0} (x : Bytes × Bytes) → ◌≡◌ {A = Option (Bytes × Bytes)} None (Some x) → A
no_pair x e = absurd (cc e)

last_among : (x : Bytes) (xs : List Bytes) → Among (final x xs) (x ∷ xs)
last_among x [] = inl refl
last_among x (y ∷ ys) = inr (last_among y ys)

error_pair : (text : Bytes) → pair_of (Error text) ≡ None
unfolding layer
error_pair text = refl

null_pair : pair_of NullArray ≡ None
unfolding layer
null_pair = refl

pair_told : (k v : Bytes) → pair_of (pair k v) ≡ Some (k, v)
unfolding layer
pair_told k v = refl

gave_at : (m : Keys) (k : Bytes) (o : Option Stored) (later : CommandOutcome) (p : Bytes × Bytes) → value_at m k ≡ o → (pair_of later.answer ≡ Some p → Among p.1 (elements_at m p.0)) → pair_of (brpop_at m k o later).answer ≡ Some p → Among p.1 (elements_at m p.0)
gave_at m k None later p is go h = go h
gave_at m k (Some (Items [])) later p is go h = go h
gave_at m k (Some (Items (x ∷ xs))) later p is go h =
    let same : (k, final x xs) ≡ p = some_same (k, final x xs) p (sym (pair_told k (final x xs)) ∙ h) in
    subst (λ z. Among z.1 (elements_at m z.0)) same (subst (λ z. Among (final x xs) (elements_of z)) (sym is) (last_among x xs))
gave_at m k (Some (Text v)) later p is go h = no_pair p (sym (error_pair _) ∙ h)
gave_at m k (Some (Members g)) later p is go h = no_pair p (sym (error_pair _) ∙ h)
gave_at m k (Some (Hash g)) later p is go h = no_pair p (sym (error_pair _) ∙ h)
gave_at m k (Some (Scores g)) later p is go h = no_pair p (sym (error_pair _) ∙ h)

gave : (m : Keys) (ks : List Bytes) (p : Bytes × Bytes) → pair_of (brpop m ks).answer ≡ Some p → Among p.1 (elements_at m p.0)
gave m [] p h = no_pair p (sym null_pair ∙ h)
gave m (k ∷ ks) p h = gave_at m k (value_at m k) (brpop m ks) p refl (gave m ks p) h

refused_pair : (s : State) (c : ℕ) (cn : Conn) (q : Option Queue) (text : Bytes) → pair_of (refused s c cn q (Error text)).1 ≡ None
refused_pair s c cn None text = error_pair text
refused_pair s c cn (Some q) text = error_pair text

-- BRPOP, whatever is known of its connection
popped_stood : (at : ℕ) (s : State) (c : ℕ) (cn : Conn) (ks : List Bytes) (q : Option Queue) (channels : List Bytes) (p : Bytes × Bytes) → pair_of (serve_by at s c cn (Brpop ks) q channels).1 ≡ Some p → Among p.1 (elements_at s.keys p.0)
popped_stood at s c cn ks None [] p h = gave s.keys ks p h
popped_stood at s c cn ks (Some q) [] p h = no_pair p (sym (refused_pair s c cn (Some q) _) ∙ h)
popped_stood at s c cn ks q (x ∷ xs) p h = no_pair p (sym (refused_pair s c cn q _) ∙ h)

held_more : (σ : Setting) (old : Option (Bytes × Bytes)) (xs : List Call) (x : Call) → held_after σ old (xs ++ x ∷ []) ≡ held_by σ (held_after σ old xs) (command_of x.words) x.answer
held_more σ old [] x = refl
held_more σ old (y ∷ xs) x = held_more σ (held_by σ old (command_of y.words) y.answer) xs x

-- a publication stays one
pub pushed_more : (σ : Full) (t b : Bytes) (xs ys : List Call) → PushedIn σ.names t b xs → PushedIn σ.names t b (xs ++ ys)
pushed_more σ t b [] ys p = absurd p
pushed_more σ t b (x ∷ xs) ys (inl p) = inl p
pushed_more σ t b (x ∷ xs) ys (inr p) = inr (pushed_more σ t b xs ys p)

-- the last call may be one
pub pushed_last : (σ : Full) (t b : Bytes) (xs : List Call) (x : Call) → IsPush σ.names t b (command_of x.words) x.answer → PushedIn σ.names t b (xs ++ x ∷ [])
pushed_last σ t b [] x p = inl p
pushed_last σ t b (y ∷ xs) x p = inr (pushed_last σ t b xs x p)

-- what was published stays so
origin_kept : {N : Type 0} (σ : Full) (m : Keys) (w : SystemState) (e : Entry N) (t b : Bytes) → OriginIn σ m w t b → OriginIn σ m (next w e) t b
origin_kept σ m w e t b (inl st) = inl st
origin_kept σ m w e t b (inr o) =
    let g = grows_one w e o.0 o.1.calls (o.1, o.2, prefix_self o.1.calls) in
    inr (o.0, g.0, g.1, subst (PushedIn σ.names t b) g.2.1 (pushed_more σ t b o.1.calls g.2.0 o.3))

settled_stood : (σ : Full) (m : Keys) (at : ℕ) (t b : Bytes) → Kinds σ m → HasEnvelope σ.names (live_at at m) t b → HasEnvelope σ.names m t b
settled_stood σ m at t b kinds (In_a_list k v q is tag body) = In_a_list k v q (subst (Among v) (ap (λ o. elements_of (value_of o)) (get-lasting σ m at kinds k (kinds.lists_last k q))) is) tag body
settled_stood σ m at t b kinds (In_the_table u is body) = In_the_table u (sym (ap (λ o. field_of (value_of o) t) (unacked_kept σ m at kinds)) ∙ is) body

held_origin : (σ : Full) (m : Keys) (w : SystemState) (t b : Bytes) (o : Option (Bytes × Bytes)) → ((h : Bytes × Bytes) → o ≡ Some h → OriginIn σ m w h.0 (σ.names.body_of h.1)) → Holds σ t b o → OriginIn σ m w t b
held_origin σ m w t b None all is = absurd is
held_origin σ m w t b (Some h) all is = subst (λ y. OriginIn σ m w t y) is.1 (subst (λ x. OriginIn σ m w x (σ.names.body_of h.1)) is.0 (all h refl))

module _ (σ : Full) (base : Bytes → ℕ) (m : Keys) (w : SystemState) (inv : Inv σ base w) (known : AllKnown σ m w) where
  -- ---- a call
  module _ (N : Type 0) (c at : ℕ) (words : Words) (reply : Reply) (cl : Client) (is : get w.clients c ≡ Some cl) (runs_on : cl.stopped ≡ false) (right : reply ≡ (apply_of w.store at c words).1) (to₀ : Cursor) (runs₀ : Runs σ Idle (cl.calls ++ call_in at words reply ∷ []) to₀) where
    -- the call
    abbrev pub x : Call
    x = call_in at words reply

    -- the state in which it is served
    abbrev pub s : State
    s = (ready w at c).store

    -- its entry
    abbrev pub entry : Entry N
    entry = Called c at words reply

    -- its client with it
    abbrev pub new : Client
    new = record cl { calls = cl.calls ++ x ∷ [] }

    -- the client's step to where its calls lead
    abbrev pub Takes : Cursor → Type 0
    Takes to = (from : Cursor) × (mark : Bool) × (ch : List Bytes) × (ps : List Value) × Runs σ Idle cl.calls from × Step σ from (command_of words) reply.answer to × Ready σ s c (seen σ.names cl.calls) from mark ch ps
        × (serve at s c (command_of words) (conn s.conns c) ≡ serve at s c (command_of words) (conn_in from mark ch ps))

    step_of : (to : Cursor) → Runs σ Idle (cl.calls ++ x ∷ []) to → Takes to
    step_of to runs =
        let parts = runs_split σ Idle to cl.calls (x ∷ []) runs in
        let step : Step σ parts.0 (command_of words) reply.answer to = subst (λ z. Step σ parts.0 (command_of words) reply.answer z) parts.2.2 parts.2.1 in
        let ok = (inv_ready σ base w at c inv).clients c cl parts.0 is runs_on parts.1 (step_live σ parts.0 to (command_of words) reply.answer step) in (
          parts.0,
          ok.marked,
          ok.channels,
          ok.pending,
          parts.1,
          step,
          record { mine = ok.mine; mark_ok = ok.mark_ok; talk_ok = ok.talk_ok; is = ok.is },
          ap (serve at s c (command_of words)) ok.mine,
        )

    answered : reply.answer ≡ (serve at s c (command_of words) (conn s.conns c)).1
    answered = served w c at words reply right

    state_now : (next w entry).store ≡ (serve at s c (command_of words) (conn s.conns c)).0
    state_now = ap (λ y. y.store) (next_called N w c at words reply cl is) ∙ state_is at (settled w.store at) c words

    before : (t b : Bytes) → HasEnvelope σ.names s.keys t b → OriginIn σ m w t b
    before t b st = known.stored t b (settled_stood σ w.store.keys at t b inv.kinds (subst (λ k. HasEnvelope σ.names k t b) (ready_keys w at c) st))

    hands_before : (from : Cursor) → Runs σ Idle cl.calls from → (h : Bytes × Bytes) → held_in from ≡ Some h → OriginIn σ m w h.0 (σ.names.body_of h.1)
    hands_before from runs h in_hand = known.hands c cl from h is runs_on runs in_hand

    came : (t b : Bytes) → HasEnvelope σ.names (serve at s c (command_of words) (conn s.conns c)).0.keys t b → OriginIn σ m w t b ⊎ IsPush σ.names t b (command_of words) reply.answer
    came t b st =
        let k = step_of to₀ runs₀ in
        let st' : HasEnvelope σ.names (serve at s c (command_of words) (conn_in k.0 k.1 k.2 k.3)).0.keys t b = subst (λ (p : State × Value). HasEnvelope σ.names p.0.keys t b) k.7 st in
        let told' : reply.answer ≡ (serve at s c (command_of words) (conn_in k.0 k.1 k.2 k.3)).1 = answered ∙ ap (λ p. p.1) k.7 in
        elim (comes σ t b at s c (seen σ.names cl.calls) (inv_ready σ base w at c inv).kinds (inv_ready σ base w at c inv).alike k.0 to₀ (command_of words) reply.answer k.1 k.2 k.3 k.5 k.6 told' st') [
          | inl old ↦ inl (before t b old)
          | inr (inl push) ↦ inr push
          | inr (inr held) ↦ inl (held_origin σ m w t b (held_in k.0) (hands_before k.0 k.4) held)
        ]

    hand_came : (to : Cursor) → Runs σ Idle (cl.calls ++ x ∷ []) to → (h : Bytes × Bytes) → held_in to ≡ Some h → OriginIn σ m w h.0 (σ.names.body_of h.1)
    hand_came to runs h in_hand =
        let k = step_of to runs in
        let told' : reply.answer ≡ (serve at s c (command_of words) (conn_in k.0 k.1 k.2 k.3)).1 = answered ∙ ap (λ p. p.1) k.7 in
        elim (held_before σ at s c k.0 to (command_of words) reply.answer k.1 k.2 k.3 h k.5 k.6.talk_ok told' in_hand) [
          | inl old ↦ hands_before k.0 k.4 h old
          | inr st ↦ before h.0 (σ.names.body_of h.1) st
        ]

    -- what it has in hand after this one
    held_came : (t v : Bytes) (command : Command) → command_of words ≡ command → held_by σ.names (held_after σ.names None cl.calls) command reply.answer ≡ Some (t, v) → OriginIn σ m w t (σ.names.body_of v)
    held_came t v Exec e h = no_pair (t, v) h
    held_came t v (Brpop ks) e h = by_pair (pair_of reply.answer) refl h where
      stood : (p : Bytes × Bytes) → pair_of reply.answer ≡ Some p → Among p.1 (elements_at s.keys p.0)
      stood p is = popped_stood at s c (conn s.conns c) ks (conn s.conns c).queue (conn s.conns c).channels p (ap (λ k. pair_of (serve at s c k (conn s.conns c)).1) (sym e) ∙ (sym (ap pair_of answered) ∙ is))

      by_tag : (p : Bytes × Bytes) (o : Option Bytes) → is_queue σ.names p.0 ≡ true → σ.names.tag_of p.1 ≡ o → pair_of reply.answer ≡ Some p → option_map {U = Bytes × Bytes} (λ u. (u, p.1)) o ≡ Some (t, v) → OriginIn σ m w t (σ.names.body_of v)
      by_tag p None q tag is h = no_pair (t, v) h
      by_tag p (Some u) q tag is h =
          let same : (u, p.1) ≡ (t, v) = some_same (u, p.1) (t, v) h in
          let bytes : p.1 ≡ v = ap (λ z. z.1) same in
          let told : σ.names.tag_of v ≡ Some t = ap σ.names.tag_of (sym bytes) ∙ (tag ∙ ap (λ z. Some z.0) same) in
          before t (σ.names.body_of v) (In_a_list p.0 v q (subst (λ z. Among z (elements_at s.keys p.0)) bytes (stood p is)) told refl)

      by_queue : (p : Bytes × Bytes) (b : Bool) → is_queue σ.names p.0 ≡ b → pair_of reply.answer ≡ Some p → (if b then option_map {U = Bytes × Bytes} (λ u. (u, p.1)) (σ.names.tag_of p.1) else held_after σ.names None cl.calls) ≡ Some (t, v) → OriginIn σ m w t (σ.names.body_of v)
      by_queue p true q f h = by_tag p (σ.names.tag_of p.1) q refl f h
      by_queue p false q f h = known.held c cl t v is h

      by_pair : (o : Option (Bytes × Bytes)) → pair_of reply.answer ≡ o → held_from σ.names (held_after σ.names None cl.calls) o ≡ Some (t, v) → OriginIn σ m w t (σ.names.body_of v)
      by_pair None f h = known.held c cl t v is h
      by_pair (Some p) f h = by_queue p (is_queue σ.names p.0) refl f h
    held_came t v other e h = known.held c cl t v is h

    -- the client's calls, with this one
    now : get (next w entry).clients c ≡ Some new
    now = ap (λ y. get y.clients c) (next_called N w c at words reply cl is) ∙ get-insert_same nat_cmp nat_cmp_total nat_cmp-IsAntisymmetric w.clients c new

    others : (d : ℕ) → d ≢ c → get (next w entry).clients d ≡ get w.clients d
    others d n = ap (λ y. get y.clients d) (next_called N w c at words reply cl is) ∙ get-insert_other nat_cmp nat_cmp_total nat_cmp-IsAntisymmetric w.clients c new d n

    -- what is known stays so at a call
    pub known_called : AllKnown σ m (next w entry)
    known_called = record {
      stored = λ t b st. elim (came t b (subst (λ y. HasEnvelope σ.names y.keys t b) state_now st)) [
        | inl o ↦ origin_kept σ m w entry t b o
        | inr push ↦ inr (c, new, now, pushed_last σ t b cl.calls x push)
      ];
      held = λ d dl t v dis h. origin_kept σ m w entry t (σ.names.body_of v) (in_hand_of d dl t v dis h (conn_or d c));
      hands = λ d dl cur h dis on runs in_hand. origin_kept σ m w entry h.0 (σ.names.body_of h.1) (go d dl cur h dis on runs in_hand (conn_or d c));
    }
      where
        in_hand_of : (d : ℕ) (dl : Client) (t v : Bytes) → get (next w entry).clients d ≡ Some dl → held_after σ.names None dl.calls ≡ Some (t, v) → (d ≡ c) ⊎ (d ≢ c) → OriginIn σ m w t (σ.names.body_of v)
        in_hand_of d dl t v dis h (inl e) =
            let at_c : get (next w entry).clients c ≡ Some dl = subst (λ y. get (next w entry).clients y ≡ Some dl) e dis in
            let they : new ≡ dl = cc (at_c, now) in
            held_came t v (command_of words) refl (sym (held_more σ.names None cl.calls x) ∙ (ap (λ y. held_after σ.names None y.calls) they ∙ h))
        in_hand_of d dl t v dis h (inr n) = known.held d dl t v (sym (others d n) ∙ dis) h

        go : (d : ℕ) (dl : Client) (cur : Cursor) (h : Bytes × Bytes) → get (next w entry).clients d ≡ Some dl → dl.stopped ≡ false → Runs σ Idle dl.calls cur → held_in cur ≡ Some h → (d ≡ c) ⊎ (d ≢ c) → OriginIn σ m w h.0 (σ.names.body_of h.1)
        go d dl cur h dis on runs in_hand (inl e) =
            let at_c : get (next w entry).clients c ≡ Some dl = subst (λ y. get (next w entry).clients y ≡ Some dl) e dis in
            let they : new ≡ dl = cc (at_c, now) in
            hand_came cur (subst (λ y. Runs σ Idle y.calls cur) (sym they) runs) h in_hand
        go d dl cur h dis on runs in_hand (inr n) = known.hands d dl cur h (sym (others d n) ∙ dis) on runs in_hand

  -- ---- a stop
  module _ (N : Type 0) (c : ℕ) (cl : Client) (is : get w.clients c ≡ Some cl) (runs_on : cl.stopped ≡ false) where
    -- the client, stopped
    abbrev pub halted : Client
    halted = record { seed = cl.seed; calls = cl.calls; stopped = true }

    at_stop : next {N = N} w (Stop c) ≡ with_client (gone_of w.store c) w c halted
    at_stop = stopped_is σ base w inv c cl is runs_on N

    -- and at a stop
    pub known_stopped : AllKnown σ m (next {N = N} w (Stop c))
    known_stopped = record {
      stored = λ t b st. origin_kept {N = N} σ m w (Stop c) t b (known.stored t b (subst (λ y. HasEnvelope σ.names y.store.keys t b) at_stop st));
      held = λ d dl t v dis h. origin_kept {N = N} σ m w (Stop c) t (σ.names.body_of v) (in_hand_of d dl t v (sym (ap (λ y. get y.clients d) at_stop) ∙ dis) h (conn_or d c));
      hands = λ d dl cur h dis on runs in_hand. origin_kept {N = N} σ m w (Stop c) h.0 (σ.names.body_of h.1) (go d dl cur h (sym (ap (λ y. get y.clients d) at_stop) ∙ dis) on runs in_hand (conn_or d c));
    }
      where
        in_hand_of : (d : ℕ) (dl : Client) (t v : Bytes) → get (insert w.clients c halted) d ≡ Some dl → held_after σ.names None dl.calls ≡ Some (t, v) → (d ≡ c) ⊎ (d ≢ c) → OriginIn σ m w t (σ.names.body_of v)
        in_hand_of d dl t v dis h (inl e) =
            let at_c : get (insert w.clients c halted) c ≡ Some dl = subst (λ y. get (insert w.clients c halted) y ≡ Some dl) e dis in
            let they : halted ≡ dl = cc (at_c, get-insert_same nat_cmp nat_cmp_total nat_cmp-IsAntisymmetric w.clients c halted) in
            known.held c cl t v is (ap (λ y. held_after σ.names None y.calls) they ∙ h)
        in_hand_of d dl t v dis h (inr n) = known.held d dl t v (sym (get-insert_other nat_cmp nat_cmp_total nat_cmp-IsAntisymmetric w.clients c halted d n) ∙ dis) h

        go : (d : ℕ) (dl : Client) (cur : Cursor) (h : Bytes × Bytes) → get (insert w.clients c halted) d ≡ Some dl → dl.stopped ≡ false → Runs σ Idle dl.calls cur → held_in cur ≡ Some h → (d ≡ c) ⊎ (d ≢ c) → OriginIn σ m w h.0 (σ.names.body_of h.1)
        go d dl cur h dis on runs in_hand (inl e) =
            let at_c : get (insert w.clients c halted) c ≡ Some dl = subst (λ y. get (insert w.clients c halted) y ≡ Some dl) e dis in
            let they : halted ≡ dl = cc (at_c, get-insert_same nat_cmp nat_cmp_total nat_cmp-IsAntisymmetric w.clients c halted) in
            let wrong : true ≡ false = ap (λ y. y.stopped) they ∙ on in
            absurd (cc wrong)
        go d dl cur h dis on runs in_hand (inr n) = known.hands d dl cur h (sym (get-insert_other nat_cmp nat_cmp_total nat_cmp-IsAntisymmetric w.clients c halted d n) ∙ dis) on runs in_hand

-- ---- whole histories

known_start : (σ : Full) (m : Keys) (cs : List (ℕ × ℕ)) → AllKnown σ m (start_from m cs)
known_start σ m cs = record {
  stored = λ t b st. inl st;
  held = λ c cl t v is h. no_pair (t, v) (sym (ap (held_after σ.names None) (table_get cs c cl is).0) ∙ h);
  hands = λ c cl cur h is on runs in_hand.
      let idle : Idle ≡ cur = subst (λ l. Runs σ Idle l cur) (table_get cs c cl is).0 runs in
      let no_hand : held_in Idle ≡ Some h = subst (λ y. held_in y ≡ Some h) (sym idle) in_hand in
      absurd (cc no_hand);
}

one_known : {N : Type 0} (σ : Full) (base : Bytes → ℕ) (m : Keys) (w : SystemState) (e : Entry N) (rest : List (Entry N)) → Inv σ base w → AllKnown σ m w → MayCome w e → AllMannered σ (after_entries (next w e) rest) → AllKnown σ m (next w e)
one_known {N = N} σ base m w (Stop c) rest inv known may all = known_stopped σ base m w inv known N c may.0 may.1 may.2
one_known σ base m w (Heard c note) rest inv known may all = subst (AllKnown σ m) (sym (next_heard w c note)) known
one_known {N = N} σ base m w (Called c at words reply) rest inv known may all =
    let r = runs_to σ w c at words reply rest may.0 may.1 all in
    known_called σ base m w inv known N c at words reply may.0 may.1 may.2 may.3 r.0 r.1

known_after : {N : Type 0} (σ : Full) (base : Bytes → ℕ) (m : Keys) (w : SystemState) (p rest : List (Entry N)) → Inv σ base w → AllKnown σ m w → AllMayCome w (p ++ rest) → AllMannered σ (after_entries w (p ++ rest)) → AllKnown σ m (after_entries w p)
known_after σ base m w [] rest inv known legal all = known
known_after σ base m w (e ∷ p) rest inv known legal all = known_after σ base m (next w e) p rest (one_entry σ base w e (p ++ rest) inv legal.0 all) (one_known σ base m w e (p ++ rest) inv known legal.0 all) legal.1 all

-- what is known after a prefix
known_of : {N : Type 0} (σ : Full) (h p : History N) → IsSound σ.names h → IsHistoryPrefix p h → AllKnown σ p.start (after p)
known_of σ h p sound pre =
    let s = parted σ h p sound pre in
    known_after σ (start_count σ.names p.start) p.start (start_from p.start p.clients) p.entries pre.0 (inv_begin σ p.clients p.start p.used s.start) (known_start σ p.start p.clients) s.legal (all_mannered σ (and_then p pre.0) s)

-- each envelope in a list or in the table has its origin
pub identity : {N : Type 0} (σ : Full) (h p : History N) (t b : Bytes) → IsSound σ.names h → IsHistoryPrefix p h → HasEnvelope σ.names (after p).store.keys t b → HasOrigin σ.names p t b
identity σ h p t b sound pre st = (known_of σ h p sound pre).stored t b st

-- and so has each that is in a hand
pub identity_anywhere : {N : Type 0} (σ : Full) (h p : History N) (t b : Bytes) → IsSound σ.names h → IsHistoryPrefix p h → HasAnywhere σ.names (after p) t b → HasOrigin σ.names p t b
identity_anywhere σ h p t b sound pre (inl st) = identity σ h p t b sound pre st
identity_anywhere σ h p t b sound pre (inr g) = subst (HasOrigin σ.names p t) g.body ((known_of σ h p sound pre).held g.connection g.client t g.envelope g.known g.in_hand)
