-- Each transaction that ran and pushes is a whole return.
use Rattle.std.proofs.Common.{◌++◌, Bool, List, None, Option, Some, [], ap, false, if◌then◌else◌, inl, inr, refl, subst, sym, true, ℕ, ◌∙◌, ◌∷◌, ◌≡◌, ◌≢◌, ◌⊎◌}
use Rattle.std.specs.FinMap.{get, insert}
use Rattle.wire_values.specs.declared.value.Value.{Value}
use Rattle.wire_values.specs.declared.value.Value.TheVariants.{Array}
use Rattle.store_model.specs.Commands.{Around, is_queued, run}
use Rattle.store_model.specs.Connections.{Conns, around, conn}
use Rattle.store_model.specs.Keys.{Keys, expiry_of, is_expired, live_at, value_at, value_of}
use Rattle.store_model.specs.Replies.{bulks}
use Rattle.store_model.specs.Store.{State, run_all, serve, settled}
use Rattle.store_model.specs.Words.{Words, command_of}
use Rattle.store_model.specs.declared.command.Command.{Command}
use Rattle.store_model.specs.declared.command.Command.TheVariants.{Exec, Hdel, Zrem}
use Rattle.store_model.specs.declared.held.Held.{Held}
use Rattle.store_model.specs.declared.held.Stored.{Stored}
use Rattle.store_model.specs.declared.held.Stored.TheVariants.{Hash, Items, Members, Scores, Text}
use Rattle.store_model.specs.declared.reply.Reply.{Reply}
use Rattle.store_laws.proofs.Changes.{queue_not_index, queue_not_unacked, unacked_not_index}
use Rattle.store_laws.proofs.Others.{hdel_others, zrem_others}
use Rattle.store_laws.proofs.Law.{framed}
use Rattle.store_laws.proofs.Settled.{get-live_at}
use Rattle.store_laws.proofs.Table.{Turned}
use Rattle.command_blocks.specs.Answers.{items_of}
use Rattle.command_blocks.specs.Calls.{Call}
use Rattle.place_model.specs.Counts.{table_entry, field_of, has_field, is_field, is_member, score_at, score_of, start_count}
use Rattle.place_model.specs.Histories.{Client, History, IsHistoryPrefix, SystemState, after, and_then, start_from}
use Rattle.queue_keys.specs.Lookup.{lookup}
use Rattle.queue_keys.specs.Names.{Bytes}
use Rattle.queue_keys.specs.QueueKeys.{Among, IsAway}
use Rattle.command_blocks.specs.ReturnBlocks.{Carries}
use Rattle.place_model.specs.Returns.{IsWholeReturn, gain, push_commands, take_out}
use Rattle.place_model.specs.Seen.{Seen, seen}
use Rattle.command_blocks.specs.Setting.{is_queue}
use Rattle.place_model.specs.Starts.{IsHashOrNone, IsListOrNone, IsSound, elements_at, elements_of}
use Rattle.command_blocks.specs.declared.side.Side.{Side}
use Rattle.command_blocks.specs.declared.side.Side.TheVariants.{Left, Right}
use Rattle.place_model.specs.declared.history.Entry.TheVariants.{Call as Called}
use Rattle.place_theorem.specs.Bindings.{ReturnsByBindings, set_read}
use Rattle.place_theorem.proofs.Bindings.{ReadAt, ReadOf, members_read, runs_read}
use Rattle.place_theorem.proofs.Full.{Alike, Full, Kinds, keys_of}
use Rattle.place_theorem.proofs.Kept.{Inv}
use Rattle.place_theorem.proofs.Machine.{Asks, At, Begins, Cursor, Ends, Fails, Finds, Finds_none, Finds_other, Idle, IsTalk, Leaves, Passes_by, Publishes, Queues, Reads, Refuses, Runs, Step, Talks, Watches, Whole, Whole_end, Whole_free, Whole_pop, Whole_return, is_aside, runs_split, step_live}
use Rattle.place_theorem.proofs.Pushed.{among_queue, pushes_away, pushes_gain}
use Rattle.place_theorem.proofs.Safe.{AskedIs, Stands, conn_in, queue_in, read_in}
use Rattle.place_theorem.proofs.Settle.{get-lasting, index_kept, state_is, unacked_kept}
use Rattle.place_theorem.proofs.Sound.{after-append, entry_of}
use Rattle.place_theorem.proofs.Transactions.{AllPushed, all_pushed, kept_alike, turned}
use Rattle.place_theorem.proofs.Values.{array_of}
use Rattle.place_theorem.proofs.Whole.{call_in, called_runs, inv_ready, next_called, ready, ready_keys, served}

-- EXEC comes in a transaction alone
abbrev pub Inside : Full → Cursor → Type 0
Inside σ from = (cs : List Command) × (w : List Bytes) × (h : Option (Bytes × Bytes)) × (r : Option (Bytes × Bytes × Option Value)) × (from ≡ At (Some cs) w h r) × Whole σ cs w h r

pub exec_inside : (σ : Full) (from to : Cursor) (c : Command) (x : Value) → Step σ from c x to → c ≡ Exec → Inside σ from
exec_inside σ from to c x (Passes_by w h cm y far) is = let z : is_aside Exec ≡ true = subst (λ a. is_aside a ≡ true) is far.1 in absurd (cc z)
exec_inside σ from to c x (Asks t u e y named) is = absurd (cc is)
exec_inside σ from to c x (Talks cm y t) is = absurd (subst IsTalk is t)
exec_inside σ from to c x (Publishes k v n q) is = absurd (cc is)
exec_inside σ from to c x (Finds_none ks qs) is = absurd (cc is)
exec_inside σ from to c x (Finds_other ks q v qs none) is = absurd (cc is)
exec_inside σ from to c x (Finds ks q v t qs tag) is = absurd (cc is)
exec_inside σ from to c x (Begins w h r) is = absurd (cc is)
exec_inside σ from to c x (Queues cs w h r cm q) is = let z : is_queued Exec ≡ true = subst (λ a. is_queued a ≡ true) is q in absurd (cc z)
exec_inside σ from to c x (Ends cs w h r xs whole) is = (cs, w, h, r, refl, whole)
exec_inside σ from to c x (Fails cs w h r whole) is = (cs, w, h, r, refl, whole)
exec_inside σ from to c x (Watches k) is = absurd (cc is)
exec_inside σ from to c x (Reads t u) is = absurd (cc is)
exec_inside σ from to c x (Leaves w r) is = absurd (cc is)
exec_inside σ from to c x (Refuses f g cm l y st) is = exec_inside σ f g cm l st is

-- what the keys are after the transaction, from keys of which nothing is due
pub record Taken (σ : Full) (m m' : Keys) (side : Side) (t v : Bytes) (ks : List Bytes) : Type 0 where
  pub no_field : is_field σ.names m' t ≡ false
  pub no_member : is_member σ.names m' t ≡ false
  pub gained : (k : Bytes) → Among k ks → elements_at m' k ≡ gain side v (elements_at m k)
  pub others : (x : Bytes) → x ≢ t → (table_entry σ.names m' x ≡ table_entry σ.names m x) × (score_at σ.names m' x ≡ score_at σ.names m x)
  pub elsewhere : (k : Bytes) → IsAway k (σ.names.unacked ∷ σ.names.index ∷ ks) → get m' k ≡ get m k
  pub kinds : Kinds σ m'

module _ (σ : Full) (at : ℕ) (cs : Conns) (s : State) (c : ℕ) (sn : Seen) (kinds : Kinds σ s.keys) (alike : Alike σ s.keys) (t : Bytes) (side : Side) (u v : Bytes) (ms : List Bytes) (tag : σ.names.tag_of v ≡ Some t) where
  abbrev ks : List Bytes
  ks = σ.names.keys_in u ms

  abbrev e : Around
  e = around at cs

  abbrev mid : Keys
  mid = (run e (run e s.keys (Zrem σ.names.index (t ∷ []))).keys (Hdel σ.names.unacked (t ∷ []))).keys

  -- the keys after the transaction
  abbrev pub last : Keys
  last = (run_all at s.keys cs (take_out σ.names t (push_commands side v ks))).keys

  out : Turned (keys_of σ) s.keys mid t false
  out = turned σ at cs s c sn kinds alike t side v ks (σ.laws.keys_in_are u ms) (inr tag)

  all : AllPushed σ mid last (push_commands side v ks)
  all = all_pushed σ at cs s c sn kinds alike t side v ks (σ.laws.keys_in_are u ms) (inr tag)

  same_alike : Alike σ last
  same_alike = kept_alike σ mid last out.alike all.table all.members

  field_now : (x : Bytes) → is_field σ.names last x ≡ is_field σ.names mid x
  field_now x = ap (λ o. has_field o x) all.table

  between : (k : Bytes) → k ≢ σ.names.unacked → k ≢ σ.names.index → get mid k ≡ get s.keys k
  between k u i = (framed e _ (Hdel σ.names.unacked (t ∷ []))).away k (u, tt) ∙ (framed e s.keys (Zrem σ.names.index (t ∷ []))).away k (i, tt)

  not_queue : (k : Bytes) → is_queue σ.names k ≡ true → (k ≢ σ.names.unacked) × (k ≢ σ.names.index)
  not_queue k q = ((λ z. queue_not_unacked (keys_of σ) k q (sym z)), (λ z. queue_not_index (keys_of σ) k q (sym z)))

  -- the keys after the first command
  abbrev first : Keys
  first = (run e s.keys (Zrem σ.names.index (t ∷ []))).keys

  -- each other tag keeps the bytes of its entry
  entries_kept : (x : Bytes) → x ≢ t → table_entry σ.names last x ≡ table_entry σ.names s.keys x
  entries_kept x n =
      let still : value_at first σ.names.unacked ≡ value_at s.keys σ.names.unacked = ap value_of ((framed e s.keys (Zrem σ.names.index (t ∷ []))).away σ.names.unacked (unacked_not_index (keys_of σ), tt)) in
      ap (λ o. field_of o x) all.table ∙ hdel_others e first σ.names.unacked t x n (subst IsHashOrNone (sym still) kinds.table) ∙ ap (λ o. field_of o x) still

  -- and its score
  scores_kept : (x : Bytes) → x ≢ t → score_at σ.names last x ≡ score_at σ.names s.keys x
  scores_kept x n =
      let still : value_at mid σ.names.index ≡ value_at first σ.names.index = ap value_of ((framed e first (Hdel σ.names.unacked (t ∷ []))).away σ.names.index ((λ z. unacked_not_index (keys_of σ) (sym z)), tt)) in
      ap (λ o. score_of o x) all.members ∙ ap (λ o. score_of o x) still ∙ zrem_others e s.keys σ.names.index t x n kinds.members

  pub taken : Taken σ s.keys last side t v ks
  taken = record {
    no_field = field_now t ∙ out.this;
    no_member = sym (same_alike t) ∙ field_now t ∙ out.this;
    gained = λ k is.
        let n = not_queue k (among_queue σ k ks (σ.laws.keys_in_are u ms) is) in
        pushes_gain σ at cs mid side v k ks out.kinds (σ.laws.keys_in_are u ms) (σ.laws.keys_in_differ u ms) is ∙ ap (λ o. gain side v (elements_of (value_of o))) (between k n.0 n.1);
    others = λ x n. (entries_kept x n, scores_kept x n);
    elsewhere = λ k far. pushes_away at cs mid side v k ks far.1.1 ∙ between k far.0 far.1.0;
    kinds = all.kinds;
  }

-- a list gained something
gained_some : {A : Type 0} (side : Side) (v : Bytes) (xs : List Bytes) → ◌≡◌ {A = List Bytes} [] (gain side v xs) → A
gained_some Left v xs e = absurd (cc e)
gained_some Right v [] e = absurd (cc e)
gained_some Right v (x ∷ xs) e = absurd (cc e)

-- what holds a list that doesn't expire is known by its elements
items_held : (h : Held) (value : Stored) (ys : List Bytes) → h.value ≡ value → IsListOrNone (Some value) → h.expiry ≡ None → elements_of (Some value) ≡ ys → ◌≡◌ {A = Option Held} (Some h) (Some (record { value = Items ys; expiry = None }))
items_held h (Items xs) ys is list lasts e = λ i. Some (record { value = (is ∙ ap Items e) i; expiry = lasts i })
items_held h (Text x) ys is list lasts e = absurd list
items_held h (Members g) ys is list lasts e = absurd list
items_held h (Hash g) ys is list lasts e = absurd list
items_held h (Scores g) ys is list lasts e = absurd list

gained_held : (side : Side) (v : Bytes) (xs : List Bytes) (o : Option Held) → IsListOrNone (value_of o) → expiry_of o ≡ None → elements_of (value_of o) ≡ gain side v xs → o ≡ Some (record { value = Items (gain side v xs); expiry = None })
gained_held side v xs None list lasts e = gained_some side v xs e
gained_held side v xs (Some h) list lasts e = items_held h h.value (gain side v xs) refl list lasts e

-- and from the keys before what was due was dropped
whole_from : (σ : Full) (m m' : Keys) (at : ℕ) (side : Side) (t u v : Bytes) (ms : List Bytes) → Kinds σ m → Carries σ.names u t v → table_entry σ.names (live_at at m) t ≡ Some u → Taken σ (live_at at m) m' side t v (σ.names.keys_in u ms) → IsWholeReturn σ.names m m' at side t u v (σ.names.keys_in u ms)
whole_from σ m m' at side t u v ms kinds carries was taken =
    let ua : get (live_at at m) σ.names.unacked ≡ get m σ.names.unacked = unacked_kept σ m at kinds in
    let ia : get (live_at at m) σ.names.index ≡ get m σ.names.index = index_kept σ m at kinds in
    record {
      was = sym (ap (λ o. field_of (value_of o) t) ua) ∙ was;
      carries = carries;
      no_field = taken.no_field;
      no_member = taken.no_member;
      gained = λ k is.
          let queue : is_queue σ.names k ≡ true = among_queue σ k (σ.names.keys_in u ms) (σ.laws.keys_in_are u ms) is in
          gained_held side v (elements_at m k) (get m' k) (taken.kinds.lists k queue) (taken.kinds.lists_last k queue)
          (taken.gained k is ∙ ap (λ o. gain side v (elements_of (value_of o))) (get-lasting σ m at kinds k (kinds.lists_last k queue)));
      table = (taken.kinds.table, taken.kinds.table_lasts);
      index = (taken.kinds.members, taken.kinds.members_last);
      others = λ x n. ((taken.others x n).0 ∙ ap (λ o. field_of (value_of o) x) ua, (taken.others x n).1 ∙ ap (λ o. score_of (value_of o) x) ia);
      elsewhere = λ k far. go k (is_expired at (get m k)) refl (taken.elsewhere k far ∙ get-live_at at m k);
    }
  where
    go : (k : Bytes) (b : Bool) → is_expired at (get m k) ≡ b → get m' k ≡ (if is_expired at (get m k) then None else get m k) → (get m' k ≡ get m k) ⊎ ((is_expired at (get m k) ≡ true) × (get m' k ≡ None))
    go k true b is = inr (b, is ∙ ap (λ x. if x then None else get m k) b)
    go k false b is = inl (is ∙ ap (λ x. if x then None else get m k) b)

-- at the machine: EXEC answered an array, and more than two commands were queued
abbrev Made : Full → State → ℕ → Seen → Option (Bytes × Value) → Type 0
Made σ s c sn o = (side : Side) × (t : Bytes) × (u : Bytes) × (v : Bytes) × (ms : List Bytes) × Carries σ.names u t v × (table_entry σ.names s.keys t ≡ Some u) × (sn.since ≡ take_out σ.names t (push_commands side v (σ.names.keys_in u ms)))
    × ((σ.names.exchange_in u ≡ None) ⊎ (sn.asked ≡ bulks ms)) × ((σ.names.exchange_in u ≡ None) ⊎ ReadAt σ u (bulks ms) o)

asked_is : (σ : Full) (t u v : Bytes) (ms : List Bytes) (a : Option Value) (x : Value) → (σ.names.exchange_in u ≡ None) ⊎ (a ≡ Some (bulks ms)) → AskedIs (Some (t, u, a)) x → (σ.names.exchange_in u ≡ None) ⊎ (x ≡ bulks ms)
asked_is σ t u v ms a x (inl none) is = inl none
asked_is σ t u v ms None x (inr e) is = absurd (cc e)
asked_is σ t u v ms (Some y) x (inr e) is = let z : y ≡ bulks ms = cc e in inr (is ∙ z)

made : (σ : Full) (s : State) (c : ℕ) (sn : Seen) (cs : List Command) (w : List Bytes) (h : Option (Bytes × Bytes)) (r : Option (Bytes × Bytes × Option Value)) (o : Option (Bytes × Value)) (a b q : Command) (qs : List Command)
    → Whole σ cs w h r → ReadOf σ r o → sn.since ≡ a ∷ b ∷ q ∷ qs → (ok : Stands σ s c (At (Some cs) w h r) sn) → ok.marked ≡ false → Made σ s c sn o
made σ s c sn cs w h r o a b q qs (Whole_pop t u n tag) told more ok clear = absurd (cc (more, ok.is.since))
made σ s c sn cs w h r o a b q qs (Whole_end t) told more ok clear = absurd (cc (more, ok.is.since))
made σ s c sn cs w h r o a b q qs (Whole_return side t u v ms x carries lookup) told more ok clear =
    (side, t, u, v, ms, carries, ok.mark_ok.held.1 clear, ok.is.since, asked_is σ t u v ms x sn.asked lookup ok.is.asked, members_read σ t u ms x o lookup told)
made σ s c sn cs w h r o a b q qs (Whole_free ks w' far) told more ok clear = absurd (cc (more, ok.is.since))

-- the connection isn't marked, and the keys are those after the commands
pub exec_ran : (σ : Full) (at : ℕ) (s : State) (c : ℕ) (cs : List Command) (w : List Bytes) (h : Option (Bytes × Bytes)) (r : Option (Bytes × Bytes × Option Value)) (b : Bool) (ch : List Bytes) (ps : List Value) (xs : List Value) → (ch ≡ []) ⊎ (At (Some cs) w h r ≡ Idle)
    → Array xs ≡ (serve at s c Exec (conn_in (At (Some cs) w h r) b ch ps)).1 → (b ≡ false) × ((serve at s c Exec (conn_in (At (Some cs) w h r) b ch ps)).0.keys ≡ (run_all at s.keys (insert s.conns c (conn_in Idle false [] ps)) cs).keys)
exec_ran σ at s c cs w h r true [] ps xs talk is = absurd (cc is)
exec_ran σ at s c cs w h r false [] ps xs talk is = (refl, refl)
exec_ran σ at s c cs w h r b (y ∷ ys) ps xs (inl z) is = absurd (cc z)
exec_ran σ at s c cs w h r b (y ∷ ys) ps xs (inr z) is = let q : queue_in (At (Some cs) w h r) ≡ None = ap queue_in z in absurd (cc q)

-- one entry of a client in order
returns_at : (σ : Full) (base : Bytes → ℕ) (w : SystemState) (inv : Inv σ base w) (c : ℕ) (x : Call) (cl : Client) (to : Cursor) (xs : List Value) (a b q : Command) (qs : List Command)
    → get w.clients c ≡ Some cl → cl.stopped ≡ false → x.answer ≡ (serve x.at (ready w x.at c).store c (command_of x.words) (conn (ready w x.at c).store.conns c)).1 → Runs σ Idle (cl.calls ++ x ∷ []) to
    → command_of x.words ≡ Exec → x.answer ≡ Array xs → (seen σ.names cl.calls).since ≡ a ∷ b ∷ q ∷ qs → ReturnsByBindings σ.names cl.calls w.store.keys (serve x.at (ready w x.at c).store c (command_of x.words) (conn (ready w x.at c).store.conns c)).0.keys x.at
returns_at σ base w inv c x cl to xs a b q qs known runs_on right runs exec array more =
    let s : State = (ready w x.at c).store in
    let sn : Seen = seen σ.names cl.calls in
    let ready_inv = inv_ready σ base w x.at c inv in
    let live : s.keys ≡ live_at x.at w.store.keys = ready_keys w x.at c in
    let parts = runs_split σ Idle to cl.calls (x ∷ []) runs in
    let inside = exec_inside σ parts.0 parts.2.0 (command_of x.words) x.answer parts.2.1 exec in
    let ok : Stands σ s c parts.0 sn = ready_inv.clients c cl parts.0 known runs_on parts.1 (step_live σ parts.0 parts.2.0 (command_of x.words) x.answer parts.2.1) in
    let cur : Cursor = At (Some inside.0) inside.1 inside.2 inside.3 in
    let here : Stands σ s c cur sn = subst (λ f. Stands σ s c f sn) inside.4 ok in
    let same : serve x.at s c (command_of x.words) (conn s.conns c) ≡ serve x.at s c Exec (conn_in cur here.marked here.channels here.pending) = ap (λ k. serve x.at s c k (conn s.conns c)) exec ∙ ap (serve x.at s c Exec) here.mine in
    let answered : Array xs ≡ (serve x.at s c Exec (conn_in cur here.marked here.channels here.pending)).1 = sym array ∙ right ∙ ap (λ p. p.1) same in
    let ran = exec_ran σ x.at s c inside.0 inside.1 inside.2 inside.3 here.marked here.channels here.pending xs here.talk_ok answered in
    let told : ReadOf σ inside.3 (set_read cl.calls) = subst (λ f. ReadOf σ (read_in f) (set_read cl.calls)) inside.4 (runs_read σ Idle parts.0 cl.calls None parts.1 tt) in
    let it = made σ s c sn inside.0 inside.1 inside.2 inside.3 (set_read cl.calls) a b q qs inside.5 told more here ran.0 in
    let commands : inside.0 ≡ take_out σ.names it.1 (push_commands it.0 it.3 (σ.names.keys_in it.2 it.4)) = sym here.is.since ∙ it.7 in
    let cs : Conns = insert s.conns c (conn_in Idle false [] here.pending) in
    let m' : Keys = last σ x.at cs s c sn ready_inv.kinds ready_inv.alike it.1 it.0 it.2 it.3 it.4 it.5.1 in
    let keys : (serve x.at s c (command_of x.words) (conn s.conns c)).0.keys ≡ m' = ap (λ p. p.0.keys) same ∙ ran.1 ∙ ap (λ l. (run_all x.at s.keys cs l).keys) commands in
    let took : Taken σ s.keys m' it.0 it.1 it.3 (σ.names.keys_in it.2 it.4) = taken σ x.at cs s c sn ready_inv.kinds ready_inv.alike it.1 it.0 it.2 it.3 it.4 it.5.1 in
    record {
      returned = record {
        side = it.0;
        tag = it.1;
        entry = it.2;
        envelope = it.3;
        members = it.4;
        commands = it.7;
        lookup = it.8;
        whole = subst (λ k. IsWholeReturn σ.names w.store.keys k x.at it.0 it.1 it.2 it.3 (σ.names.keys_in it.2 it.4)) (sym keys)
            (whole_from σ w.store.keys m' x.at it.0 it.1 it.2 it.3 it.4 inv.kinds it.5 (subst (λ k. table_entry σ.names k it.1 ≡ Some it.2) live it.6) (subst (λ k. Taken σ k m' it.0 it.1 it.3 (σ.names.keys_in it.2 it.4)) live took));
      };
      bindings = it.9;
    }

-- a return that ran returned its message whole
pub whole_return : {N : Type 0} (σ : Full) (h p : History N) (c at : ℕ) (words : Words) (reply : Reply) (cl : Client) (xs : List Value) (a b q : Command) (qs : List Command) → IsSound σ.names h → IsHistoryPrefix (and_then p (Called c at words reply ∷ [])) h
    → get (after p).clients c ≡ Some cl → command_of words ≡ Exec → items_of reply.answer ≡ Some xs → (seen σ.names cl.calls).since ≡ a ∷ b ∷ q ∷ qs
    → ReturnsByBindings σ.names cl.calls (after p).store.keys (after (and_then p (Called c at words reply ∷ []))).store.keys at
whole_return {N = N} σ h p c at words reply cl xs a b q qs sound pre known exec array more =
    let e = entry_of σ h p (Called c at words reply) sound pre in
    let they : e.1.0 ≡ cl = cc (known, e.1.1) in
    let x : Call = call_in at words reply in
    let runs = called_runs σ (start_from p.start p.clients) p.entries c at words reply pre.0 e.1.0 e.1.1 e.2 in
    let it = returns_at σ (start_count σ.names p.start) (after p) e.0 c x cl runs.0 xs a b q qs known (ap (λ y. y.stopped) (sym they) ∙ e.1.2) (served (after p) c at words reply e.1.3) (subst (λ y. Runs σ Idle (y.calls ++ x ∷ []) runs.0) they runs.1) exec (array_of reply.answer xs array) more in
    let keys : (after (and_then p (Called c at words reply ∷ []))).store.keys ≡ (serve at (ready (after p) at c).store c (command_of words) (conn (ready (after p) at c).store.conns c)).0.keys =
    ap (λ y. y.store.keys) (after-append (start_from p.start p.clients) p.entries (Called c at words reply ∷ []) ∙ next_called N (after p) c at words reply cl known) ∙ ap (λ s. s.keys) (state_is at (settled (after p).store at) c words) in
    subst (λ k. ReturnsByBindings σ.names cl.calls (after p).store.keys k at) (sym keys) it
