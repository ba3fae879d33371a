-- A tag is published once, and what a client hasn't drawn stands nowhere.
use Rattle.std.proofs.Common.{◌++◌, Bool, List, None, Option, Some, [], ap, append-nil, arith, false, if◌then◌else◌, inl, inr, length, nat_cmp, nat_lt, refl, subst, sym, true, ℕ, ℤ, ◌<◌, ◌≤◌, ◌∙◌, ◌∷◌, ◌≡◌, ◌≢◌, ◌⊎◌}
use Rattle.std.proofs.lemmas.Cmp.{nat_cmp_total}
use Rattle.std.specs.FinMap.{get, insert, nat_cmp-IsAntisymmetric}
use Rattle.wire_values.specs.declared.value.Value.{Value}
use Rattle.store_model.specs.Connections.{conn}
use Rattle.store_model.specs.Keys.{Keys}
use Rattle.store_model.specs.Store.{State, apply_of, gone_of, serve, to_queue}
use Rattle.store_model.specs.Words.{Words, command_of}
use Rattle.store_model.specs.declared.command.Command.{Command}
use Rattle.store_model.specs.declared.command.Command.TheVariants.{Lpush}
use Rattle.store_model.specs.declared.connection.Conn.{Conn}
use Rattle.store_model.specs.declared.connection.Queue.{Queue}
use Rattle.store_model.specs.declared.reply.Reply.{Reply}
use Rattle.store_laws.proofs.Law.{altering}
use Rattle.store_laws.proofs.Live.{live}
use Rattle.store_laws.proofs.Maps.{conn_or, get-insert_other, get-insert_same}
use Rattle.command_blocks.specs.Answers.{number_of}
use Rattle.command_blocks.specs.Blocks.{AreBlocks, IsMannered, drawn_by}
use Rattle.command_blocks.specs.Calls.{Call, IsPrefixOf, call, concat}
use Rattle.place_model.specs.Counts.{start_count}
use Rattle.place_model.specs.Histories.{AllMayCome, Client, History, IsHistoryPrefix, MayCome, SystemState, after, after_entries, and_then, conn_of, next, next_of, start_from, table, with_client}
use Rattle.place_model.specs.Identity.{HasAnywhere, HasEnvelope, HasOrigin, IsNowhere, IsPublished, IsPush, PushedIn}
use Rattle.queue_keys.specs.Names.{Bytes, same}
use Rattle.command_blocks.specs.Setting.{is_queue}
use Rattle.place_model.specs.Starts.{IsSound}
use Rattle.place_model.specs.declared.history.Entry.{Entry}
use Rattle.place_model.specs.declared.history.Entry.TheVariants.{Call as Called, Heard, Stop}
use Rattle.place_theorem.proofs.Draws.{DrawRuns, HasDrawn, blocks_draw, drawn_runs, draws_grow, draws_split, none_drawn, pushed_split, pushed_tag}
use Rattle.place_theorem.proofs.Full.{Full}
use Rattle.place_theorem.proofs.Kept.{Inv, stopped_is}
use Rattle.place_theorem.proofs.Machine.{AllApart, Asks, At, Begins, Cursor, Ends, Fails, Finds, Finds_none, Finds_other, Halted, Idle, IsTalk, Leaves, Live, Passes_by, Publishes, Queues, Reads, Refuses, Runs, Step, Talks, Watches, front_runs, runs_split}
use Rattle.place_theorem.proofs.Once.{SeedsDiffer, seeds_differ, start_body, start_seed}
use Rattle.place_theorem.proofs.Origins.{identity, identity_anywhere, pushed_last, pushed_more}
use Rattle.place_theorem.specs.Begun.{BeginsBlocks}
use Rattle.place_theorem.proofs.Prefixes.{prefix_sound}
use Rattle.place_theorem.proofs.Safe.{conn_in, queue_in}
use Rattle.place_theorem.proofs.Sound.{after-append, all_mannered, inv_begin, inv_of, parted}
use Rattle.place_theorem.proofs.Unborn.{no_place, nothing_pushed, nothing_stored}
use Rattle.place_theorem.proofs.Values.{number_of-Error, number_of-Integer, number_of-Status}
use Rattle.place_theorem.proofs.Whole.{AllMannered, Grown, call_in, grows, inv_ready, next_called, next_heard, one_entry, prefix_self, ready, served, table_get}

-- ---- no push is answered inside a transaction

-- where the last call published, the client was in no transaction
abbrev pub Tidy : Full → List Call → Type 0
Tidy σ l = (before : List Call) (x : Call) (t b : Bytes) (from : Cursor) → l ≡ before ++ x ∷ [] → IsPush σ.names t b (command_of x.words) x.answer → Runs σ Idle before from → queue_in from ≡ None

tail_of : {A : Type 0} → List A → List A
tail_of [] = []
tail_of (x ∷ xs) = xs

not_empty : {A : Type 0} (xs : List A) (x : A) → xs ++ x ∷ [] ≡ [] → ⊥
not_empty [] x e = cc e
not_empty (y ∷ ys) x e = cc e

same_last : {A : Type 0} (xs ys : List A) (x y : A) → xs ++ x ∷ [] ≡ ys ++ y ∷ [] → (xs ≡ ys) × (x ≡ y)
unfolding tail_of
same_last [] [] x y e = (refl, cc e)
same_last [] (z ∷ zs) x y e = absurd (not_empty zs y (sym (ap tail_of e)))
same_last (w ∷ ws) [] x y e = absurd (not_empty ws x (ap tail_of e))
same_last (w ∷ ws) (z ∷ zs) x y e =
    let r = same_last ws zs x y (ap tail_of e) in
    let h : w ≡ z = cc e in
    ((λ i. h i ∷ r.0 i), r.1)

not_queued : (s : State) (c : ℕ) (cn : Conn) (q : Queue) (cm : Command) (b : Bool) → number_of (to_queue s c cn q cm true b).1 ≡ None
not_queued s c cn q cm true = number_of-Status _
not_queued s c cn q cm false = number_of-Error _

no_number : (at : ℕ) (s : State) (c : ℕ) (cs : List Command) (w : List Bytes) (h : Option (Bytes × Bytes)) (r : Option (Bytes × Bytes × Option Value)) (mark : Bool) (ch : List Bytes) (ps : List Value) (k v : Bytes) → (ch ≡ []) ⊎ (At (Some cs) w h r ≡ Idle)
    → number_of (serve at s c (Lpush k (v ∷ [])) (conn_in (At (Some cs) w h r) mark ch ps)).1 ≡ None
no_number at s c cs w h r mark [] ps k v talk = not_queued s c (conn_in (At (Some cs) w h r) mark [] ps) (record { commands = cs; broken = false }) (Lpush k (v ∷ [])) (nat_lt (length cs) 4096)
no_number at s c cs w h r mark (x ∷ xs) ps k v (inl z) = absurd (cc z)
no_number at s c cs w h r mark (x ∷ xs) ps k v (inr z) = let q : queue_in (At (Some cs) w h r) ≡ None = ap queue_in z in absurd (cc q)

-- each client was in no transaction where it published last
pub AllTidy : Full → SystemState → Type 0
AllTidy σ w = (c : ℕ) (cl : Client) → get w.clients c ≡ Some cl → Tidy σ cl.calls

module _ (σ : Full) (base : Bytes → ℕ) (w : SystemState) (inv : Inv σ base w) (tidy : AllTidy σ w) (c : ℕ) (cl : Client) (is : get w.clients c ≡ Some cl) (runs_on : cl.stopped ≡ false) where
  free_at : (at : ℕ) (words : Words) (reply : Reply) → reply ≡ (apply_of w.store at c words).1 → (t b : Bytes) → IsPush σ.names t b (command_of words) reply.answer → (from : Cursor) → Runs σ Idle cl.calls from → queue_in from ≡ None
  free_at at words reply right t b p Halted runs = refl
  free_at at words reply right t b p (At None w' h r) runs = refl
  free_at at words reply right t b p (At (Some cs) w' h r) runs =
      let s : State = (ready w at c).store in
      let ok = (inv_ready σ base w at c inv).clients c cl (At (Some cs) w' h r) is runs_on runs tt in
      let same : serve at s c (command_of words) (conn s.conns c) ≡ serve at s c (Lpush p.key (p.bytes ∷ [])) (conn_in (At (Some cs) w' h r) ok.marked ok.channels ok.pending) =
      ap (λ k. serve at s c k (conn s.conns c)) p.pushes ∙ ap (serve at s c (Lpush p.key (p.bytes ∷ []))) ok.mine in
      let none : number_of reply.answer ≡ None = ap number_of (served w c at words reply right ∙ ap (λ y. y.1) same) ∙ no_number at s c cs w' h r ok.marked ok.channels ok.pending p.key p.bytes ok.talk_ok in
      absurd (cc (none, p.answered))

  abbrev new : Call → Client
  new x = record cl { calls = cl.calls ++ x ∷ [] }

  abbrev halted : Client
  halted = record { seed = cl.seed; calls = cl.calls; stopped = true }

  pub tidy_called : (N : Type 0) (at : ℕ) (words : Words) (reply : Reply) → reply ≡ (apply_of w.store at c words).1 → AllTidy σ (next {N = N} w (Called c at words reply))
  unfolding AllTidy
  tidy_called N at words reply right d dl dis = go (conn_or d c)
    where
      mine : Tidy σ (cl.calls ++ call_in at words reply ∷ [])
      mine before y t b from e p runs =
          let same = same_last cl.calls before (call_in at words reply) y e in
          free_at at words reply right t b (subst (λ z. IsPush σ.names t b (command_of z.words) z.answer) (sym same.1) p) from (subst (λ l. Runs σ Idle l from) (sym same.0) runs)

      go : (d ≡ c) ⊎ (d ≢ c) → Tidy σ dl.calls
      go (inl e) =
          let at_c : get (next {N = N} w (Called c at words reply)).clients c ≡ Some dl = subst (λ y. get (next {N = N} w (Called c at words reply)).clients y ≡ Some dl) e dis in
          let now : get (next {N = N} w (Called c at words reply)).clients c ≡ Some (new (call_in at words reply)) = ap (λ y. get y.clients c) (next_called N w c at words reply cl is) ∙ get-insert_same nat_cmp nat_cmp_total nat_cmp-IsAntisymmetric w.clients c (new (call_in at words reply)) in
          let they : new (call_in at words reply) ≡ dl = cc (at_c, now) in
          subst (λ y. Tidy σ y.calls) they mine
      go (inr n) = tidy d dl (sym (ap (λ y. get y.clients d) (next_called N w c at words reply cl is) ∙ get-insert_other nat_cmp nat_cmp_total nat_cmp-IsAntisymmetric w.clients c (new (call_in at words reply)) d n) ∙ dis)

  pub tidy_stopped : (N : Type 0) → AllTidy σ (next {N = N} w (Stop c))
  unfolding AllTidy
  tidy_stopped N d dl dis = go (conn_or d c)
    where
      at_d : get (insert w.clients c halted) d ≡ Some dl
      at_d = sym (ap (λ y. get y.clients d) (stopped_is σ base w inv c cl is runs_on N)) ∙ dis

      go : (d ≡ c) ⊎ (d ≢ c) → Tidy σ dl.calls
      go (inl e) =
          let at_c : get (insert w.clients c halted) c ≡ Some dl = subst (λ y. get (insert w.clients c halted) y ≡ Some dl) e at_d in
          let they : halted ≡ dl = cc (at_c, get-insert_same nat_cmp nat_cmp_total nat_cmp-IsAntisymmetric w.clients c halted) in
          subst (λ y. Tidy σ y.calls) they (tidy c cl is)
      go (inr n) = tidy d dl (sym (get-insert_other nat_cmp nat_cmp_total nat_cmp-IsAntisymmetric w.clients c halted d n) ∙ at_d)

one_tidy : {N : Type 0} (σ : Full) (base : Bytes → ℕ) (w : SystemState) (e : Entry N) → Inv σ base w → AllTidy σ w → MayCome w e → AllTidy σ (next w e)
one_tidy {N = N} σ base w (Stop c) inv tidy may = tidy_stopped σ base w inv tidy c may.0 may.1 may.2 N
one_tidy σ base w (Heard c note) inv tidy may = subst (AllTidy σ) (sym (next_heard w c note)) tidy
one_tidy {N = N} σ base w (Called c at words reply) inv tidy may = tidy_called σ base w inv tidy c may.0 may.1 may.2 N at words reply may.3

tidy_after : {N : Type 0} (σ : Full) (base : Bytes → ℕ) (w : SystemState) (h : List (Entry N)) → Inv σ base w → AllTidy σ w → AllMayCome w h → AllMannered σ (after_entries w h) → AllTidy σ (after_entries w h)
tidy_after σ base w [] inv tidy legal all = tidy
tidy_after σ base w (e ∷ h) inv tidy legal all = tidy_after σ base (next w e) h (one_entry σ base w e h inv legal.0 all) (one_tidy σ base w e inv tidy legal.0) legal.1 all

tidy_start : (σ : Full) (m : Keys) (cs : List (ℕ × ℕ)) → AllTidy σ (start_from m cs)
unfolding AllTidy
tidy_start σ m cs c cl is before x t b from e p runs =
    let none : cl.calls ≡ [] = (table_get cs c cl is).0 in
    absurd (not_empty before x (sym e ∙ none))

-- ---- the pushes of one client

-- each has one of the first n tags of the client's seed, and those of one tag have one body
pub record PushesOk (σ : Full) (s n : ℕ) (l : List Call) : Type 0 where
  pub own : (t b : Bytes) → PushedIn σ.names t b l → (j : ℕ) × (j ≤ n) × (t ≡ σ.names.tag s j)
  pub once : (t b b' : Bytes) → PushedIn σ.names t b l → PushedIn σ.names t b' l → b ≡ b'

-- calls that are a prefix of blocks have drawn no more than these
front_pushes : (σ : Full) (s : ℕ) (l : List Call) (bs : List (List Call)) (blocks : AreBlocks σ.names s 0 0 bs) → IsPrefixOf l (concat bs) → PushesOk σ s (drawn_by σ.names s 0 0 bs blocks) l
front_pushes σ s l bs blocks h =
    let n = drawn_by σ.names s 0 0 bs blocks in
    let whole = blocks_draw σ s 0 0 None bs blocks in
    let part = draws_split σ s 0 None l h.0 n whole.0 (subst (λ z. DrawRuns σ s 0 None z n whole.0) (sym h.1) whole.1) in
    let few : part.0 ≤ n = draws_grow σ s part.0 part.1 h.0 n whole.0 part.3 in
    let d : HasDrawn σ s part.0 part.1 l = drawn_runs σ s 0 part.0 None part.1 [] l part.2 (none_drawn σ s) in
    record { own = λ t b p. let j = d.own t b p in (j.0, omega (arith, j.1, few), j.2); once = d.once }

-- a push outside a transaction is listed with any number
listed_number : (σ : Full) (from to : Cursor) (cm : Command) (listed : Value) (k v : Bytes) → Step σ from cm listed to → Live to → cm ≡ Lpush k (v ∷ []) → is_queue σ.names k ≡ true → queue_in from ≡ None → (m : ℤ) × (number_of listed ≡ Some m)
listed_number σ from to cm listed k v (Passes_by w h c x far) live is q free = let a : AllApart σ (k ∷ []) = subst (λ z. AllApart σ (altering z)) is far.0 in let z = a.0.0 in absurd (cc (z, q))
listed_number σ from to cm listed k v (Asks t u e x named) live is q free = absurd (cc is)
listed_number σ from to cm listed k v (Talks c x t) live is q free = absurd (subst IsTalk is t)
listed_number σ from to cm listed k v (Publishes k' v' n q') live is q free = (n, number_of-Integer n)
listed_number σ from to cm listed k v (Finds_none ks qs) live is q free = absurd (cc is)
listed_number σ from to cm listed k v (Finds_other ks q' v' qs none) live is q free = absurd (cc is)
listed_number σ from to cm listed k v (Finds ks q' v' t qs tag) live is q free = absurd (cc is)
listed_number σ from to cm listed k v (Begins w h r) live is q free = absurd (cc is)
listed_number σ from to cm listed k v (Queues cs w h r c q') live is q free = absurd (cc free)
listed_number σ from to cm listed k v (Ends cs w h r xs whole) live is q free = absurd (cc is)
listed_number σ from to cm listed k v (Fails cs w h r whole) live is q free = absurd (cc is)
listed_number σ from to cm listed k v (Watches k') live is q free = absurd (cc is)
listed_number σ from to cm listed k v (Reads t u) live is q free = absurd (cc is)
listed_number σ from to cm listed k v (Leaves w r) live is q free = absurd (cc is)
listed_number σ from to cm listed k v (Refuses f g c x y st) live is q free = absurd live

-- so have calls that begin blocks
begun_pushes : (σ : Full) (s : ℕ) (l : List Call) (bs : List (List Call)) (blocks : AreBlocks σ.names s 0 0 bs) → BeginsBlocks l bs → Tidy σ l → PushesOk σ s (drawn_by σ.names s 0 0 bs blocks) l
begun_pushes σ s l bs blocks (inl h) tidy = front_pushes σ s l bs blocks h
begun_pushes σ s l bs blocks (inr h) tidy =
    let d = front_pushes σ s (h.0 ++ call h.1 h.2 h.3 ∷ []) bs blocks h.6 in
    record { own = λ t b p. d.own t b (listed t b p); once = λ t b b' p p'. d.once t b b' (listed t b p) (listed t b' p') }
  where
    last_listed : (t b : Bytes) → IsPush σ.names t b (command_of h.2) h.4 → IsPush σ.names t b (command_of h.2) h.3
    last_listed t b p =
        let r = front_runs σ s (h.0 ++ call h.1 h.2 h.3 ∷ []) (bs, blocks, h.6) in
        let parts = runs_split σ Idle r.0 h.0 (call h.1 h.2 h.3 ∷ []) r.1 in
        let step : Step σ parts.0 (command_of h.2) h.3 r.0 = subst (λ z. Step σ parts.0 (command_of h.2) h.3 z) parts.2.2 parts.2.1 in
        let n = listed_number σ parts.0 r.0 (command_of h.2) h.3 p.key p.bytes step r.2 p.pushes p.queue (tidy h.0 (call h.1 h.2 h.4) t b parts.0 h.5 p parts.1) in
        record { key = p.key; bytes = p.bytes; size = n.0; pushes = p.pushes; answered = n.1; queue = p.queue; tag = p.tag; body = p.body }

    listed : (t b : Bytes) → PushedIn σ.names t b l → PushedIn σ.names t b (h.0 ++ call h.1 h.2 h.3 ∷ [])
    listed t b p = elim (pushed_split σ t b h.0 (call h.1 h.2 h.4) (subst (PushedIn σ.names t b) h.5 p)) [
      | inl q ↦ pushed_more σ t b h.0 (call h.1 h.2 h.3 ∷ []) q
      | inr q ↦ pushed_last σ t b h.0 (call h.1 h.2 h.3) (last_listed t b q)
    ]

-- a client in its manner has begun blocks
manner_begins : (σ : Full) (s : ℕ) (l : List Call) → IsMannered σ.names s l → (bs : List (List Call)) × AreBlocks σ.names s 0 0 bs × BeginsBlocks l bs
manner_begins σ s l (inl h) = (h.0, h.1, inl h.2)
manner_begins σ s l (inr h) = (h.6.0, h.6.1, inr (h.0, h.1, h.2, h.3, h.4, h.5, h.6.2))

manner_pushes : (σ : Full) (s : ℕ) (l : List Call) → IsMannered σ.names s l → Tidy σ l → (n : ℕ) × PushesOk σ s n l
manner_pushes σ s l h tidy = let b = manner_begins σ s l h in (drawn_by σ.names s 0 0 b.0 b.1, begun_pushes σ s l b.0 b.1 b.2 tidy)

-- ---- the pushes of all clients

-- a client keeps its seed
abbrev Seeded : SystemState → ℕ → ℕ → Type 0
Seeded w c s = (cl : Client) × (get w.clients c ≡ Some cl) × (cl.seed ≡ s)

seed_before : {N : Type 0} (w : SystemState) (e : Entry N) (c s : ℕ) → Seeded (next w e) c s → Seeded w c s
unfolding next
seed_before {N = N} w e c s g = by e (get w.clients (conn_of e)) refl g
  where
    put : (st : State) (d : ℕ) (old now : Client) → get w.clients d ≡ Some old → now.seed ≡ old.seed → Seeded (with_client st w d now) c s → Seeded w c s
    put st d old now is same h = at (conn_or c d)
      where
        at : (c ≡ d) ⊎ (c ≢ d) → Seeded w c s
        at (inl e') =
            let here : get (insert w.clients d now) d ≡ Some h.0 = subst (λ y. get (insert w.clients d now) y ≡ Some h.0) e' h.1 in
            let they : now ≡ h.0 = cc (here, get-insert_same nat_cmp nat_cmp_total nat_cmp-IsAntisymmetric w.clients d now) in
            (old, subst (λ y. get w.clients y ≡ Some old) (sym e') is, sym same ∙ ap (λ y. y.seed) they ∙ h.2)
        at (inr n) = (h.0, sym (get-insert_other nat_cmp nat_cmp_total nat_cmp-IsAntisymmetric w.clients d now c n) ∙ h.1, h.2)

    by : (e : Entry N) (o : Option Client) → get w.clients (conn_of e) ≡ o → Seeded (next_of w e o) c s → Seeded w c s
    by e None is h = h
    by (Called d at words reply) (Some cl) is h = put (apply_of w.store at d words).0 d cl (record cl { calls = cl.calls ++ call_in at words reply ∷ [] }) is refl h
    by (Heard d note) (Some cl) is h = h
    by (Stop d) (Some cl) is h = put (gone_of w.store d) d cl (record cl { stopped = true }) is refl h

seed_start : {N : Type 0} (w : SystemState) (es : List (Entry N)) (c s : ℕ) → Seeded (after_entries w es) c s → Seeded w c s
seed_start w [] c s h = h
seed_start w (e ∷ es) c s h = seed_before w e c s (seed_start (next w e) es c s h)

module _ {N : Type 0} (σ : Full) (h p : History N) (sound : IsSound σ.names h) (pre : IsHistoryPrefix p h) where
  abbrev s : IsSound σ.names (and_then p pre.0)
  s = parted σ h p sound pre

  abbrev first : SystemState
  first = start_from p.start p.clients

  -- the world in the end
  abbrev pub end : SystemState
  end = after_entries first (p.entries ++ pre.0)

  manners : AllMannered σ end
  manners = all_mannered σ (and_then p pre.0) s

  differ : SeedsDiffer p.clients
  differ = seeds_differ p.clients s.table.seeds_differ

  pushes_ok : (c : ℕ) (cl : Client) → get end.clients c ≡ Some cl → (n : ℕ) × PushesOk σ cl.seed n cl.calls
  unfolding AllTidy
  pushes_ok c cl is = manner_pushes σ cl.seed cl.calls (manners c cl is) (all c cl is)
    where
      all : AllTidy σ end
      all = tidy_after σ (start_count σ.names p.start) first (p.entries ++ pre.0) (inv_begin σ p.clients p.start p.used s.start) (tidy_start σ p.start p.clients) s.legal manners

  -- clients of one seed are one
  same_client : (c d : ℕ) (cl dl : Client) → get end.clients c ≡ Some cl → get end.clients d ≡ Some dl → cl.seed ≡ dl.seed → c ≡ d
  same_client c d cl dl is dis same =
      let a = seed_start first (p.entries ++ pre.0) c cl.seed (cl, is, refl) in
      let b = seed_start first (p.entries ++ pre.0) d dl.seed (dl, dis, refl) in
      differ c d a.0 b.0 a.1 b.1 (a.2 ∙ same ∙ sym b.2)

  -- a client of the prefix, at the end
  grown : (c : ℕ) (cl : Client) → get (after p).clients c ≡ Some cl → Grown end c cl.calls
  grown c cl is = subst (λ w. Grown w c cl.calls) (sym (after-append first p.entries pre.0)) (grows (after p) pre.0 c cl.calls (cl, is, prefix_self cl.calls))

  at_end : (t b : Bytes) → IsPublished σ.names (after p) t b → IsPublished σ.names end t b
  at_end t b o =
      let g = grown o.0 o.1 o.2 in
      (o.0, g.0, g.1, subst (PushedIn σ.names t b) g.2.1 (pushed_more σ t b o.1.calls g.2.0 o.3))

  -- what was published in the prefix is published in the whole
  pub published_later : (t b : Bytes) → IsPublished σ.names (after p) t b → IsPublished σ.names (after h) t b
  published_later t b o = subst (λ (x : History N). IsPublished σ.names (after x) t b) pre.1 (at_end t b o)

  -- and what has its origin there has it so
  pub origin_later : (t b : Bytes) → HasOrigin σ.names p t b → HasOrigin σ.names h t b
  origin_later t b (inl old) = inl (subst (λ (x : History N). HasEnvelope σ.names x.start t b) pre.1 old)
  origin_later t b (inr o) = inr (published_later t b o)

  one_body : (t b b' : Bytes) → IsPublished σ.names end t b → IsPublished σ.names end t b' → b ≡ b'
  one_body t b b' o o' =
      let ok = pushes_ok o.0 o.1 o.2 in
      let ok' = pushes_ok o'.0 o'.1 o'.2 in
      let j = ok.1.own t b o.3 in
      let j' = ok'.1.own t b' o'.3 in
      let same : o.1.seed ≡ o'.1.seed = (σ.laws.tag_parts o.1.seed j.0 o'.1.seed j'.0 (subst (λ x. σ.names.is_tag x ≡ true) j.2 (pushed_tag σ t b o.1.calls o.3)) (sym j.2 ∙ j'.2)).0 in
      let c : o.0 ≡ o'.0 = same_client o.0 o'.0 o.1 o'.1 o.2 o'.2 same in
      let here : get end.clients o.0 ≡ Some o'.1 = subst (λ y. get end.clients y ≡ Some o'.1) (sym c) o'.2 in
      let they : o'.1 ≡ o.1 = cc (here, o.2) in
      ok.1.once t b b' o.3 (subst (λ y. PushedIn σ.names t b' y.calls) they o'.3)

  pub one_publication : (t b b' : Bytes) → IsPublished σ.names (after p) t b → IsPublished σ.names (after p) t b' → b ≡ b'
  one_publication t b b' o o' = one_body t b b' (at_end t b o) (at_end t b' o')

  -- the prefix's own clients
  here : IsSound σ.names p
  here = prefix_sound σ.names h p sound pre

  tidy_here : AllTidy σ (after p)
  tidy_here = tidy_after σ (start_count σ.names p.start) first p.entries (inv_begin σ p.clients p.start p.used here.start) (tidy_start σ p.start p.clients) here.legal (all_mannered σ p here)

  -- a tag that the client hasn't drawn was published by nobody
  fresh_published : (c : ℕ) (cl : Client) (bs : List (List Call)) (blocks : AreBlocks σ.names cl.seed 0 0 bs) (n : ℕ) (b : Bytes) → get (after p).clients c ≡ Some cl → BeginsBlocks cl.calls bs → drawn_by σ.names cl.seed 0 0 bs blocks < n → IsPublished σ.names (after p) (σ.names.tag cl.seed n) b → ⊥
  unfolding AllTidy
  fresh_published c cl bs blocks n b is begun beyond o =
      let t : Bytes = σ.names.tag cl.seed n in
      let g = grown o.0 o.1 o.2 in
      -- the publisher's tags are of its own seed, so it is this client
      let j = (pushes_ok o.0 g.0 g.1).1.own t b (subst (PushedIn σ.names t b) g.2.1 (pushed_more σ t b o.1.calls g.2.0 o.3)) in
      let same_seed : cl.seed ≡ g.0.seed = (σ.laws.tag_parts cl.seed n g.0.seed j.0 (pushed_tag σ t b o.1.calls o.3) j.2).0 in
      let there = seed_start first (p.entries ++ pre.0) o.0 g.0.seed (g.0, g.1, refl) in
      let us = seed_start first p.entries c cl.seed (cl, is, refl) in
      let same : o.0 ≡ c = differ o.0 c there.0 us.0 there.1 us.1 (there.2 ∙ sym same_seed ∙ sym us.2) in
      let mine : get (after p).clients c ≡ Some o.1 = subst (λ y. get (after p).clients y ≡ Some o.1) same o.2 in
      let they : o.1 ≡ cl = cc (mine, is) in
      -- and it has drawn fewer
      let i = (begun_pushes σ cl.seed cl.calls bs blocks begun (tidy_here c cl is)).own t b (subst (λ y. PushedIn σ.names t b y.calls) they o.3) in
      let k : n ≡ i.0 = (σ.laws.tag_parts cl.seed n cl.seed i.0 (pushed_tag σ t b o.1.calls o.3) i.2).1 in
      omega (arith, k, i.1, beyond)

  -- a tag of a client's seed isn't in the start
  not_started : (c : ℕ) (cl : Client) (b : Bytes) (j : ℕ) → get (after p).clients c ≡ Some cl → HasEnvelope σ.names p.start (σ.names.tag cl.seed j) b → ⊥
  not_started c cl b j is st =
      let us = seed_start first p.entries c cl.seed (cl, is, refl) in
      start_seed σ p.start p.used p.clients (σ.names.tag cl.seed j) b s.start s.table st c us.0 us.1 j (ap (λ z. σ.names.tag z j) (sym us.2))

  -- and so such a tag stands nowhere
  pub fresh_tag : (c : ℕ) (cl : Client) (bs : List (List Call)) (blocks : AreBlocks σ.names cl.seed 0 0 bs) (n : ℕ) → get (after p).clients c ≡ Some cl → BeginsBlocks cl.calls bs → drawn_by σ.names cl.seed 0 0 bs blocks < n → IsNowhere σ.names p (σ.names.tag cl.seed n)
  fresh_tag c cl bs blocks n is begun beyond =
      let t : Bytes = σ.names.tag cl.seed n in
      let unpublished : (b : Bytes) → IsPublished σ.names (after p) t b → ⊥ = λ b o. fresh_published c cl bs blocks n b is begun beyond o in
      let not_in_start : (b : Bytes) → HasEnvelope σ.names p.start t b → ⊥ = λ b st. not_started c cl b n is st in
      let not_stored : (b : Bytes) → HasEnvelope σ.names (after p).store.keys t b → ⊥ = λ b st. origin_none t b unpublished not_in_start (identity σ h p t b sound pre st) in
      let now = nothing_stored σ (after p).store.keys t not_stored in
      let began = nothing_stored σ p.start t not_in_start in
      let started : start_count σ.names p.start t ≡ 0 = let z = began.0 in let f = ap one_if began.1 in omega (arith, z, f) in
      let pushed = nothing_pushed σ (after p) t unpublished in
      let placed = no_place σ h p t sound pre (omega (arith, started, pushed)) in
      record {
        unpublished = unpublished;
        not_stored = not_stored;
        not_in_start = not_in_start;
        no_start = started;
        no_push = pushed;
        no_field = now.1;
        no_member = sym ((inv_of σ h p sound pre).alike t) ∙ now.1;
        no_place = placed.1;
        no_copy = placed.0;
      }
    where
      one_if : Bool → ℕ
      one_if b = if b then 1 else 0

      origin_none : (t b : Bytes) → ((b : Bytes) → IsPublished σ.names (after p) t b → ⊥) → ((b : Bytes) → HasEnvelope σ.names p.start t b → ⊥) → HasOrigin σ.names p t b → ⊥
      origin_none t b published started (inl st) = started b st
      origin_none t b published started (inr o) = published b o

  -- a published tag is of a client's seed
  own_seed : (t b : Bytes) → IsPublished σ.names (after p) t b → (c : ℕ) × (cl : Client) × (get (table p.clients) c ≡ Some cl) × ((j : ℕ) × (t ≡ σ.names.tag cl.seed j))
  own_seed t b o =
      let e = at_end t b o in
      let j = (pushes_ok e.0 e.1 e.2).1.own t b e.3 in
      let there = seed_start first (p.entries ++ pre.0) e.0 e.1.seed (e.1, e.2, refl) in
      (e.0, there.0, there.1, (j.0, j.2 ∙ ap (λ z. σ.names.tag z j.0) (sym there.2)))

  -- what has its origin under one tag is one
  pub one_origin : (t b b' : Bytes) → HasOrigin σ.names p t b → HasOrigin σ.names p t b' → b ≡ b'
  one_origin t b b' st st' = go st st'
    where
      mixed : (x y : Bytes) → HasEnvelope σ.names p.start t x → IsPublished σ.names (after p) t y → ⊥
      mixed x y old o = let w = own_seed t y o in start_seed σ p.start p.used p.clients t x s.start s.table old w.0 w.1 w.2 w.3.0 w.3.1

      go : HasOrigin σ.names p t b → HasOrigin σ.names p t b' → b ≡ b'
      go (inl old) (inl old') = start_body σ p.start p.used s.start t b b' old old'
      go (inl old) (inr o') = absurd (mixed b b' old o')
      go (inr o) (inl old') = absurd (mixed b' b old' o)
      go (inr o) (inr o') = one_publication t b b' o o'

-- a history is a prefix of itself
pub whole_prefix : {N : Type 0} (h : History N) → IsHistoryPrefix h h
whole_prefix h = ([], ap (λ es. record h { entries = es }) (append-nil h.entries))

-- all envelopes of a tag, at two moments of a history, are one but for their marks
pub one_tree : {N : Type 0} (σ : Full) (h p p' : History N) → IsSound σ.names h → IsHistoryPrefix p h → IsHistoryPrefix p' h → (t b b' : Bytes) → HasAnywhere σ.names (after p) t b → HasAnywhere σ.names (after p') t b' → b ≡ b'
one_tree σ h p p' sound pre pre' t b b' st st' =
    one_origin σ h h sound (whole_prefix h) t b b' (origin_later σ h p sound pre t b (identity_anywhere σ h p t b sound pre st)) (origin_later σ h p' sound pre' t b' (identity_anywhere σ h p' t b' sound pre' st'))
