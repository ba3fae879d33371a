-- The start, and whole histories.
use Rattle.std.proofs.Common.{◌+◌, ◌++◌, List, None, Option, Ordering, Some, [], ap, append-nil, append_assoc, arith, false, inl, inr, nat_cmp, refl, subst, sym, true, ℕ, ◌∙◌, ◌∷◌, ◌≡◌, ◌≢◌, ◌⊎◌}
use Rattle.std.proofs.lemmas.Cmp.{nat_cmp_total}
use Rattle.std.specs.Cmp.{IsTotalOrder}
use Rattle.std.specs.FinMap.{IsAntisymmetric, empty, entries, entries-from_sorted, from_sorted, get, get-empty, get-from_sorted, insert, nat_cmp-IsAntisymmetric, same_map}
use Rattle.wire_values.specs.declared.value.Value.{Value}
use Rattle.store_model.specs.Connections.{conn, or_no_conn}
use Rattle.store_model.specs.Keys.{Keys, live_at}
use Rattle.store_model.specs.Store.{State, apply_of, gone_of, quiet, serve, settled}
use Rattle.store_model.specs.Words.{Words, command_of}
use Rattle.store_model.specs.declared.reply.Reply.{Reply}
use Rattle.store_laws.proofs.Maps.{conn_or, get-insert_other, get-insert_same, total-insert}
use Rattle.command_blocks.specs.Blocks.{IsMannered}
use Rattle.command_blocks.specs.Calls.{Call, IsPrefixOf, call}
use Rattle.place_model.specs.Counts.{count, end_one, end_weight, hand_weight, loss_weight, push_weight, sum_of, total}
use Rattle.place_model.specs.Histories.{AllMayCome, Client, MayCome, SystemState, after_entries, conn_of, next, next_of, start_from, table, with_client}
use Rattle.queue_keys.specs.Names.{Bytes}
use Rattle.place_model.specs.Seen.{nothing_seen, seen, tag_weight}
use Rattle.place_model.specs.declared.history.Entry.{Entry}
use Rattle.place_model.specs.declared.history.Entry.TheVariants.{Call as Called, Heard, Stop}
use Rattle.place_theorem.proofs.Full.{Alike, Full, Kinds}
use Rattle.place_theorem.proofs.Kept.{Inv, called, stopped, stopped_is}
use Rattle.place_theorem.proofs.Machine.{Cursor, Idle, Runs, manner_runs, runs_split}
use Rattle.place_theorem.proofs.Safe.{Stands, lists_of, table_of}
use Rattle.place_theorem.proofs.Settle.{answer_is, hush, inv_hushed, inv_settled, settle, state_is}

-- ---- the start

-- the sum over no entries
pub total-empty : {K X : Type 0} (R : K → K → Ordering) (o : IsTotalOrder R) (anti : IsAntisymmetric R) (f : K → X → ℕ) → total f (entries (empty {X = X} {R = R})) ≡ 0
total-empty {X = X} R o anti f =
    let same : from_sorted {R = R} [] ≡ empty {X = X} = same_map o anti _ _ (λ q. get-from_sorted R [] q tt ∙ sym (get-empty R q)) in
    ap (λ m. total f (entries m)) (sym same) ∙ ap (total f) (entries-from_sorted R [] tt)

-- it has made no call
abbrev pub IsNew : Client → Type 0
IsNew cl = (cl.calls ≡ []) × (cl.stopped ≡ false)

-- a client of the table has called nothing
pub table_get : (cs : List (ℕ × ℕ)) (c : ℕ) (cl : Client) → get (table cs) c ≡ Some cl → IsNew cl
table_get [] c cl is = absurd (cc (is, get-empty {X = Client} nat_cmp c))
table_get (d ∷ cs) c cl is = go (conn_or c d.0) (table_get cs c cl)
  where
    go : (c ≡ d.0) ⊎ (c ≢ d.0) → (get (table cs) c ≡ Some cl → IsNew cl) → IsNew cl
    go (inl e) rest =
        let at_d : get (table (d ∷ cs)) d.0 ≡ Some cl = subst (λ y. get (table (d ∷ cs)) y ≡ Some cl) e is in
        let s = get-insert_same nat_cmp nat_cmp_total nat_cmp-IsAntisymmetric (table cs) d.0 (record { seed = d.1; calls = []; stopped = false }) in
        let they : record { seed = d.1; calls = []; stopped = false } ≡ cl = cc (at_d, s) in
        (sym (ap (λ y. y.calls) they), sym (ap (λ y. y.stopped) they))
    go (inr n) rest = rest (sym (get-insert_other nat_cmp nat_cmp_total nat_cmp-IsAntisymmetric (table cs) d.0 _ c n) ∙ is)

pub table_total : (f : ℕ → Client → ℕ) → ((c s : ℕ) → f c (record { seed = s; calls = []; stopped = false }) ≡ 0) → (cs : List (ℕ × ℕ)) → total f (entries (table cs)) ≡ 0
table_total f z [] = total-empty nat_cmp nat_cmp_total nat_cmp-IsAntisymmetric f
table_total f z (c ∷ cs) =
    let t = total-insert nat_cmp nat_cmp_total nat_cmp-IsAntisymmetric f (table cs) c.0 (record { seed = c.1; calls = []; stopped = false }) in
    let r = table_total f z cs in
    omega (arith, t, r, z c.0 c.1)

pub seen_none : (σ : Full) → seen σ.names [] ≡ nothing_seen
unfolding seen
seen_none σ = refl

-- a store without connections, in order
pub inv_start : (σ : Full) (cs : List (ℕ × ℕ)) (m : Keys) → Kinds σ m → Alike σ m → Inv σ (λ t. lists_of σ m t + table_of σ m t) (start_from m cs)
inv_start σ cs m kinds alike = record {
  kinds = kinds;
  alike = alike;
  clients = λ c cl cur is runs r live.
      let e = (table_get cs c cl is).0 in
      let idle : Idle ≡ cur = subst (λ l. Runs σ Idle l cur) e r in
      subst (λ y. Stands σ (start_from m cs).store c y (seen σ.names cl.calls)) idle (record {
        marked = false;
        channels = [];
        pending = [];
        mine = ap or_no_conn (get-empty nat_cmp c);
        mark_ok = record { free = λ w. refl; held = tt };
        talk_ok = inl refl;
        is = record { hand = ap (λ l. (seen σ.names l).hand) e ∙ ap (λ s. s.hand) (seen_none σ); since = tt; asked = tt };
      });
  placed = λ t one no_copy.
      let h = table_total (hand_weight σ.names t) (λ c s. ap (λ s. tag_weight t s.hand) (seen_none σ)) cs in
      let s = table_total (loss_weight σ.names t) (λ c s. refl) cs in
      let e = table_total (end_weight σ.names t) (λ c s. ap (λ s. sum_of (end_one σ.names t) s.ran) (seen_none σ)) cs in
      let p = table_total (push_weight σ.names t) (λ c s. ap (λ s. count t s.pushes) (seen_none σ)) cs in
      omega (arith, h, s, e, p);
}

-- ---- a client's calls grow

-- a list is a prefix of itself
pub prefix_self : {A : Type 0} (xs : List A) → IsPrefixOf xs xs
prefix_self xs = ([], append-nil xs)

prefix_trans : {A : Type 0} (xs ys zs : List A) → IsPrefixOf xs ys → IsPrefixOf ys zs → IsPrefixOf xs zs
prefix_trans xs ys zs p q = (p.0 ++ q.0, sym (append_assoc xs p.0 q.0) ∙ ap (λ w. w ++ q.0) p.1 ∙ q.1)

-- the client's calls begin with these
abbrev pub Grown : SystemState → ℕ → List Call → Type 0
Grown w c l = (cl : Client) × (get w.clients c ≡ Some cl) × IsPrefixOf l cl.calls

-- one entry
pub grows_one : {N : Type 0} (w : SystemState) (e : Entry N) (c : ℕ) (l : List Call) → Grown w c l → Grown (next w e) c l
unfolding next
grows_one {N = N} w e c l g = go (get w.clients (conn_of e)) refl
  where
    put : (s : State) (d : ℕ) (old new : Client) → get w.clients d ≡ Some old → IsPrefixOf old.calls new.calls → Grown (with_client s w d new) c l
    put s d old new is p = at (conn_or c d)
      where
        at : (c ≡ d) ⊎ (c ≢ d) → Grown (with_client s w d new) c l
        at (inl e') =
            let was : get w.clients d ≡ Some g.0 = subst (λ y. get w.clients y ≡ Some g.0) e' g.1 in
            let they : g.0 ≡ old = cc (was, is) in
            (new, subst (λ y. get (insert w.clients d new) y ≡ Some new) (sym e') (get-insert_same nat_cmp nat_cmp_total nat_cmp-IsAntisymmetric w.clients d new), prefix_trans l old.calls new.calls (subst (λ y. IsPrefixOf l y.calls) they g.2) p)
        at (inr n) = (g.0, get-insert_other nat_cmp nat_cmp_total nat_cmp-IsAntisymmetric w.clients d new c n ∙ g.1, g.2)

    by : (e : Entry N) (o : Option Client) → get w.clients (conn_of e) ≡ o → Grown (next_of w e o) c l
    by (Called d at words reply) None is = g
    by (Called d at words reply) (Some cl) is = put (apply_of w.store at d words).0 d cl (record cl { calls = cl.calls ++ call at words reply.answer ∷ [] }) is (call at words reply.answer ∷ [], refl)
    by (Heard d note) None is = g
    by (Heard d note) (Some cl) is = g
    by (Stop d) None is = g
    by (Stop d) (Some cl) is = put (gone_of w.store d) d cl (record cl { stopped = true }) is (prefix_self cl.calls)

    go : (o : Option Client) → get w.clients (conn_of e) ≡ o → Grown (next_of w e o) c l
    go o is = by e o is

-- and so they do after further entries
pub grows : {N : Type 0} (w : SystemState) (es : List (Entry N)) (c : ℕ) (l : List Call) → Grown w c l → Grown (after_entries w es) c l
grows w [] c l g = g
grows w (e ∷ es) c l g = grows (next w e) es c l (grows_one w e c l g)

-- ---- one entry, and then all

-- each client keeps its manner
abbrev pub AllMannered : Full → SystemState → Type 0
AllMannered σ w = (c : ℕ) (cl : Client) → get w.clients c ≡ Some cl → IsMannered σ.names cl.seed cl.calls

-- the call of an entry
abbrev pub call_in : ℕ → Words → Reply → Call
call_in at words reply = call at words reply.answer

-- the world after a call
pub next_called : (N : Type 0) (w : SystemState) (c at : ℕ) (words : Words) (reply : Reply) (cl : Client) → get w.clients c ≡ Some cl → next {N = N} w (Called c at words reply) ≡ with_client (apply_of w.store at c words).0 w c (record cl { calls = cl.calls ++ call_in at words reply ∷ [] })
unfolding next
next_called N w c at words reply cl known = ap (next_of {N = N} w (Called c at words reply)) known

-- a note changes nothing
pub next_heard : {N : Type 0} (w : SystemState) (c : ℕ) (note : N) → next w (Heard c note) ≡ w
unfolding next
next_heard w c note = go (get w.clients c)
  where
    go : (o : Option Client) → next_of w (Heard c note) o ≡ w
    go None = refl
    go (Some cl) = refl

-- the calls of a client up to one that it makes
pub runs_to : {N : Type 0} (σ : Full) (w : SystemState) (c at : ℕ) (words : Words) (reply : Reply) (rest : List (Entry N)) (cl : Client) → get w.clients c ≡ Some cl → AllMannered σ (after_entries (next {N = N} w (Called c at words reply)) rest) → (to : Cursor) × Runs σ Idle (cl.calls ++ call_in at words reply ∷ []) to
runs_to {N = N} σ w c at words reply rest cl known all =
    let x : Call = call_in at words reply in
    let new : Client = record cl { calls = cl.calls ++ x ∷ [] } in
    let w' = with_client (apply_of w.store at c words).0 w c new in
    let is = next_called N w c at words reply cl known in
    let g : Grown w' c (cl.calls ++ x ∷ []) = (new, get-insert_same nat_cmp nat_cmp_total nat_cmp-IsAntisymmetric w.clients c new, prefix_self (cl.calls ++ x ∷ [])) in
    let last = grows w' rest c (cl.calls ++ x ∷ []) g in
    let all' : AllMannered σ (after_entries w' rest) = subst (λ y. AllMannered σ (after_entries y rest)) is all in
    let r = manner_runs σ last.0.seed last.0.calls (all' c last.0 last.1) in
    let p = runs_split σ Idle r.0 (cl.calls ++ x ∷ []) last.2.0 (subst (λ l. Runs σ Idle l r.0) (sym last.2.1) r.1) in
    (p.0, p.1)

-- the same of a call after a prefix
pub called_runs : {N : Type 0} (σ : Full) (w : SystemState) (p : List (Entry N)) (c at : ℕ) (words : Words) (reply : Reply) (rest : List (Entry N)) (cl : Client) → get (after_entries w p).clients c ≡ Some cl → AllMannered σ (after_entries w (p ++ Called c at words reply ∷ rest)) → (to : Cursor) × Runs σ Idle (cl.calls ++ call_in at words reply ∷ []) to
called_runs σ w [] c at words reply rest cl known all = runs_to σ w c at words reply rest cl known all
called_runs σ w (e ∷ p) c at words reply rest cl known all = called_runs σ (next w e) p c at words reply rest cl known all

-- the world in which a call is served: what is due is dropped, and the pending messages were told
abbrev pub ready : SystemState → ℕ → ℕ → SystemState
ready w at c = hush (settle w at) c

-- the invariant holds there
pub inv_ready : (σ : Full) (base : Bytes → ℕ) (w : SystemState) (at c : ℕ) → Inv σ base w → Inv σ base (ready w at c)
inv_ready σ base w at c inv = inv_hushed σ base (settle w at) c (inv_settled σ base w at inv)

-- the reply is what is served there
pub served : (w : SystemState) (c at : ℕ) (words : Words) (reply : Reply) → reply ≡ (apply_of w.store at c words).1 → reply.answer ≡ (serve at (ready w at c).store c (command_of words) (conn (ready w at c).store.conns c)).1
served w c at words reply right = ap (λ r. r.answer) right ∙ answer_is at (settled w.store at) c words

-- each entry keeps the invariant
pub one_entry : {N : Type 0} (σ : Full) (base : Bytes → ℕ) (w : SystemState) (e : Entry N) (rest : List (Entry N)) → Inv σ base w → MayCome w e → AllMannered σ (after_entries (next w e) rest) → Inv σ base (next w e)
one_entry {N = N} σ base w (Stop c) rest inv may all = subst (Inv σ base) (sym (stopped_is σ base w inv c may.0 may.1 may.2 N)) (stopped σ base w inv c may.0 may.1 may.2)
one_entry σ base w (Heard c note) rest inv may all = subst (Inv σ base) (sym (next_heard w c note)) inv
one_entry {N = N} σ base w (Called c at words reply) rest inv may all =
    let r = runs_to σ w c at words reply rest may.0 may.1 all in
    let x : Call = call_in at words reply in
    let new : Client = record may.0 { calls = may.0.calls ++ x ∷ [] } in
    let now = called σ base (ready w at c) (inv_ready σ base w at c inv) c may.0 may.1 may.2 x (served w c at words reply may.3) r.0 r.1 in
    subst (Inv σ base) (sym (next_called N w c at words reply may.0 may.1)) (subst (λ s. Inv σ base (with_client s w c new)) (sym (state_is at (settled w.store at) c words)) now)

-- and so do entries in a row
pub inv_after : {N : Type 0} (σ : Full) (base : Bytes → ℕ) (w : SystemState) (p rest : List (Entry N)) → Inv σ base w → AllMayCome w (p ++ rest) → AllMannered σ (after_entries w (p ++ rest)) → Inv σ base (after_entries w p)
inv_after σ base w [] rest inv legal all = inv
inv_after σ base w (e ∷ p) rest inv legal all = inv_after σ base (next w e) p rest (one_entry σ base w e (p ++ rest) inv legal.0 all) legal.1 all

-- what follows a prefix is legal after it
pub legal_part : {N : Type 0} (w : SystemState) (p rest : List (Entry N)) → AllMayCome w (p ++ rest) → AllMayCome (after_entries w p) rest
legal_part w [] rest h = h
legal_part w (e ∷ p) rest h = legal_part (next w e) p rest h.1

-- its keys are those that are live
pub ready_keys : (w : SystemState) (at c : ℕ) → (ready w at c).store.keys ≡ live_at at w.store.keys
ready_keys w at c = go (conn (settled w.store at).conns c).pending
  where
    go : (ms : List Value) → (quiet (settled w.store at) c (conn (settled w.store at).conns c) ms).keys ≡ live_at at w.store.keys
    go [] = refl
    go (x ∷ xs) = refl
