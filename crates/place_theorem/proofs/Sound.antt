-- What a sound history gives: the invariant after each of its prefixes.
use Rattle.std.proofs.Common.{◌+◌, ◌++◌, ◌==◌, Bool, List, None, Option, Some, [], ap, append-nil, append_assoc, arith, false, if◌then◌else◌, inl, inr, nat_cmp, refl, subst, sym, true, ℕ, ◌∙◌, ◌∷◌, ◌≡◌, ◌≢◌, ◌⊎◌}
use Rattle.std.proofs.lemmas.Cmp.{nat_cmp_total}
use Rattle.std.specs.FinMap.{get, get-empty, insert, nat_cmp-IsAntisymmetric}
use Rattle.store_model.specs.Keys.{Keys}
use Rattle.store_model.specs.Store.{State, apply_of, gone_of}
use Rattle.store_laws.proofs.Maps.{conn_or, get-insert_other, get-insert_same}
use Rattle.command_blocks.specs.Blocks.{IsMannered}
use Rattle.command_blocks.specs.Calls.{Call}
use Rattle.place_model.specs.Counts.{IsAccepted, IsPlaced, IsSingle, direct_pushes, list_count, start_count}
use Rattle.place_model.specs.Histories.{AllMayCome, Client, History, IsHistoryPrefix, MayCome, SystemState, after, after_entries, and_then, calls_among, calls_of, conn_of, new_client, next, next_of, onto_calls, own_entries, start_from, table, with_client}
use Rattle.queue_keys.specs.Names.{Bytes, same}
use Rattle.queue_keys.specs.QueueKeys.{Among}
use Rattle.place_model.specs.Starts.{IsSound, IsSoundStart}
use Rattle.place_model.specs.declared.history.Entry.{Entry}
use Rattle.place_model.specs.declared.history.Entry.TheVariants.{Call as Called, Heard, Stop}
use Rattle.place_theorem.proofs.Full.{Alike, Full, Kinds}
use Rattle.place_theorem.proofs.Kept.{Inv}
use Rattle.place_theorem.proofs.Numerals.{eqb_true, off}
use Rattle.place_theorem.proofs.Safe.{lists_of, table_of}
use Rattle.place_theorem.proofs.Transactions.{table_is}
use Rattle.place_theorem.proofs.Whole.{AllMannered, call_in, inv_after, inv_start, legal_part, table_get}

-- ---- what the world keeps of a client are its calls

pub calls-first : {N : Type 0} (c : ℕ) (e : Entry N) (es : List (Entry N)) → calls_of c (e ∷ es) ≡ calls_of c (e ∷ []) ++ calls_of c es
calls-first {N = N} c e es = elim (conn_of e == c) as (λ b. calls_among (if b then e ∷ own_entries c es else own_entries c es) ≡ calls_among (if b then e ∷ [] else []) ++ calls_of c es) [
  | true ↦ here e
  | false ↦ refl
]
  where
    here : (e : Entry N) → onto_calls e (calls_among (own_entries c es)) ≡ onto_calls e [] ++ calls_of c es
    here (Called d at words reply) = refl
    here (Heard d note) = refl
    here (Stop d) = refl

-- what the world has of the client is this one with these further calls
abbrev GoesOn : SystemState → ℕ → Client → List Call → Type 0
GoesOn w c cl l = (now : Client) × (get w.clients c ≡ Some now) × (now.seed ≡ cl.seed) × (now.calls ≡ cl.calls ++ l)

stays : (w : SystemState) (c : ℕ) (cl : Client) → get w.clients c ≡ Some cl → GoesOn w c cl []
stays w c cl is = (cl, is, refl, sym (append-nil cl.calls))

own_calls : {N : Type 0} (c : ℕ) (e : Entry N) (b : Bool) → (conn_of e == c) ≡ b → calls_of c (e ∷ []) ≡ (if b then onto_calls e [] else [])
own_calls c e true i = ap (λ b. calls_among (if b then e ∷ [] else [])) i
own_calls c e false i = ap (λ b. calls_among (if b then e ∷ [] else [])) i

module _ (N : Type 0) (w : SystemState) (c : ℕ) (cl : Client) (is : get w.clients c ≡ Some cl) where
  -- another client's entry
  aside : (s : State) (d : ℕ) (new : Client) → c ≢ d → GoesOn (with_client s w d new) c cl []
  aside s d new n = (cl, get-insert_other nat_cmp nat_cmp_total nat_cmp-IsAntisymmetric w.clients d new c n ∙ is, refl, sym (append-nil cl.calls))

  -- its own
  own : (s : State) (d : ℕ) (old : Client) (l : List Call) (new : Client) → get w.clients d ≡ Some old → c ≡ d → new.seed ≡ old.seed → new.calls ≡ old.calls ++ l → GoesOn (with_client s w d new) c cl l
  own s d old l new was e seed calls =
      let at_c : get w.clients c ≡ Some old = ap (get w.clients) e ∙ was in
      let they : old ≡ cl = cc (at_c, is) in
      (new, ap (get (insert w.clients d new)) e ∙ get-insert_same nat_cmp nat_cmp_total nat_cmp-IsAntisymmetric w.clients d new, seed ∙ ap (λ x. x.seed) they, calls ∙ ap (λ x. x.calls ++ l) they)

  by_client : (e : Entry N) (o : Option Client) → get w.clients (conn_of e) ≡ o → (b : Bool) → (conn_of e == c) ≡ b → GoesOn (next_of w e o) c cl (if b then onto_calls e [] else [])
  by_client e None was true i = let z : get w.clients c ≡ None = sym (ap (get w.clients) (eqb_true (conn_of e) c i)) ∙ was in cc
  by_client e None was false i = stays w c cl is
  by_client (Called d at words reply) (Some old) was true i = own (apply_of w.store at d words).0 d old (call_in at words reply ∷ []) (record old { calls = old.calls ++ call_in at words reply ∷ [] }) was (sym (eqb_true d c i)) refl refl
  by_client (Called d at words reply) (Some old) was false i = aside (apply_of w.store at d words).0 d (record old { calls = old.calls ++ call_in at words reply ∷ [] }) (λ e. off d c i (sym e))
  by_client (Heard d note) (Some old) was true i = stays w c cl is
  by_client (Heard d note) (Some old) was false i = stays w c cl is
  by_client (Stop d) (Some old) was true i = own (gone_of w.store d) d old [] (record old { stopped = true }) was (sym (eqb_true d c i)) refl (sym (append-nil old.calls))
  by_client (Stop d) (Some old) was false i = aside (gone_of w.store d) d (record old { stopped = true }) (λ e. off d c i (sym e))

  goes_one : (e : Entry N) → GoesOn (next w e) c cl (calls_of c (e ∷ []))
  unfolding next
  goes_one e = go (conn_of e == c) refl
    where
      go : (b : Bool) → (conn_of e == c) ≡ b → GoesOn (next_of w e (get w.clients (conn_of e))) c cl (calls_of c (e ∷ []))
      go b i = subst (GoesOn (next_of w e (get w.clients (conn_of e))) c cl) (sym (own_calls c e b i)) (by_client e (get w.clients (conn_of e)) refl b i)

-- the world goes on with a client's calls
pub client_goes : {N : Type 0} (w : SystemState) (es : List (Entry N)) (c : ℕ) (cl : Client) → get w.clients c ≡ Some cl → GoesOn (after_entries w es) c cl (calls_of c es)
client_goes w [] c cl is = stays w c cl is
client_goes {N = N} w (e ∷ es) c cl is =
    let a = goes_one N w c cl is e in
    let r = client_goes (next w e) es c a.0 a.1 in
    (r.0, r.1, r.2 ∙ a.2, r.3 ∙ ap (λ l. l ++ calls_of c es) a.3 ∙ append_assoc cl.calls (calls_of c (e ∷ [])) (calls_of c es) ∙ ap (λ l. cl.calls ++ l) (sym (calls-first c e es)))

-- who isn't known stays so
unknown_one : {N : Type 0} (w : SystemState) (e : Entry N) (c : ℕ) → get w.clients c ≡ None → get (next w e).clients c ≡ None
unfolding next
unknown_one {N = N} w e c none = go e (get w.clients (conn_of e)) refl
  where
    put : (s : State) (d : ℕ) (old new : Client) → get w.clients d ≡ Some old → get (with_client s w d new).clients c ≡ None
    put s d old new was = at (conn_or c d)
      where
        at : (c ≡ d) ⊎ (c ≢ d) → get (insert w.clients d new) c ≡ None
        at (inl e') = let z : get w.clients c ≡ Some old = ap (get w.clients) e' ∙ was in absurd (cc (z, none))
        at (inr n) = get-insert_other nat_cmp nat_cmp_total nat_cmp-IsAntisymmetric w.clients d new c n ∙ none

    go : (e : Entry N) (o : Option Client) → get w.clients (conn_of e) ≡ o → get (next_of w e o).clients c ≡ None
    go e None was = none
    go (Called d at words reply) (Some old) was = put (apply_of w.store at d words).0 d old (record old { calls = old.calls ++ call_in at words reply ∷ [] }) was
    go (Heard d note) (Some old) was = none
    go (Stop d) (Some old) was = put (gone_of w.store d) d old (record old { stopped = true }) was

-- no connection comes to be known
pub unknown : {N : Type 0} (w : SystemState) (es : List (Entry N)) (c : ℕ) → get w.clients c ≡ None → get (after_entries w es).clients c ≡ None
unknown w [] c none = none
unknown w (e ∷ es) c none = unknown (next w e) es c (unknown_one w e c none)

-- ---- the table

-- who is known at the start is in the table
pub in_table : (cs : List (ℕ × ℕ)) (c : ℕ) (cl : Client) → get (table cs) c ≡ Some cl → Among (c, cl.seed) cs
in_table [] c cl is = absurd (cc (is, get-empty {X = Client} nat_cmp c))
in_table (d ∷ cs) c cl is = go (in_table cs c cl) (conn_or c d.0)
  where
    go : (get (table cs) c ≡ Some cl → Among (c, cl.seed) cs) → (c ≡ d.0) ⊎ (c ≢ d.0) → Among (c, cl.seed) (d ∷ cs)
    go rest (inl e) =
        let at_d : get (table (d ∷ cs)) d.0 ≡ Some cl = subst (λ y. get (table (d ∷ cs)) y ≡ Some cl) e is in
        let they : new_client d.1 ≡ cl = cc (at_d, get-insert_same nat_cmp nat_cmp_total nat_cmp-IsAntisymmetric (table cs) d.0 (new_client d.1)) in
        inl (λ i. (e i, sym (ap (λ y. y.seed) they) i))
    go rest (inr n) = inr (rest (sym (get-insert_other nat_cmp nat_cmp_total nat_cmp-IsAntisymmetric (table cs) d.0 (new_client d.1) c n) ∙ is))

-- each client of the world is one of the table, and its calls are those of its connection
pub client_is : {N : Type 0} (h : History N) (c : ℕ) (cl : Client) → get (after h).clients c ≡ Some cl → Among (c, cl.seed) h.clients × (cl.calls ≡ calls_of c h.entries)
client_is h c cl is = go (get (table h.clients) c) refl
  where
    go : (o : Option Client) → get (table h.clients) c ≡ o → Among (c, cl.seed) h.clients × (cl.calls ≡ calls_of c h.entries)
    go None none = absurd (cc (is, unknown (start_from h.start h.clients) h.entries c none))
    go (Some first) was =
        let g = client_goes (start_from h.start h.clients) h.entries c first was in
        let they : g.0 ≡ cl = cc (g.1, is) in
        let new = table_get h.clients c first was in
        (subst (λ s. Among (c, s) h.clients) (sym g.2 ∙ ap (λ x. x.seed) they) (in_table h.clients c first was), sym (ap (λ x. x.calls) they) ∙ g.3 ∙ ap (λ l. l ++ calls_of c h.entries) new.0)

-- so each client of the world keeps its manner
pub all_mannered : {N : Type 0} (σ : Full) (h : History N) → IsSound σ.names h → AllMannered σ (after h)
all_mannered σ h sound c cl is =
    let k = client_is h c cl is in
    subst (IsMannered σ.names cl.seed) (sym k.1) (sound.mannered c cl.seed k.0)

-- ---- the start

-- the kinds of a sound start
pub kinds_of : (σ : Full) (m : Keys) (used : List ℕ) → IsSoundStart σ.names m used → Kinds σ m
kinds_of σ m used s = record {
  lists = s.lists;
  table = s.table;
  members = s.members;
  lists_last = λ k q. s.lasts k;
  table_lasts = s.lasts σ.names.unacked;
  members_last = s.lasts σ.names.index;
}

start_counts : (σ : Full) (m : Keys) → Alike σ m → (t : Bytes) → lists_of σ m t + table_of σ m t ≡ start_count σ.names m t
start_counts σ m alike t = ap (λ n. list_count σ.names m t + n) (table_is σ m alike t)

-- the invariant with another base that is the same
rebased : (σ : Full) (base base' : Bytes → ℕ) (w : SystemState) → ((t : Bytes) → base t ≡ base' t) → Inv σ base w → Inv σ base' w
rebased σ base base' w same inv = record {
  kinds = inv.kinds;
  alike = inv.alike;
  clients = inv.clients;
  placed = λ t one no_copy. let e = same t in let p = inv.placed t (omega (arith, e, one)) no_copy in omega (arith, e, p);
}

-- the invariant at the start
pub inv_begin : (σ : Full) (cs : List (ℕ × ℕ)) (m : Keys) (used : List ℕ) → IsSoundStart σ.names m used → Inv σ (start_count σ.names m) (start_from m cs)
inv_begin σ cs m used s = rebased σ _ _ _ (start_counts σ m s.alike) (inv_start σ cs m (kinds_of σ m used s) s.alike)

-- ---- after a prefix

-- the whole history, by its prefix and what follows it
pub parted : {N : Type 0} (σ : Full) (h p : History N) → IsSound σ.names h → (pre : IsHistoryPrefix p h) → IsSound σ.names (and_then p pre.0)
parted σ h p sound pre = subst (IsSound σ.names) (sym pre.1) sound

-- and after each prefix
pub inv_of : {N : Type 0} (σ : Full) (h p : History N) → IsSound σ.names h → IsHistoryPrefix p h → Inv σ (start_count σ.names p.start) (after p)
inv_of σ h p sound pre =
    let s = parted σ h p sound pre in
    inv_after σ (start_count σ.names p.start) (start_from p.start p.clients) p.entries pre.0 (inv_begin σ p.clients p.start p.used s.start) s.legal (all_mannered σ (and_then p pre.0) s)

-- a tag that is accepted and single is in one place
pub placed_one : {N : Type 0} (σ : Full) (h p : History N) (t : Bytes) → IsSound σ.names h → IsHistoryPrefix p h → IsAccepted σ.names p t → IsSingle σ.names p t → IsPlaced σ.names p t
placed_one σ h p t sound pre accepted single =
    let inv = inv_of σ h p sound pre in
    let n : start_count σ.names p.start t + direct_pushes σ.names (after p) t ≡ 1 = omega (arith, accepted, single.0) in
    (inv.placed t single.0 single.1 ∙ n, inv.alike t)

-- the world after further entries
pub after-append : {N : Type 0} (w : SystemState) (p rest : List (Entry N)) → after_entries w (p ++ rest) ≡ after_entries (after_entries w p) rest
after-append w [] rest = refl
after-append w (e ∷ p) rest = after-append (next w e) p rest

-- an entry that follows a prefix: the invariant before it, that it may come, and the manner of all in the end
pub entry_of : {N : Type 0} (σ : Full) (h p : History N) (e : Entry N) → IsSound σ.names h → (pre : IsHistoryPrefix (and_then p (e ∷ [])) h)
    → Inv σ (start_count σ.names p.start) (after p) × MayCome (after p) e × AllMannered σ (after_entries (start_from p.start p.clients) (p.entries ++ e ∷ pre.0))
entry_of {N = N} σ h p e sound pre =
    let back = append_assoc p.entries (e ∷ []) pre.0 in
    let s = parted σ h (and_then p (e ∷ [])) sound pre in
    let legal : AllMayCome (start_from p.start p.clients) (p.entries ++ e ∷ pre.0) = subst (AllMayCome (start_from p.start p.clients)) back s.legal in
    let all : AllMannered σ (after_entries (start_from p.start p.clients) (p.entries ++ e ∷ pre.0)) = subst (λ es. AllMannered σ (after_entries (start_from p.start p.clients) es)) back (all_mannered σ (and_then (and_then p (e ∷ [])) pre.0) s) in
    (inv_after σ (start_count σ.names p.start) (start_from p.start p.clients) p.entries (e ∷ pre.0) (inv_begin σ p.clients p.start p.used s.start) legal all, (legal_part (start_from p.start p.clients) p.entries (e ∷ pre.0) legal).0, all)
