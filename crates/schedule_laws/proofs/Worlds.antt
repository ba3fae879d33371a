-- Histories with an entry or a client more.
use Rattle.std.proofs.Common.{◌≡◌, ◌≢◌, ◌⊎◌, inl, inr, ℕ, ◌≤◌, ◌<◌, ◌^◌, refl, ap, sym, ◌∙◌, subst, arith, List, [], ◌∷◌, ◌++◌, Bool, true, false, None, Some, if◌then◌else◌}
use Rattle.std.specs.Prelude.{◌==◌, ◌||◌, nat_eq}
use Rattle.std.specs.Ordering.{nat_cmp}
use Rattle.std.specs.FinMap.{get, insert, get-empty}
use Rattle.std.proofs.lemmas.Grind.{common_steps}
use Rattle.store_model.specs.Words.{Words}
use Rattle.store_model.specs.Store.{apply_of, gone_of}
use Rattle.store_model.specs.declared.reply.Reply.{Reply}
use Rattle.command_blocks.specs.Calls.{Call, call}
use Rattle.queue_keys.specs.QueueKeys.{IsAway, Differ, Among}
use Rattle.place_model.specs.Histories.{conn_of, own_entries, onto_calls, calls_among, calls_of, Client, SystemState, with_client, next_of, next, after_entries, new_client, table, AnswersRight, MayCome, AllMayCome, connections, seeds, AreUnused, IsTable}
use Rattle.place_model.specs.declared.heard.Heard.{Heard as Note}
use Rattle.place_model.specs.declared.history.Entry.{Entry}
use Rattle.place_model.specs.declared.history.Entry.TheVariants.{Call as Called, Heard, Stop}
use Rattle.schedule_model.specs.Faults.{has_number, has_seed}
use Rattle.block_laws.specs.Rows.{AreTimely}
use Rattle.schedule_laws.specs.Sound.{RisesTo}
use Rattle.schedule_laws.proofs.Numbered.{same_or, get_other, insert_swap, another}

pub neither : (a b : Bool) → (a || b) ≡ false → (a ≡ false) × (b ≡ false)
neither true b e = let no_way : true ≡ false = e in absurd (cc no_way)
neither false b e = (refl, e)

-- ---- entries

pub after-append : (w : SystemState) (h t : List (Entry Note)) → after_entries w (h ++ t) ≡ after_entries (after_entries w h) t
after-append w [] t = refl
after-append w (e ∷ h) t = after-append (next w e) h t

pub legal-append : (w : SystemState) (h t : List (Entry Note)) → AllMayCome w h → AllMayCome (after_entries w h) t → AllMayCome w (h ++ t)
legal-append w [] t a b = b
legal-append w (e ∷ h) t a b = (a.0, legal-append (next w e) h t a.1 b)

pub next_called : (w : SystemState) (c at : ℕ) (words : Words) (reply : Reply) (cl : Client) → get w.clients c ≡ Some cl
    → next {N = Note} w (Called c at words reply) ≡ with_client (apply_of w.store at c words).0 w c (record cl { calls = cl.calls ++ call at words reply.answer ∷ [] })
unfolding next
next_called w c at words reply cl known = ap (next_of {N = Note} w (Called c at words reply)) known

pub next_heard : (w : SystemState) (c : ℕ) (note : Note) (cl : Client) → get w.clients c ≡ Some cl → next w (Heard c note) ≡ w
unfolding next
next_heard w c note cl known = ap (next_of w (Heard c note)) known

pub next_stopped : (w : SystemState) (c : ℕ) (cl : Client) → get w.clients c ≡ Some cl → next {N = Note} w (Stop c) ≡ with_client (gone_of w.store c) w c (record cl { stopped = true })
unfolding next
next_stopped w c cl known = ap (next_of {N = Note} w (Stop c)) known

-- ---- a client's calls

own : (c : ℕ) (e : Entry Note) (es : List (Entry Note)) → conn_of e ≡ c → calls_of c (e ∷ es) ≡ onto_calls e (calls_of c es)
own c e es is = let h : (conn_of e == c) ≡ true = grind (arith, common_steps, is) in ap (λ b. calls_among (if b then e ∷ own_entries c es else own_entries c es)) h

foreign : (c : ℕ) (e : Entry Note) (es : List (Entry Note)) → conn_of e ≢ c → calls_of c (e ∷ es) ≡ calls_of c es
foreign c e es is = let h : (conn_of e == c) ≡ false = grind (arith, common_steps, is) in ap (λ b. calls_among (if b then e ∷ own_entries c es else own_entries c es)) h

onto-append : (e : Entry Note) (xs ys : List Call) → onto_calls e xs ++ ys ≡ onto_calls e (xs ++ ys)
onto-append (Called c at words reply) xs ys = refl
onto-append (Heard c note) xs ys = refl
onto-append (Stop c) xs ys = refl

pub calls-append : (c : ℕ) (h t : List (Entry Note)) → calls_of c (h ++ t) ≡ calls_of c h ++ calls_of c t
calls-append c [] t = refl
calls-append c (e ∷ h) t = by (same_or (conn_of e) c) (calls-append c h t) where
  by : (conn_of e ≡ c) ⊎ (conn_of e ≢ c) → calls_of c (h ++ t) ≡ calls_of c h ++ calls_of c t → calls_of c (e ∷ (h ++ t)) ≡ calls_of c (e ∷ h) ++ calls_of c t
  by (inl is) more = own c e (h ++ t) is ∙ (ap (onto_calls e) more ∙ (sym (onto-append e (calls_of c h) (calls_of c t)) ∙ ap (λ l. l ++ calls_of c t) (sym (own c e h is))))
  by (inr is) more = foreign c e (h ++ t) is ∙ (more ∙ ap (λ l. l ++ calls_of c t) (sym (foreign c e h is)))

-- one entry of the client, or of another
pub own_more : (c : ℕ) (es : List (Entry Note)) (e : Entry Note) → conn_of e ≡ c → calls_of c (es ++ e ∷ []) ≡ calls_of c es ++ onto_calls e []
own_more c es e is = calls-append c es (e ∷ []) ∙ ap (λ l. calls_of c es ++ l) (own c e [] is)

pub foreign_more : (c : ℕ) (es : List (Entry Note)) (e : Entry Note) → conn_of e ≢ c → calls_of c (es ++ e ∷ []) ≡ calls_of c es
foreign_more c es e is = calls-append c es (e ∷ []) ∙ (ap (λ l. calls_of c es ++ l) (foreign c e [] is) ∙ append_nil (calls_of c es)) where
  append_nil : (l : List Call) → l ++ [] ≡ l
  append_nil l = grind (arith, common_steps)

-- ---- moments

pub rises_later : (m n k : ℕ) (es : List (Entry Note)) → RisesTo m es n → n ≤ k → RisesTo m es k
rises_later m n k [] h le = omega arith
rises_later m n k (Called c at words reply ∷ es) h le = (h.0, rises_later at n k es h.1 le)
rises_later m n k (Heard c note ∷ es) h le = rises_later m n k es h le
rises_later m n k (Stop c ∷ es) h le = rises_later m n k es h le

pub rises_call : (m n : ℕ) (es : List (Entry Note)) (c : ℕ) (words : Words) (reply : Reply) → RisesTo m es n → RisesTo m (es ++ Called c n words reply ∷ []) n
rises_call m n [] d w r h = (h, omega arith)
rises_call m n (Called c at words reply ∷ es) d w r h = (h.0, rises_call at n es d w r h.1)
rises_call m n (Heard c note ∷ es) d w r h = rises_call m n es d w r h
rises_call m n (Stop c ∷ es) d w r h = rises_call m n es d w r h

pub rises_stop : (m n : ℕ) (es : List (Entry Note)) (c : ℕ) → RisesTo m es n → RisesTo m (es ++ Stop c ∷ []) n
rises_stop m n [] d h = h
rises_stop m n (Called c at words reply ∷ es) d h = (h.0, rises_stop at n es d h.1)
rises_stop m n (Heard c note ∷ es) d h = rises_stop m n es d h
rises_stop m n (Stop c ∷ es) d h = rises_stop m n es d h

rises_le : (m n : ℕ) (es : List (Entry Note)) → RisesTo m es n → m ≤ n
rises_le m n [] h = h
rises_le m n (Called c at words reply ∷ es) h = let more = rises_le at n es h.1 in omega (arith, more, h.0)
rises_le m n (Heard c note ∷ es) h = rises_le m n es h
rises_le m n (Stop c ∷ es) h = rises_le m n es h

onto_timely : (e : Entry Note) (es : List (Entry Note)) (m n : ℕ) → RisesTo m (e ∷ es) n → n < 2 ^ 40 → (l : List Call) → AreTimely l → AreTimely (onto_calls e l)
onto_timely (Called c at words reply) es m n h less l t = let le = rises_le at n es h.1 in (omega (arith, le, less), t)
onto_timely (Heard c note) es m n h less l t = t
onto_timely (Stop c) es m n h less l t = t

later_rises : (e : Entry Note) (es : List (Entry Note)) (m n : ℕ) → RisesTo m (e ∷ es) n → (k : ℕ) × RisesTo k es n
later_rises (Called c at words reply) es m n h = (at, h.1)
later_rises (Heard c note) es m n h = (m, h)
later_rises (Stop c) es m n h = (m, h)

-- a client's calls lie before the moment 2^40
pub calls_timely : (c m n : ℕ) (es : List (Entry Note)) → RisesTo m es n → n < 2 ^ 40 → AreTimely (calls_of c es)
calls_timely c m n [] h less = tt
calls_timely c m n (e ∷ es) h less = by (same_or (conn_of e) c) (let r = later_rises e es m n h in calls_timely c r.0 n es r.1 less) where
  by : (conn_of e ≡ c) ⊎ (conn_of e ≢ c) → AreTimely (calls_of c es) → AreTimely (calls_of c (e ∷ es))
  by (inl is) t = subst AreTimely (sym (own c e es is)) (onto_timely e es m n h less (calls_of c es) t)
  by (inr is) t = subst AreTimely (sym (foreign c e es is)) t

-- ---- a client that comes later might as well have been there from the start

module _ (c : ℕ) (cl : Client) where
  abbrev pub add : SystemState → SystemState
  add w = with_client w.store w c cl

  next_add : (w : SystemState) (e : Entry Note) → MayCome w e → get w.clients c ≡ None → next (add w) e ≡ add (next w e)
  next_add w (Called k at words reply) may none =
      let n : k ≢ c = another w.clients k c may.0 may.1 none in
      let e = may.0 in
      let e' : Client = record e { calls = e.calls ++ call at words reply.answer ∷ [] } in
      let st = (apply_of w.store at k words).0 in
      next_called (add w) k at words reply e (get_other w.clients c cl k n ∙ may.1)
      ∙ (ap (λ m. record { store = st; clients = m }) (insert_swap w.clients c cl k e' n) ∙ ap add (sym (next_called w k at words reply e may.1)))
  next_add w (Heard k note) may none =
      let n : k ≢ c = another w.clients k c may.0 may.1 none in
      next_heard (add w) k note may.0 (get_other w.clients c cl k n ∙ may.1) ∙ ap add (sym (next_heard w k note may.0 may.1))
  next_add w (Stop k) may none =
      let n : k ≢ c = another w.clients k c may.0 may.1 none in
      let e = may.0 in
      let e' : Client = record e { stopped = true } in
      next_stopped (add w) k e (get_other w.clients c cl k n ∙ may.1)
      ∙ (ap (λ m. record { store = gone_of w.store k; clients = m }) (insert_swap w.clients c cl k e' n) ∙ ap add (sym (next_stopped w k e may.1)))

  next_none : (w : SystemState) (e : Entry Note) → MayCome w e → get w.clients c ≡ None → get (next w e).clients c ≡ None
  next_none w (Called k at words reply) may none =
      let n : k ≢ c = another w.clients k c may.0 may.1 none in
      ap (λ v. get v.clients c) (next_called w k at words reply may.0 may.1) ∙ (get_other w.clients k _ c (λ q. n (sym q)) ∙ none)
  next_none w (Heard k note) may none = ap (λ v. get v.clients c) (next_heard w k note may.0 may.1) ∙ none
  next_none w (Stop k) may none =
      let n : k ≢ c = another w.clients k c may.0 may.1 none in
      ap (λ v. get v.clients c) (next_stopped w k may.0 may.1) ∙ (get_other w.clients k _ c (λ q. n (sym q)) ∙ none)

  right_add : (w : SystemState) (e : Entry Note) → AnswersRight w e → AnswersRight (add w) e
  right_add w (Called k at words reply) r = r
  right_add w (Heard k note) r = r
  right_add w (Stop k) r = r

  may_add : (w : SystemState) (e : Entry Note) → MayCome w e → get w.clients c ≡ None → MayCome (add w) e
  may_add w e may none = (may.0, get_other w.clients c cl (conn_of e) (another w.clients (conn_of e) c may.0 may.1 none) ∙ may.1, may.2, right_add w e may.3)

  pub after_add : (w : SystemState) (es : List (Entry Note)) → AllMayCome w es → get w.clients c ≡ None → after_entries (add w) es ≡ add (after_entries w es)
  after_add w [] l none = refl
  after_add w (e ∷ es) l none = ap (λ v. after_entries v es) (next_add w e l.0 none) ∙ after_add (next w e) es l.1 (next_none w e l.0 none)

  pub legal_add : (w : SystemState) (es : List (Entry Note)) → AllMayCome w es → get w.clients c ≡ None → AllMayCome (add w) es
  legal_add w [] l none = tt
  legal_add w (e ∷ es) l none = (may_add w e l.0 none, subst (λ v. AllMayCome v es) (sym (next_add w e l.0 none)) (legal_add (next w e) es l.1 (next_none w e l.0 none)))

  -- who isn't known has called nothing
  pub no_calls : (w : SystemState) (es : List (Entry Note)) → AllMayCome w es → get w.clients c ≡ None → calls_of c es ≡ []
  no_calls w [] l none = refl
  no_calls w (e ∷ es) l none = foreign c e es (another w.clients (conn_of e) c l.0.0 l.0.1 none) ∙ no_calls (next w e) es l.1 (next_none w e l.0 none)

-- ---- tables

differs : (a b : ℕ) → nat_eq a b ≡ false → a ≢ b
differs a b f e = grind (arith, common_steps, f, e)

-- who isn't in the table isn't there at the start
pub table_none : (c : ℕ) (cs : List (ℕ × ℕ)) → has_number c cs ≡ false → get (table cs) c ≡ None
table_none c [] h = get-empty nat_cmp c
table_none c (e ∷ cs) h =
    let parts = neither (nat_eq e.0 c) (has_number c cs) h in
    get_other (table cs) e.0 (new_client e.1) c (λ q. differs e.0 c parts.0 (sym q)) ∙ table_none c cs parts.1

-- the table with one more at its end
pub table_more : (c s : ℕ) (cs : List (ℕ × ℕ)) → has_number c cs ≡ false → table (cs ++ (c, s) ∷ []) ≡ insert (table cs) c (new_client s)
table_more c s [] h = refl
table_more c s (e ∷ cs) h =
    let parts = neither (nat_eq e.0 c) (has_number c cs) h in
    ap (λ m. insert m e.0 (new_client e.1)) (table_more c s cs parts.1) ∙ insert_swap (table cs) c (new_client s) e.0 (new_client e.1) (differs e.0 c parts.0)

away_conns : (k c s : ℕ) (cs : List (ℕ × ℕ)) → IsAway k (connections cs) → k ≢ c → IsAway k (connections (cs ++ (c, s) ∷ []))
away_conns k c s [] h n = (n, tt)
away_conns k c s (e ∷ cs) h n = (h.0, away_conns k c s cs h.1 n)

away_seeds : (k c s : ℕ) (cs : List (ℕ × ℕ)) → IsAway k (seeds cs) → k ≢ s → IsAway k (seeds (cs ++ (c, s) ∷ []))
away_seeds k c s [] h n = (n, tt)
away_seeds k c s (e ∷ cs) h n = (h.0, away_seeds k c s cs h.1 n)

conns_differ : (c s : ℕ) (cs : List (ℕ × ℕ)) → Differ (connections cs) → has_number c cs ≡ false → Differ (connections (cs ++ (c, s) ∷ []))
conns_differ c s [] h f = (tt, tt)
conns_differ c s (e ∷ cs) h f =
    let parts = neither (nat_eq e.0 c) (has_number c cs) f in
    (away_conns e.0 c s cs h.0 (differs e.0 c parts.0), conns_differ c s cs h.1 parts.1)

seeds_differ : (c s : ℕ) (cs : List (ℕ × ℕ)) → Differ (seeds cs) → has_seed s cs ≡ false → Differ (seeds (cs ++ (c, s) ∷ []))
seeds_differ c s [] h f = (tt, tt)
seeds_differ c s (e ∷ cs) h f =
    let parts = neither (nat_eq e.1 s) (has_seed s cs) f in
    (away_seeds e.1 c s cs h.0 (differs e.1 s parts.0), seeds_differ c s cs h.1 parts.1)

pub unused : (ss : List ℕ) → AreUnused [] ss
unused [] = tt
unused (s ∷ ss) = (tt, unused ss)

pub table_with : (c s : ℕ) (cs : List (ℕ × ℕ)) → IsTable cs [] → has_number c cs ≡ false → has_seed s cs ≡ false → IsTable (cs ++ (c, s) ∷ []) []
table_with c s cs t f g = record {
  connections_differ = conns_differ c s cs t.connections_differ f;
  seeds_differ = seeds_differ c s cs t.seeds_differ g;
  unused = unused (seeds (cs ++ (c, s) ∷ []));
}

-- who is in it is one who was, or the one more
pub among_more : (c s k t : ℕ) (cs : List (ℕ × ℕ)) → has_number c cs ≡ false → Among (k, t) (cs ++ (c, s) ∷ []) → (Among (k, t) cs × (k ≢ c)) ⊎ ((k ≡ c) × (t ≡ s))
among_more c s k t [] f (inl e) = inr (ap (λ p. p.0) e, ap (λ p. p.1) e)
among_more c s k t [] f (inr h) = absurd h
among_more c s k t (e ∷ cs) f (inl is) = inl (inl is, λ q. differs e.0 c (neither (nat_eq e.0 c) (has_number c cs) f).0 (sym (ap (λ p. p.0) is) ∙ q))
among_more c s k t (e ∷ cs) f (inr h) = by (among_more c s k t cs (neither (nat_eq e.0 c) (has_number c cs) f).1 h) where
  by : (Among (k, t) cs × (k ≢ c)) ⊎ ((k ≡ c) × (t ≡ s)) → (Among (k, t) (e ∷ cs) × (k ≢ c)) ⊎ ((k ≡ c) × (t ≡ s))
  by (inl g) = inl (inr g.0, g.1)
  by (inr g) = inr g
