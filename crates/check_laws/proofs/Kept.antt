-- What rows keep of the history that they lead to: it is legal, and its clients are mannered.
use Rattle.std.proofs.Common.{◌≡◌, ◌≢◌, ◌⊎◌, inl, inr, ℕ, ◌<◌, ◌^◌, refl, ap, sym, ◌∙◌, subst, arith, List, [], ◌∷◌, ◌++◌, Bool, true, false, not, None, Some, if◌then◌else◌}
use Rattle.std.specs.Prelude.{◌==◌, ◌||◌, nat_eq, nat_lt, nat_le}
use Rattle.std.proofs.lemmas.Bool.Decides.{nat_tests}
use Rattle.std.proofs.lemmas.Grind.{common_steps}
use Rattle.std.proofs.lemmas.List.{append-nil}
use Rattle.std.specs.FinMap.{get, empty}
use Rattle.store_model.specs.Store.{apply_of, gone_of}
use Rattle.store_model.specs.Limits.{moment_limit}
use Rattle.line_text.specs.declared.reason.Reason.TheVariants.{Syntax, Repeated, UnknownClient, Stopped, Moment}
use Rattle.queue_keys.specs.QueueKeys.{IsAway, Differ, Among}
use Rattle.command_blocks.specs.Calls.{Call, call}
use Rattle.place_model.specs.Histories.{History, calls_of, onto_calls, conn_of, Client, SystemState, after_entries, new_client, next, start_from, table, AllMayCome, AnswersRight, IsTable, connections, with_client}
use Rattle.place_model.specs.Shown.{has_stopped, seed_of}
use Rattle.place_model.specs.declared.heard.Heard.{Heard as Note}
use Rattle.place_model.specs.declared.history.Entry.{Entry}
use Rattle.place_model.specs.declared.history.Entry.TheVariants.{Call as Called, Heard, Stop}
use Rattle.manner_laws.specs.Cursor.{Cursor, HaveMomentsOf64Bits, cursor_of}
use Rattle.schedule_model.specs.Faults.{Test, first_reason, has_number, has_seed}
use Rattle.record_model.specs.Steps.{Manner, client_tests, event_tests, has_entry, is_below, is_late, is_out_of_manner, is_out_with, is_unmannered}
use Rattle.schedule_laws.proofs.Numbered.{same_or, get_same, get_other}
use Rattle.schedule_laws.proofs.Worlds.{after-append, legal-append, next_called, next_heard, next_stopped, own_more, foreign_more, table_with}

-- a history from an empty store
abbrev pub hist : List (ℕ × ℕ) → List (Entry Note) → History Note
hist cs es = record { start = empty; used = []; clients = cs; entries = es }

abbrev pub begins : List (ℕ × ℕ) → SystemState
begins cs = start_from empty cs

abbrev pub world : List (ℕ × ℕ) → List (Entry Note) → SystemState
world cs es = after_entries (begins cs) es

-- each connection's number is above those before it
abbrev pub AreAbove : ℕ → List (ℕ × ℕ) → Type 0
AreAbove c [] = Unit {0}
AreAbove c (d ∷ ds) = (c < d.0) × AreAbove c ds

abbrev pub DoRise : List (ℕ × ℕ) → Type 0
DoRise [] = Unit {0}
DoRise (c ∷ cs) = AreAbove c.0 cs × DoRise cs

-- what the world knows of a client
pub record IsKnown (cs : List (ℕ × ℕ)) (es : List (Entry Note)) (c : ℕ) : Type 0 where
  pub client : Client
  pub known : get (world cs es).clients c ≡ Some client
  pub stopped : client.stopped ≡ has_stopped c es

-- what each row keeps
pub record Holds (μ : Manner) (cs : List (ℕ × ℕ)) (es : List (Entry Note)) : Type 0 where
  pub table : IsTable cs []
  pub rising : DoRise cs
  pub legal : AllMayCome (begins cs) es
  pub known : (c s : ℕ) → Among (c, s) cs → IsKnown cs es c
  pub mannered : (c s : ℕ) → Among (c, s) cs → is_out_of_manner (cursor_of μ.setting μ.exchange_at s (calls_of c es)) ≡ false
  pub timely : (c : ℕ) → HaveMomentsOf64Bits (calls_of c es)

pub first_holds : (μ : Manner) → Holds μ [] []
first_holds μ = record {
  table = record { connections_differ = tt; seeds_differ = tt; unused = tt };
  rising = tt;
  legal = tt;
  known = λ c s among. absurd among;
  mannered = λ c s among. absurd among;
  timely = λ c. tt;
}

-- ---- tests

-- the first of the tests doesn't hold, and neither do the others
pub passes : (t : Test) (ts : List Test) → first_reason (t ∷ ts) ≡ None → (t.0 ≡ false) × (first_reason ts ≡ None)
passes t ts e = by t.0 refl e where
  by : (b : Bool) → t.0 ≡ b → (if b then Some t.1 else first_reason ts) ≡ None → (t.0 ≡ false) × (first_reason ts ≡ None)
  by true f g = absurd (cc)
  by false f g = (f, g)

not_false : (b : Bool) → not b ≡ false → b ≡ true
not_false true e = refl
not_false false e = cc

or_false : (a b : Bool) → (a || b) ≡ false → (a ≡ false) × (b ≡ false)
or_false true b e = absurd (cc)
or_false false b e = (refl, e)

-- ---- tables

eq_is : (a b : ℕ) → nat_eq a b ≡ true → a ≡ b
eq_is a b e = grind (arith, nat_tests)

-- who has a number in the table is among its clients
pub numbered_among : (c : ℕ) (cs : List (ℕ × ℕ)) → has_number c cs ≡ true → (s : ℕ) × Among (c, s) cs
numbered_among c [] e = absurd (cc)
numbered_among c (d ∷ ds) e = by (nat_eq d.0 c) refl e (numbered_among c ds) where
  by : (b : Bool) → nat_eq d.0 c ≡ b → (b || has_number c ds) ≡ true → (has_number c ds ≡ true → (s : ℕ) × Among (c, s) ds) → (s : ℕ) × Among (c, s) (d ∷ ds)
  by true f g later = (d.1, inl (ap (λ k. (k, d.1)) (sym (eq_is d.0 c f))))
  by false f g later = let x = later g in (x.0, inr x.1)

among_connection : (c s : ℕ) (cs : List (ℕ × ℕ)) → Among (c, s) cs → Among c (connections cs)
among_connection c s [] h = absurd h
among_connection c s (d ∷ ds) (inl e) = inl (ap (λ p. p.0) e)
among_connection c s (d ∷ ds) (inr h) = inr (among_connection c s ds h)

away_among : (c : ℕ) (ks : List ℕ) (k : ℕ) → IsAway k ks → Among c ks → c ≢ k
away_among c [] k a h = absurd h
away_among c (q ∷ qs) k a (inl e) = λ f. a.0 (sym f ∙ e)
away_among c (q ∷ qs) k a (inr h) = away_among c qs k a.1 h

-- the seed of a client of a table
pub seed_found : (c s : ℕ) (cs : List (ℕ × ℕ)) → Differ (connections cs) → Among (c, s) cs → seed_of c cs ≡ Some s
seed_found c s [] differ h = absurd h
seed_found c s (d ∷ ds) differ (inl e) =
    let is : (d.0 == c) ≡ true = let f : c ≡ d.0 = ap (λ p. p.0) e in grind (arith, common_steps, f) in
    ap (λ b. if b then Some d.1 else seed_of c ds) is ∙ ap (λ p. Some p.1) (sym e)
seed_found c s (d ∷ ds) differ (inr h) =
    let other = away_among c (connections ds) d.0 differ.0 (among_connection c s ds h) in
    let is : (d.0 == c) ≡ false = grind (arith, common_steps, other) in
    ap (λ b. if b then Some d.1 else seed_of c ds) is ∙ seed_found c s ds differ.1 h

-- a client of a table is there at the start
pub there : (c s : ℕ) (cs : List (ℕ × ℕ)) → Differ (connections cs) → Among (c, s) cs → get (table cs) c ≡ Some (new_client s)
there c s [] differ h = absurd h
there c s (d ∷ ds) differ (inl e) = ap (get (table (d ∷ ds))) (ap (λ p. p.0) e) ∙ get_same (table ds) d.0 (new_client d.1) ∙ ap (λ p. Some (new_client p.1)) (sym e)
there c s (d ∷ ds) differ (inr h) =
    let other = away_among c (connections ds) d.0 differ.0 (among_connection c s ds h) in
    get_other (table ds) d.0 (new_client d.1) c other ∙ there c s ds differ.1 h

above_more : (c k s : ℕ) (cs : List (ℕ × ℕ)) → AreAbove c cs → c < k → AreAbove c (cs ++ (k, s) ∷ [])
above_more c k s [] h lt = (lt, tt)
above_more c k s (d ∷ ds) h lt = (h.0, above_more c k s ds h.1 lt)

rise_more : (c s : ℕ) (cs : List (ℕ × ℕ)) → DoRise cs → is_below c cs ≡ false → has_number c cs ≡ false → DoRise (cs ++ (c, s) ∷ [])
rise_more c s [] h below number = (tt, tt)
rise_more c s (d ∷ ds) h below number =
    let b = or_false (nat_lt c d.0) (is_below c ds) below in
    let n = or_false (nat_eq d.0 c) (has_number c ds) number in
    let p = b.0 in let q = n.0 in
    let lt : d.0 < c = grind (arith, nat_tests, p, q) in
    (above_more d.0 c s ds h.0 lt, rise_more c s ds h.1 b.1 n.1)

-- ---- a client more

nothing_yet : (es : List (Entry Note)) → has_entry es ≡ false → es ≡ []
nothing_yet [] e = refl
nothing_yet (x ∷ es) e = absurd (cc)

pub client_holds : (μ : Manner) (cs : List (ℕ × ℕ)) (es : List (Entry Note)) (c s : ℕ) → Holds μ cs es → first_reason (client_tests (hist cs es) c s) ≡ None → (es ≡ []) × Holds μ (cs ++ (c, s) ∷ []) []
client_holds μ cs es c s h e =
    let one = passes (has_entry es || is_below c cs, Syntax) ((has_number c cs || has_seed s cs, Repeated) ∷ []) e in
    let two = passes (has_number c cs || has_seed s cs, Repeated) [] one.1 in
    let first = or_false (has_entry es) (is_below c cs) one.0 in
    let second = or_false (has_number c cs) (has_seed s cs) two.0 in
    let t = table_with c s cs h.table second.0 second.1 in (
      nothing_yet es first.0,
      record {
        table = t;
        rising = rise_more c s cs h.rising first.1 second.0;
        legal = tt;
        known = λ k q among. record { client = new_client q; known = there k q (cs ++ (c, s) ∷ []) t.connections_differ among; stopped = refl };
        mannered = λ k q among. refl;
        timely = λ k. tt;
      },
    )

-- ---- an entry more

stopped_call : (k c at : ℕ) (words : List (List ℕ)) (reply : _) (es : List (Entry Note)) → has_stopped k (es ++ Called c at words reply ∷ []) ≡ has_stopped k es
stopped_call k c at words reply [] = refl
stopped_call k c at words reply (Called d a w r ∷ es) = stopped_call k c at words reply es
stopped_call k c at words reply (Heard d note ∷ es) = stopped_call k c at words reply es
stopped_call k c at words reply (Stop d ∷ es) = ap (λ b. (d == k) || b) (stopped_call k c at words reply es)

stopped_note : (k c : ℕ) (note : Note) (es : List (Entry Note)) → has_stopped k (es ++ Heard c note ∷ []) ≡ has_stopped k es
stopped_note k c note [] = refl
stopped_note k c note (Called d a w r ∷ es) = stopped_note k c note es
stopped_note k c note (Heard d n ∷ es) = stopped_note k c note es
stopped_note k c note (Stop d ∷ es) = ap (λ b. (d == k) || b) (stopped_note k c note es)

or_true : (b : Bool) → (b || true) ≡ true
or_true true = refl
or_true false = refl

or_none : (b : Bool) → (b || false) ≡ b
or_none true = refl
or_none false = refl

stopped_same : (k : ℕ) (es : List (Entry Note)) → has_stopped k (es ++ Stop k ∷ []) ≡ true
stopped_same k [] = let is : (k == k) ≡ true = grind (arith, common_steps) in ap (λ b. b || false) is
stopped_same k (Called d a w r ∷ es) = stopped_same k es
stopped_same k (Heard d n ∷ es) = stopped_same k es
stopped_same k (Stop d ∷ es) = ap (λ b. (d == k) || b) (stopped_same k es) ∙ or_true (d == k)

stopped_other : (k c : ℕ) (es : List (Entry Note)) → k ≢ c → has_stopped k (es ++ Stop c ∷ []) ≡ has_stopped k es
stopped_other k c [] n = let is : (c == k) ≡ false = grind (arith, common_steps, n) in ap (λ b. b || false) is
stopped_other k c (Called d a w r ∷ es) n = stopped_other k c es n
stopped_other k c (Heard d m ∷ es) n = stopped_other k c es n
stopped_other k c (Stop d ∷ es) n = ap (λ b. (d == k) || b) (stopped_other k c es n)

-- who the entry is of
pub record Comer (cs : List (ℕ × ℕ)) (es : List (Entry Note)) (e : Entry Note) : Type 0 where
  pub seed : ℕ
  pub among : Among (conn_of e, seed) cs
  pub who : IsKnown cs es (conn_of e)
  pub on : who.client.stopped ≡ false

-- an entry's tests, one by one
pub event_passes : (cs : List (ℕ × ℕ)) (es : List (Entry Note)) (e : Entry Note) → first_reason (event_tests (hist cs es) e) ≡ None → (has_number (conn_of e) cs ≡ true) × (has_stopped (conn_of e) es ≡ false) × (is_late e ≡ false)
event_passes cs es e t =
    let one = passes (not (has_number (conn_of e) cs), UnknownClient) ((has_stopped (conn_of e) es, Stopped) ∷ (is_late e, Moment) ∷ []) t in
    let two = passes (has_stopped (conn_of e) es, Stopped) ((is_late e, Moment) ∷ []) one.1 in
    let three = passes (is_late e, Moment) [] two.1 in
    (not_false (has_number (conn_of e) cs) one.0, two.0, three.0)

comer : (μ : Manner) (cs : List (ℕ × ℕ)) (es : List (Entry Note)) (e : Entry Note) → Holds μ cs es → first_reason (event_tests (hist cs es) e) ≡ None → Comer cs es e
comer μ cs es e h t =
    let p = event_passes cs es e t in
    let found = numbered_among (conn_of e) cs p.0 in
    let who = h.known (conn_of e) found.0 found.1 in
    record { seed = found.0; among = found.1; who = who; on = who.stopped ∙ p.1 }

-- the world after one entry more
world_more : (cs : List (ℕ × ℕ)) (es : List (Entry Note)) (e : Entry Note) → world cs (es ++ e ∷ []) ≡ next (world cs es) e
world_more cs es e = after-append (begins cs) es (e ∷ [])

known_more : (cs : List (ℕ × ℕ)) (es : List (Entry Note)) (e : Entry Note) → Comer cs es e → (k : ℕ) → IsKnown cs es k → IsKnown cs (es ++ e ∷ []) k
known_more cs es (Called c at words reply) m k o = by (same_or k c) where
  cl' : Client
  cl' = record m.who.client { calls = m.who.client.calls ++ call at words reply.answer ∷ [] }

  is : world cs (es ++ Called c at words reply ∷ []) ≡ with_client (apply_of (world cs es).store at c words).0 (world cs es) c cl'
  is = world_more cs es (Called c at words reply) ∙ next_called (world cs es) c at words reply m.who.client m.who.known

  by : (k ≡ c) ⊎ (k ≢ c) → IsKnown cs (es ++ Called c at words reply ∷ []) k
  by (inl e) = subst (IsKnown cs (es ++ Called c at words reply ∷ [])) (sym e) (record {
    client = cl';
    known = ap (λ v. get v.clients c) is ∙ get_same (world cs es).clients c cl';
    stopped = m.who.stopped ∙ sym (stopped_call c c at words reply es);
  })
  by (inr n) = record {
    client = o.client;
    known = ap (λ v. get v.clients k) is ∙ get_other (world cs es).clients c cl' k n ∙ o.known;
    stopped = o.stopped ∙ sym (stopped_call k c at words reply es);
  }
known_more cs es (Heard c note) m k o = record {
  client = o.client;
  known = ap (λ v. get v.clients k) (world_more cs es (Heard c note) ∙ next_heard (world cs es) c note m.who.client m.who.known) ∙ o.known;
  stopped = o.stopped ∙ sym (stopped_note k c note es);
}
known_more cs es (Stop c) m k o = by (same_or k c) where
  cl' : Client
  cl' = record m.who.client { stopped = true }

  is : world cs (es ++ Stop c ∷ []) ≡ with_client (gone_of (world cs es).store c) (world cs es) c cl'
  is = world_more cs es (Stop c) ∙ next_stopped (world cs es) c m.who.client m.who.known

  by : (k ≡ c) ⊎ (k ≢ c) → IsKnown cs (es ++ Stop c ∷ []) k
  by (inl e) = subst (IsKnown cs (es ++ Stop c ∷ [])) (sym e) (record {
    client = cl';
    known = ap (λ v. get v.clients c) is ∙ get_same (world cs es).clients c cl';
    stopped = sym (stopped_same c es);
  })
  by (inr n) = record {
    client = o.client;
    known = ap (λ v. get v.clients k) is ∙ get_other (world cs es).clients c cl' k n ∙ o.known;
    stopped = o.stopped ∙ sym (stopped_other k c es n);
  }

module _ (μ : Manner) (cs : List (ℕ × ℕ)) (es : List (Entry Note)) (h : Holds μ cs es) where
  abbrev cursor : ℕ → List Call → Cursor
  cursor s l = cursor_of μ.setting μ.exchange_at s l

  quiet : (e : Entry Note) (k s : ℕ) → Among (k, s) cs → calls_of k (es ++ e ∷ []) ≡ calls_of k es → is_out_of_manner (cursor s (calls_of k (es ++ e ∷ []))) ≡ false
  quiet e k s among is = ap (λ l. is_out_of_manner (cursor s l)) is ∙ h.mannered k s among

  mannered_more : (e : Entry Note) → is_unmannered μ (hist cs es) e ≡ false → (k s : ℕ) → Among (k, s) cs → is_out_of_manner (cursor s (calls_of k (es ++ e ∷ []))) ≡ false
  mannered_more (Called c at words reply) m k s among = by (same_or c k) where
    by : (c ≡ k) ⊎ (c ≢ k) → is_out_of_manner (cursor s (calls_of k (es ++ Called c at words reply ∷ []))) ≡ false
    by (inl e) =
        let found = seed_found k s cs h.table.connections_differ among in
        let moved : seed_of c cs ≡ Some s = ap (λ x. seed_of x cs) e ∙ found in
        subst (λ x. is_out_of_manner (cursor s (calls_of x (es ++ Called c at words reply ∷ []))) ≡ false) e
        (subst (λ o. is_out_with μ o (hist cs es) (Called c at words reply) ≡ false) moved m)
    by (inr n) = quiet (Called c at words reply) k s among (foreign_more k es (Called c at words reply) n)
  mannered_more (Heard c note) m k s among = quiet (Heard c note) k s among (by (same_or c k)) where
    by : (c ≡ k) ⊎ (c ≢ k) → calls_of k (es ++ Heard c note ∷ []) ≡ calls_of k es
    by (inl e) = own_more k es (Heard c note) e ∙ append-nil (calls_of k es)
    by (inr n) = foreign_more k es (Heard c note) n
  mannered_more (Stop c) m k s among = quiet (Stop c) k s among (by (same_or c k)) where
    by : (c ≡ k) ⊎ (c ≢ k) → calls_of k (es ++ Stop c ∷ []) ≡ calls_of k es
    by (inl e) = own_more k es (Stop c) e ∙ append-nil (calls_of k es)
    by (inr n) = foreign_more k es (Stop c) n

moments_more : (l : List Call) (x : Call) → HaveMomentsOf64Bits l → x.at < 2 ^ 64 → HaveMomentsOf64Bits (l ++ x ∷ [])
moments_more [] x h lt = (lt, tt)
moments_more (y ∷ l) x h lt = (h.0, moments_more l x h.1 lt)

late_bound : (at : ℕ) → nat_le moment_limit at ≡ false → at < 2 ^ 64
late_bound at e = let lt : at < moment_limit = grind (arith, nat_tests) in omega (arith, lt)

timely_more : (es : List (Entry Note)) (e : Entry Note) → is_late e ≡ false → (k : ℕ) → HaveMomentsOf64Bits (calls_of k es) → HaveMomentsOf64Bits (calls_of k (es ++ e ∷ []))
timely_more es e early k t = by (same_or (conn_of e) k) where
  onto : (e : Entry Note) → is_late e ≡ false → HaveMomentsOf64Bits (calls_of k es ++ onto_calls e [])
  onto (Called c at words reply) early = moments_more (calls_of k es) (call at words reply.answer) t (late_bound at early)
  onto (Heard c note) early = subst HaveMomentsOf64Bits (sym (append-nil (calls_of k es))) t
  onto (Stop c) early = subst HaveMomentsOf64Bits (sym (append-nil (calls_of k es))) t

  by : (conn_of e ≡ k) ⊎ (conn_of e ≢ k) → HaveMomentsOf64Bits (calls_of k (es ++ e ∷ []))
  by (inl is) = subst HaveMomentsOf64Bits (sym (own_more k es e is)) (onto e early)
  by (inr n) = subst HaveMomentsOf64Bits (sym (foreign_more k es e n)) t

pub event_holds : (μ : Manner) (cs : List (ℕ × ℕ)) (es : List (Entry Note)) (e : Entry Note) → Holds μ cs es → first_reason (event_tests (hist cs es) e) ≡ None → AnswersRight (world cs es) e → is_unmannered μ (hist cs es) e ≡ false → Holds μ cs (es ++ e ∷ [])
event_holds μ cs es e h t right m =
    let who = comer μ cs es e h t in
    let p = event_passes cs es e t in
    record {
      table = h.table;
      rising = h.rising;
      legal = legal-append (begins cs) es (e ∷ []) h.legal ((who.who.client, who.who.known, who.on, right), tt);
      known = λ k s among. known_more cs es e who k (h.known k s among);
      mannered = λ k s among. mannered_more μ cs es h e m k s among;
      timely = λ k. timely_more es e p.2 k (h.timely k);
    }
