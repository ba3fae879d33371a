-- Connections that were served make a legal history.
use Rattle.std.proofs.Common.{List, [], ap, arith, inl, inr, length, map, refl, subst, suc, sym, zero, ℕ, false, true, ◌+◌, ◌++◌, ◌<◌, ◌∙◌, ◌∷◌, ◌≡◌, ◌≢◌, ◌≤◌, ◌⊎◌}
use Rattle.std.specs.Prelude.{Bool, Option, Some}
use Rattle.std.specs.Ordering.{nat_cmp}
use Rattle.std.proofs.lemmas.Cmp.{nat_cmp_total}
use Rattle.std.specs.FinMap.{get, nat_cmp-IsAntisymmetric}
use Rattle.wire_values.specs.declared.value.Value.{Value}
use Rattle.queue_keys.specs.QueueKeys.{Differ, IsAway}
use Rattle.store_model.specs.Keys.{Keys}
use Rattle.store_model.specs.Store.{State, StoreView, apply_of, gone_of}
use Rattle.store_model.specs.Words.{Words}
use Rattle.store_model.specs.declared.reply.Reply.{Reply}
use Rattle.store_laws.proofs.Maps.{conn_or, get-insert_other, get-insert_same}
use Rattle.store_laws.specs.StoreLimits.{HasLimits}
use Rattle.command_blocks.specs.Calls.{call}
use Rattle.place_model.specs.Histories.{AllMayCome, AreUnused, Client, IsTable, SystemState, after_entries, connections, new_client, next, next_of, seeds, start_from, table, with_client}
use Rattle.place_model.specs.declared.heard.Heard.{Heard}
use Rattle.place_model.specs.declared.history.Entry.{Entry}
use Rattle.place_model.specs.declared.history.Entry.TheVariants as entry
use Rattle.desks.specs.Deeds.{Deed, DidAsk, DidNote, DidStop, entries_by}
use Rattle.plain_desk.specs.StoreRuns.{AsksNothing, LeadsLive, RunsTo, live_state}
use Rattle.net_links.specs.LinkViews.{LinkView}
use Rattle.sessions.specs.Calls.{AreCalls}
use Rattle.sessions.specs.declared.conversing.SessionEnd.{SessionEnd}
use Rattle.store_server.specs.Servings.{HasServedAll}
use Rattle.serving_laws.specs.ServedHistories.{AllFit, Attended, ClosesAll, HasAttendedAll, IsServedHistory, served_clients, served_entries, store_with}
use Rattle.serving_laws.proofs.Attendance.{all_as, attended, closes_more, closes_none, has_attended, heard}
use Rattle.serving_laws.proofs.Replies.{begins_limited, calls_within, fit_both, fit_one}

-- a client of this connection is known, and not stopped
abbrev pub IsPresent : SystemState → ℕ → Type 0
IsPresent w c = (cl : Client) × (get w.clients c ≡ Some cl) × (cl.stopped ≡ false)

-- ---- one entry

module _ (w : SystemState) (c : ℕ) (there : IsPresent w c) where
  -- with another client in its place
  module _ (e : Entry Heard) (s : State) (cl : Client) (is : next w e ≡ with_client s w c cl) where
    store_next : (next w e).store ≡ s
    store_next = ap (λ v. v.store) is

    same_next : cl.stopped ≡ false → IsPresent (next w e) c
    same_next runs = (cl, ap (λ v. get v.clients c) is ∙ get-insert_same nat_cmp nat_cmp_total nat_cmp-IsAntisymmetric w.clients c cl, runs)

    other_next : (k : ℕ) → k ≢ c → IsPresent w k → IsPresent (next w e) k
    other_next k n h = (h.0, ap (λ v. get v.clients k) is ∙ get-insert_other nat_cmp nat_cmp_total nat_cmp-IsAntisymmetric w.clients c cl k n ∙ h.1, h.2)

    any_next : cl.stopped ≡ false → (k : ℕ) → IsPresent w k → IsPresent (next w e) k
    any_next runs k h = by (conn_or k c) where
      by : (k ≡ c) ⊎ (k ≢ c) → IsPresent (next w e) k
      by (inl is_c) = subst (IsPresent (next w e)) (sym is_c) (same_next runs)
      by (inr n) = other_next k n h

  called : (at : ℕ) (words : Words) (reply : Reply) → next {N = Heard} w (entry.Call c at words reply) ≡ with_client (apply_of w.store at c words).0 w c (record there.0 { calls = there.0.calls ++ call at words reply.answer ∷ [] })
  unfolding next
  called at words reply = ap (next_of {N = Heard} w (entry.Call c at words reply)) there.1

  left : next {N = Heard} w (entry.Stop c) ≡ with_client (gone_of w.store c) w c (record there.0 { stopped = true })
  unfolding next
  left = ap (next_of {N = Heard} w (entry.Stop c)) there.1

-- ---- one connection

-- the entries may come, they lead to this store, and the other clients stay
abbrev pub Follows : SystemState → ℕ → List (Entry Heard) → State → Type 0
Follows w c es t = AllMayCome w es × ((after_entries w es).store ≡ t) × ((k : ℕ) → k ≢ c → IsPresent w k → IsPresent (after_entries w es) k)

one_follows : (gives : ℕ → Type 0) (c : ℕ) (w : SystemState) (t : State) (values : List Value) (deeds : List Deed) → IsPresent w c → AreCalls gives values deeds → RunsTo c w.store deeds t → Follows w c (entries_by c (deeds ++ DidStop ∷ [])) (gone_of t c)
one_follows gives c w t [] [] there calls runs =
    let is = left w c there in (
      ((there.0, there.1, there.2, tt), tt),
      store_next w c there (entry.Stop c) (gone_of w.store c) (record there.0 { stopped = true }) is ∙ ap (λ s. gone_of s c) runs,
      other_next w c there (entry.Stop c) (gone_of w.store c) (record there.0 { stopped = true }) is,
    )
one_follows gives c w t [] (d ∷ ds) there calls runs = absurd calls
one_follows gives c w t (v ∷ vs) [] there calls runs = absurd calls
one_follows gives c w t (v ∷ vs) (DidAsk at words reply ∷ ds) there (asks, calls) (right, runs) =
    let e : Entry Heard = entry.Call c at words reply in
    let is = called w c there at words reply in
    let cl : Client = record there.0 { calls = there.0.calls ++ call at words reply.answer ∷ [] } in
    let s : State = (apply_of w.store at c words).0 in
    let later = one_follows gives c (next w e) t vs ds (same_next w c there e s cl is there.2) calls (subst (λ x. RunsTo c x ds t) (sym (store_next w c there e s cl is)) runs) in
    (((there.0, there.1, there.2, right), later.0), later.1, λ k n h. later.2 k n (any_next w c there e s cl is there.2 k h))
one_follows gives c w t (v ∷ vs) (DidNote note ∷ ds) there (asks, calls) runs = absurd asks
one_follows gives c w t (v ∷ vs) (DidStop ∷ ds) there (asks, calls) runs = absurd asks

-- ---- the store of a desk, which may be spent

-- where the store isn't spent, it is this
abbrev pub Means : StoreView → State → Type 0
Means s t = s.spent ≡ false → s.state ≡ t

nothing_asked : (gives : ℕ → Type 0) (values : List Value) (deeds : List Deed) → AreCalls gives values deeds → AsksNothing deeds → deeds ≡ []
nothing_asked gives [] [] calls none = refl
nothing_asked gives [] (d ∷ ds) calls none = absurd calls
nothing_asked gives (v ∷ vs) [] calls none = absurd calls
nothing_asked gives (v ∷ vs) (DidAsk at words reply ∷ ds) calls none = absurd none
nothing_asked gives (v ∷ vs) (DidNote note ∷ ds) (asks, calls) none = absurd asks
nothing_asked gives (v ∷ vs) (DidStop ∷ ds) (asks, calls) none = absurd asks

clash : {b : Bool} → b ≡ false → b ≡ true → ⊥
clash e f = let g : false ≡ true = sym e ∙ f in absurd cc

-- what the store stands for runs to what it stands for afterwards
runs_on : (gives : ℕ → Type 0) (c : ℕ) (values : List Value) (deeds : List Deed) (s t : StoreView) (u : State) → AreCalls gives values deeds → Means s u → LeadsLive c (live_state s.spent s.state) deeds (live_state t.spent t.state) → (v : State) × RunsTo c u deeds v × Means t v
runs_on gives c values deeds s t u calls means leads = by s.spent t.spent refl refl leads where
  by : (a b : Bool) → s.spent ≡ a → t.spent ≡ b → LeadsLive c (live_state a s.state) deeds (live_state b t.state) → (v : State) × RunsTo c u deeds v × Means t v
  by true true x y (none, is) = (u, subst (λ ds. RunsTo c u ds u) (sym (nothing_asked gives values deeds calls none)) refl, λ z. absurd (clash z y))
  by true false x y (none, is) = absurd cc
  by false true x y (v, runs) = (v, subst (λ i. RunsTo c i deeds v) (means x) runs, λ z. absurd (clash z y))
  by false false x y runs = (t.state, subst (λ i. RunsTo c i deeds t.state) (means x) runs, λ z. refl)

-- ---- all connections

append_legal : (w : SystemState) (es fs : List (Entry Heard)) → AllMayCome w es → AllMayCome (after_entries w es) fs → AllMayCome w (es ++ fs)
append_legal w [] fs a b = b
append_legal w (e ∷ es) fs a b = (a.0, append_legal (next w e) es fs a.1 b)

append_after : (w : SystemState) (es fs : List (Entry Heard)) → after_entries w (es ++ fs) ≡ after_entries (after_entries w es) fs
append_after w [] fs = refl
append_after w (e ∷ es) fs = append_after (next w e) es fs

-- what serving from a connection on comes to
pub record Serves (gives : ℕ → Type 0) (c : ℕ) (w : SystemState) (closed closed2 : Option (List LinkView)) (ends : List SessionEnd) (left : StoreView) : Type 0 where
  pub attended : List Attended
  pub whole : map (λ a. a.end) attended ≡ ends
  pub closes : ClosesAll closed closed2 (map (λ a. a.link) attended)
  pub each : HasAttendedAll gives closed attended
  pub legal : AllMayCome w (served_entries c attended)
  pub leads : Means left (after_entries w (served_entries c attended)).store
  pub fits : HasLimits w.store → AllFit (served_entries c attended)

-- each of so many connections from this one on
abbrev pub ArePresent : SystemState → ℕ → ℕ → Type 0
ArePresent w c n = (k : ℕ) → c ≤ k → k < c + n → IsPresent w k

serves : (gives : ℕ → Type 0) (turns c : ℕ) (w : SystemState) (s left : StoreView) (closed closed2 : Option (List LinkView)) (ends : List SessionEnd) → Means s w.store → ArePresent w c (length ends) → HasServedAll gives turns c s left closed closed2 ends
    → Serves gives c w closed closed2 ends left
serves gives turns c w s left closed closed2 [] means present (is, kept) = record {
  attended = [];
  whole = refl;
  closes = closes_none closed closed2 kept;
  each = tt;
  legal = tt;
  leads = λ z. ap (λ x. x.state) is ∙ means (ap (λ x. x.spent) (sym is) ∙ z);
  fits = λ limits. tt;
}
serves gives turns c w s left closed closed2 (end ∷ ends) means present (mid, between, one, rest) =
    let a : Attended = attended gives turns c s mid closed between end one in
    let h = heard gives turns c s mid closed between end one in
    let ran = runs_on gives c h.values h.deeds s one.visited.left w.store h.calls means h.went.1 in
    let es : List (Entry Heard) = entries_by c (h.deeds ++ DidStop ∷ []) in
    let f : Follows w c es (gone_of ran.0 c) = one_follows gives c w ran.0 h.values h.deeds (present c (omega arith) (omega arith)) h.calls ran.1 in
    let w2 : SystemState = after_entries w es in
    let means2 : Means mid w2.store = λ z. ap (λ x. x.state) one.visited.gone ∙ ap (λ x. gone_of x c) (ran.2 (ap (λ x. x.spent) (sym one.visited.gone) ∙ z)) ∙ sym f.1 in
    let present2 : ArePresent w2 (c + 1) (length ends) = λ k low high. f.2 k (later k low) (present k (omega (arith, low)) (omega (arith, high))) in
    let all = serves gives turns (c + 1) w2 mid left between closed2 ends means2 present2 rest in
    record {
      attended = a ∷ all.attended;
      whole = ap (λ x. end ∷ x) all.whole;
      closes = closes_more closed between closed2 one.link2 (map (λ x. x.link) all.attended) one.carried all.closes;
      each = (has_attended gives turns c s mid closed between end one, all_as gives closed between one.link2 all.attended one.carried all.each);
      legal = append_legal w es (served_entries (c + 1) all.attended) f.0 all.legal;
      leads = λ z. all.leads z ∙ ap (λ x. x.store) (sym (append_after w es (served_entries (c + 1) all.attended)));
      fits = λ limits.
          let fit = fit_one gives c w.store ran.0 h.values h.deeds h.calls (calls_within gives 0 one.visited.session.stream h.values h.from h.rest h.deeds h.leads h.calls) ran.1 limits in
          fit_both es (served_entries (c + 1) all.attended) fit.0 (all.fits (subst HasLimits (sym f.1) fit.1));
    } where
      later : (k : ℕ) → c + 1 ≤ k → k ≢ c
      later k low e = omega (arith, low, e)

-- ---- the table of the clients

away_from : (low c n : ℕ) → low < c → IsAway low (connections (served_clients c n))
away_from low c zero small = tt
away_from low c (suc n) small = ((λ e. omega (arith, e, small)), away_from low (c + 1) n (omega (arith, small)))

differ : (c n : ℕ) → Differ (connections (served_clients c n))
differ c zero = tt
differ c (suc n) = (away_from c (c + 1) n (omega arith), differ (c + 1) n)

same_seeds : (c n : ℕ) → seeds (served_clients c n) ≡ connections (served_clients c n)
same_seeds c zero = refl
same_seeds c (suc n) = ap (λ x. c ∷ x) (same_seeds (c + 1) n)

unused : (ss : List ℕ) → AreUnused [] ss
unused [] = tt
unused (s ∷ ss) = (tt, unused ss)

is_table : (c n : ℕ) → IsTable (served_clients c n) []
is_table c n = record { connections_differ = differ c n; seeds_differ = subst Differ (sym (same_seeds c n)) (differ c n); unused = unused (seeds (served_clients c n)) }

-- each client of the table is there at the start
begun : (m : Keys) (c n k : ℕ) → c ≤ k → k < c + n → IsPresent (start_from m (served_clients c n)) k
begun m c zero k low high = absurd (omega (arith, low, high))
begun m c (suc n) k low high = by (conn_or k c) (λ o. begun m (c + 1) n k (omega (arith, low, o)) (omega (arith, high))) where
  by : (k ≡ c) ⊎ (k ≢ c) → (k ≢ c → IsPresent (start_from m (served_clients (c + 1) n)) k) → IsPresent (start_from m (served_clients c (suc n))) k
  by (inl is_c) later =
      subst (IsPresent (start_from m (served_clients c (suc n)))) (sym is_c) (new_client c, get-insert_same nat_cmp nat_cmp_total nat_cmp-IsAntisymmetric (table (served_clients (c + 1) n)) c (new_client c), refl)
  by (inr o) later = let h = later o in (h.0, get-insert_other nat_cmp nat_cmp_total nat_cmp-IsAntisymmetric (table (served_clients (c + 1) n)) c (new_client c) k o ∙ h.1, h.2)

-- ---- the whole

same_length : (attended : List Attended) (ends : List SessionEnd) → map (λ a. a.end) attended ≡ ends → length attended ≡ length ends
same_length attended ends is = by attended ∙ ap length is where
  by : (attended : List Attended) → length attended ≡ length (map (λ (a : Attended). a.end) attended)
  by [] = refl
  by (a ∷ later) = ap suc (by later)

pub serving : (gives : ℕ → Type 0) (turns : ℕ) (m : Keys) (left : StoreView) (closed closed2 : Option (List LinkView)) (ends : List SessionEnd) → HasServedAll gives turns 1 (store_with m) left closed closed2 ends → IsServedHistory gives m closed closed2 ends left
serving gives turns m left closed closed2 ends all =
    let w : SystemState = start_from m (served_clients 1 (length ends)) in
    let s = serves gives turns 1 w (store_with m) left closed closed2 ends (λ z. refl) (begun m 1 (length ends)) all in
    let same : length ends ≡ length s.attended = sym (same_length s.attended ends s.whole) in
    record {
      attended = s.attended;
      whole = s.whole;
      closes = s.closes;
      each = s.each;
      clients = is_table 1 (length s.attended);
      legal = subst (λ n. AllMayCome (start_from m (served_clients 1 n)) (served_entries 1 s.attended)) same s.legal;
      leads = λ z. subst (λ n. left.state ≡ (after_entries (start_from m (served_clients 1 n)) (served_entries 1 s.attended)).store) same (s.leads z);
      fits = λ limits. s.fits (begins_limited m limits);
    }
