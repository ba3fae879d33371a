-- The replies of connections fit on the wire.
use Rattle.std.proofs.Common.{List, [], subst, sym, ℕ, ◌+◌, ◌++◌, ◌∷◌, ◌≡◌}
use Rattle.std.specs.Prelude.{length, true}
use Rattle.wire_values.specs.declared.value.Value.{Value}
use Rattle.wire_grammar.specs.Fits.{IsWithinLimits}
use Rattle.wire_grammar.specs.Streams.{Leads}
use Rattle.store_model.specs.Keys.{Keys}
use Rattle.store_model.specs.Store.{State, apply_of, gone_of}
use Rattle.store_laws.specs.StoreLimits.{AreLimited, HasLimits, ReplyFits, has_counts}
use Rattle.store_laws.proofs.RepliesFit.{replies_fit}
use Rattle.store_laws.proofs.StepsLimited.{limited_apply, limited_empty, limited_gone}
use Rattle.place_model.specs.declared.heard.Heard.{Heard}
use Rattle.place_model.specs.declared.history.Entry.{Entry}
use Rattle.place_model.specs.declared.history.Entry.TheVariants as entry
use Rattle.desks.specs.Deeds.{Deed, DidAsk, DidNote, DidStop, entries_by}
use Rattle.plain_desk.specs.StoreRuns.{RunsTo}
use Rattle.sessions.specs.Calls.{AreCalls}
use Rattle.sessions.proofs.CommandsFit.{fits}
use Rattle.serving_laws.specs.ServedHistories.{AllFit, store_with}

-- a store that knows no connection is within its limits where its keys are
pub begins_limited : (m : Keys) → AreLimited m → HasLimits (store_with m).state
begins_limited m keys = record { keys = keys; conns = limited_empty.conns }

-- what was asked fits
abbrev pub AreWithin : List Deed → Type 0
AreWithin [] = Unit {0}
AreWithin (DidAsk at words reply ∷ ds) = IsWithinLimits words × AreWithin ds
AreWithin (DidNote note ∷ ds) = AreWithin ds
AreWithin (DidStop ∷ ds) = AreWithin ds

pub calls_within : (gives : ℕ → Type 0) (p : ℕ) (stream : List ℕ) (values : List Value) (from : ℕ) (rest : List ℕ) (deeds : List Deed) → Leads p stream values from rest → AreCalls gives values deeds → AreWithin deeds
calls_within gives p stream [] from rest [] l calls = tt
calls_within gives p stream [] from rest (d ∷ ds) l calls = absurd calls
calls_within gives p stream (v ∷ vs) from rest [] l calls = absurd calls
calls_within gives p stream (v ∷ vs) from rest (DidAsk at words reply ∷ ds) l (call, calls) = (fits v words (l.0, l.3) call.0, calls_within gives (p + length l.0) l.1 vs from rest ds l.4 calls)
calls_within gives p stream (v ∷ vs) from rest (DidNote note ∷ ds) l (call, calls) = absurd call
calls_within gives p stream (v ∷ vs) from rest (DidStop ∷ ds) l (call, calls) = absurd call

-- what a connection asked and that it left: its replies fit, and the store stays within its limits
pub fit_one : (gives : ℕ → Type 0) (c : ℕ) (s t : State) (values : List Value) (deeds : List Deed) → AreCalls gives values deeds → AreWithin deeds → RunsTo c s deeds t → HasLimits s → AllFit (entries_by c (deeds ++ DidStop ∷ [])) × HasLimits (gone_of t c)
fit_one gives c s t [] [] calls within runs limits = (tt, limited_gone t c (subst HasLimits runs limits))
fit_one gives c s t [] (d ∷ ds) calls within runs limits = absurd calls
fit_one gives c s t (v ∷ vs) [] calls within runs limits = absurd calls
fit_one gives c s t (v ∷ vs) (DidAsk at words reply ∷ ds) (call, calls) (short, within) (right, runs) limits =
    let rest = fit_one gives c (apply_of s at c words).0 t vs ds calls within runs (limited_apply s at c words limits short) in
    ((subst (λ r. has_counts r.answer ≡ true → ReplyFits r) (sym right) (replies_fit s at c words limits short), rest.0), rest.1)
fit_one gives c s t (v ∷ vs) (DidNote note ∷ ds) (call, calls) within runs limits = absurd call
fit_one gives c s t (v ∷ vs) (DidStop ∷ ds) (call, calls) within runs limits = absurd call

pub fit_both : (es fs : List (Entry Heard)) → AllFit es → AllFit fs → AllFit (es ++ fs)
fit_both [] fs a b = b
fit_both (entry.Call c at words reply ∷ es) fs a b = (a.0, fit_both es fs a.1 b)
fit_both (entry.Heard c note ∷ es) fs a b = fit_both es fs a b
fit_both (entry.Stop c ∷ es) fs a b = fit_both es fs a b
