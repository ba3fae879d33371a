-- Serving goes on by one session, and ends.
use Rattle.std.proofs.Common.{List, [], append-nil, append_assoc, ap, arith, inl, inr, length, length-append, refl, subst, sym, ℕ, ◌+◌, ◌++◌, ◌∙◌, ◌∷◌, ◌≡◌, ◌≤◌}
use Rattle.std.specs.Io.KnownBytes.{Appends}
use Rattle.std.specs.Prelude.{Err, None, Ok, Option, Some, ⊤}
use Rattle.links.specs.Causes.{AppendsFront, Rose}
use Rattle.links.specs.Views.{SinkView}
use Rattle.net_links.specs.LinkViews.{LinkView}
use Rattle.net_links.specs.NetCauses.{HasNetCause}
use Rattle.net_links.specs.Traffics.{KeepsClosed}
use Rattle.net_links.specs.declared.link.NetFault.{NetFault}
use Rattle.net_links.specs.declared.link.NetFault.TheVariants.{Failed}
use Rattle.net_links.specs.declared.link.NetFault.TheVariants as net
use Rattle.store_model.specs.Store.{StoreView}
use Rattle.sessions.specs.declared.conversing.SessionEnd.{SessionEnd}
use Rattle.sessions.specs.declared.ends.Why.{Why}
use Rattle.sessions.specs.declared.ends.Why.TheVariants as why
use Rattle.store_server.specs.Servings.{HasServedAll, HasServedOne}
use Rattle.store_server.proofs.Served.{none_served, serves_after}
use Rattle.serve_run.specs.Endings.{end_after, net_end, end_with, full_by}
use Rattle.serve_run.specs.Lines.{session_line, session_lines}
use Rattle.serve_run.specs.NetViews.{NetView}
use Rattle.serve_run.specs.ServeRuns.{HasServedOn, IsAllServed, IsServingEnd, IsStop, TellsCut}
use Rattle.serve_run.specs.Tellings.{InServing, TellsLine, TellsSession}
use Rattle.serve_run.specs.declared.ending.ServingEnd.{ServingEnd}
use Rattle.serve_run.specs.declared.ending.ServingEnd.TheVariants.{Full, Memory, Net, Served, WriteFault}

-- one session more ended
ends_one : (s : ServingEnd) (ends : List SessionEnd) (end : SessionEnd) → end_after s (ends ++ end ∷ []) ≡ end_with (end_after s ends) end.why
ends_one s [] end = refl
ends_one s (x ∷ ends) end = ends_one (end_with s x.why) ends end

-- its line follows those before
lines_one : (n k : ℕ) (ends : List SessionEnd) (end : SessionEnd) → k ≡ n + length ends → session_lines n (ends ++ end ∷ []) ≡ session_lines n ends ++ session_line k end
lines_one n k [] end is = let here : k ≡ n = omega (arith, is) in append-nil (session_line n end) ∙ ap (λ i. session_line i end) (sym here)
lines_one n k (x ∷ ends) end is =
    ap (λ l. session_line n x ++ l) (lines_one (n + 1) k ends end (omega (arith, is))) ∙ sym (append_assoc (session_line n x) (session_lines (n + 1) ends) (session_line k end))

-- sessions follow those before
serves_more : (gives : ℕ → Type 0) (turns c k : ℕ) (s m t : StoreView) (a b d : Option (List LinkView)) (ends more : List SessionEnd) → k ≡ c + length ends
    → HasServedAll gives turns c s m a b ends → HasServedAll gives turns k m t b d more → HasServedAll gives turns c s t a d (ends ++ more)
serves_more gives turns c k s m t a b d [] more is all rest =
    let here : k ≡ c = omega (arith, is) in
    serves_after gives turns c s t a b d more all.1 (subst (λ i. HasServedAll gives turns i s t b d more) here (subst (λ x. HasServedAll gives turns k x t b d more) all.0 rest))
serves_more gives turns c k s m t a b d (e ∷ ends) more is (mid, between, first, all) rest =
    (mid, between, first, serves_more gives turns (c + 1) k mid m t between b d ends more (omega (arith, is)) all rest)

-- text after text
appends_on : (a b d : Option (List ℕ)) (x y : List ℕ) → Appends a b x → Appends b d y → Appends a d (x ++ y)
appends_on None b d x y p q = tt
appends_on (Some l) None d x y p q = absurd p
appends_on (Some l) (Some m) None x y p q = absurd q
appends_on (Some l) (Some m) (Some n) x y p q = q ∙ ap (λ i. i ++ y) p ∙ append_assoc l x y

-- no text
appends_nothing : (a : Option (List ℕ)) → Appends a a []
appends_nothing None = tt
appends_nothing (Some l) = sym (append-nil l)

-- sessions alone never make serving end by a fault
abbrev IsOwnEnd : ServingEnd → Type 0
IsOwnEnd Served = Unit {0}
IsOwnEnd (Full entries bytes) = Unit {0}
IsOwnEnd Net = ⊥
IsOwnEnd WriteFault = ⊥
IsOwnEnd Memory = ⊥

own_by : (last : Why) → IsOwnEnd (full_by last)
own_by (why.Full entries bytes) = tt
own_by why.Ended = tt
own_by why.Turns = tt
own_by (why.Wire kind place) = tt
own_by why.NotWords = tt
own_by why.Link = tt
own_by why.Closed = tt
own_by why.Memory = tt

own_with : (s : ServingEnd) (last : Why) → IsOwnEnd s → IsOwnEnd (end_with s last)
own_with Served last own = own_by last
own_with (Full entries bytes) last own = tt
own_with Net last own = absurd own
own_with WriteFault last own = absurd own
own_with Memory last own = absurd own

own_after : (s : ServingEnd) (ends : List SessionEnd) → IsOwnEnd s → IsOwnEnd (end_after s ends)
own_after s [] own = own
own_after s (end ∷ ends) own = own_after (end_with s end.why) ends (own_with s end.why own)

-- nothing was served yet
pub begun : (gives : ℕ → Type 0) (turns : ℕ) (s : StoreView) (net : NetView) (sink : SinkView) → InServing gives turns s s net net sink sink 0 Served
begun gives turns s net sink = record {
  ends = [];
  count = refl;
  served = none_served gives turns s net.closed;
  no_fault = refl;
  told = (appends_nothing sink.taken, refl);
  ends_so = refl;
}

module _ (gives : ℕ → Type 0) (turns : ℕ) (s m t : StoreView) (a b d : NetView) (o x y : SinkView) (n k : ℕ) (so_far : ServingEnd) (amid : InServing gives turns s m a b o x n so_far) (is : k ≡ n + 1) where
  next_number : k ≡ 1 + length amid.ends
  next_number = omega (arith, is, amid.count)

  -- one session more was had and told
  pub goes_on : (end : SessionEnd) → TellsSession gives turns k m t b d x y (Ok end) → InServing gives turns s t a d o y k (end_with so_far end.why)
  goes_on end (one, no_fault, (line, calm)) = record {
    ends = amid.ends ++ end ∷ [];
    count = omega (arith, length-append amid.ends (end ∷ []), amid.count, is);
    served = serves_more gives turns 1 k s m t a.closed b.closed d.closed amid.ends (end ∷ []) next_number amid.served (t, d.closed, one, none_served gives turns t d.closed);
    no_fault = no_fault ∙ amid.no_fault;
    told = (
      subst (λ l. Appends o.taken y.taken l) (sym (lines_one 1 k amid.ends end next_number)) (appends_on o.taken x.taken y.taken (session_lines 1 amid.ends) (session_line k end) amid.told.0 line),
      calm ∙ amid.told.1,
    );
    ends_so = ap (λ e. end_with e end.why) amid.ends_so ∙ sym (ends_one Served amid.ends end);
  }

  stop_from : (untold : List SessionEnd) (stop : ServingEnd) → IsStop b d untold stop → IsStop a d untold stop
  stop_from untold Net (none, later, rose) = (none, omega (arith, later, amid.no_fault), subst (λ (i : ℕ). Rose i d.faults) amid.no_fault rose)
  stop_from untold WriteFault (one, no_fault) = (one, no_fault ∙ amid.no_fault)
  stop_from untold Memory (few, no_fault) = (few, no_fault ∙ amid.no_fault)
  stop_from untold Served it = absurd it
  stop_from untold (Full entries bytes) it = absurd it

  stopped_so : (wanted : ℕ) (untold : List SessionEnd) (stop : ServingEnd) → k ≤ wanted → IsStop a d untold stop → IsServingEnd wanted a d amid.ends untold stop
  stopped_so wanted untold Net within it = (it, inl (omega (arith, amid.count, is, within)))
  stopped_so wanted untold WriteFault within it = (it, omega (arith, amid.count, is, within))
  stopped_so wanted untold Memory within it = (it, inl (omega (arith, amid.count, is, within)))
  stopped_so wanted untold Served within it = absurd it
  stopped_so wanted untold (Full entries bytes) within it = absurd it

  -- serving stops
  pub stops : (wanted : ℕ) (stop : ServingEnd) → k ≤ wanted → TellsSession gives turns k m t b d x y (Err stop) → HasServedOn gives turns wanted s t a d o y stop
  stops wanted stop within (untold, all, few, it, cut) = record {
    ends = amid.ends;
    untold = untold;
    between = x;
    served = serves_more gives turns 1 k s m t a.closed b.closed d.closed amid.ends untold next_number amid.served all;
    few = omega (arith, length-append amid.ends untold, amid.count, is, few, within);
    told = amid.told.0;
    calm = amid.told.1;
    cut = let here : k ≡ length amid.ends + 1 = omega (arith, next_number) in subst (λ (i : ℕ). TellsCut x y i untold stop) here cut;
    cause = stopped_so wanted untold stop within (stop_from untold stop it);
  }

-- a session was had, and serving stops within its line
module _ (gives : ℕ → Type 0) (turns k : ℕ) (m t : StoreView) (b d : NetView) (x y : SinkView) (end : SessionEnd) (one : HasServedOne gives turns k m t b.closed d.closed end) (same : d.faults ≡ b.faults) where
  this_one : HasServedAll gives turns k m t b.closed d.closed (end ∷ [])
  this_one = (t, d.closed, one, none_served gives turns t d.closed)

  pub stops_in_line : (stop : ServingEnd) → TellsLine x y (session_line k end) (Err stop) → TellsSession gives turns k m t b d x y (Err stop)
  stops_in_line WriteFault (front, later, rose) =
      (end ∷ [], this_one, omega arith, (refl, same), (subst (λ l. AppendsFront x.taken y.taken l) (sym (append-nil (session_line k end))) front, later, rose))
  stops_in_line Memory still = (end ∷ [], this_one, omega arith, (omega arith, same), still)
  stops_in_line Served it = absurd it
  stops_in_line (Full entries bytes) it = absurd it
  stops_in_line Net it = absurd it

module _ (gives : ℕ → Type 0) (turns wanted : ℕ) (s m : StoreView) (a b : NetView) (o x : SinkView) where
  nothing_cut : (n : ℕ) (end : ServingEnd) → IsOwnEnd end → TellsCut x x n [] end
  nothing_cut n Served own = refl
  nothing_cut n (Full entries bytes) own = refl
  nothing_cut n Net own = absurd own
  nothing_cut n WriteFault own = absurd own
  nothing_cut n Memory own = absurd own

  all_so : (ends : List SessionEnd) (end : ServingEnd) → IsOwnEnd end → IsAllServed wanted a b ends [] end → IsServingEnd wanted a b ends [] end
  all_so ends Served own it = it
  all_so ends (Full entries bytes) own it = it
  all_so ends Net own it = absurd own
  all_so ends WriteFault own it = absurd own
  all_so ends Memory own it = absurd own

  -- as many sessions ended as were wanted
  pub ended : (n : ℕ) (so_far : ServingEnd) → InServing gives turns s m a b o x n so_far → n ≡ wanted → HasServedOn gives turns wanted s m a b o x so_far
  ended n so_far amid full =
      let own : IsOwnEnd so_far = subst IsOwnEnd (sym amid.ends_so) (own_after Served amid.ends tt) in
      record {
        ends = amid.ends;
        untold = [];
        between = x;
        served = subst (λ l. HasServedAll gives turns 1 s m a.closed b.closed l) (sym (append-nil amid.ends)) amid.served;
        few = omega (arith, length-append amid.ends [], amid.count, full);
        told = amid.told.0;
        calm = amid.told.1;
        cut = nothing_cut (length amid.ends + 1) so_far own;
        cause = all_so amid.ends so_far own (record { count = amid.count ∙ full; all_told = refl; no_fault = amid.no_fault; ends_so = amid.ends_so });
      }

module _ (gives : ℕ → Type 0) (turns wanted : ℕ) (s t : StoreView) (a b d : NetView) (o x : SinkView) (kept : KeepsClosed a.closed b.closed) (same : b.faults ≡ a.faults) where
  cause_from : (ends untold : List SessionEnd) (end : ServingEnd) → IsServingEnd wanted b d ends untold end → IsServingEnd wanted a d ends untold end
  cause_from ends untold Served it = record { count = it.count; all_told = it.all_told; no_fault = it.no_fault ∙ same; ends_so = it.ends_so }
  cause_from ends untold (Full entries bytes) it = record { count = it.count; all_told = it.all_told; no_fault = it.no_fault ∙ same; ends_so = it.ends_so }
  cause_from ends untold Net ((none, later, rose), more) = ((none, omega (arith, later, same), subst (λ (i : ℕ). Rose i d.faults) same rose), more)
  cause_from ends untold WriteFault ((one, no_fault), more) = ((one, no_fault ∙ same), more)
  cause_from ends untold Memory ((few, no_fault), more) = ((few, no_fault ∙ same), more)

  -- the net listened before
  pub listened : (end : ServingEnd) → HasServedOn gives turns wanted s t b d o x end → HasServedOn gives turns wanted s t a d o x end
  listened end v = record {
    ends = v.ends;
    untold = v.untold;
    between = v.between;
    served = serves_after gives turns 1 s t a.closed b.closed d.closed (v.ends ++ v.untold) kept v.served;
    few = v.few;
    told = v.told;
    calm = v.calm;
    cut = v.cut;
    cause = cause_from v.ends v.untold end v.cause;
  }

module _ (gives : ℕ → Type 0) (turns wanted : ℕ) (s : StoreView) (a b : NetView) (o : SinkView) (kept : KeepsClosed a.closed b.closed) where
  refused_so : (end : ServingEnd) → IsServingEnd wanted a b [] [] end → TellsCut o o 1 [] end → HasServedOn gives turns wanted s s a b o o end
  refused_so end cause cut = record {
    ends = [];
    untold = [];
    between = o;
    served = (refl, kept);
    few = omega arith;
    told = appends_nothing o.taken;
    calm = refl;
    cut = cut;
    cause = cause;
  }

  -- the net didn't listen
  pub refused : (fault : NetFault) → HasNetCause {T = ⊤} a.faults b.faults (Err fault) → HasServedOn gives turns wanted s s a b o o (net_end fault)
  refused Failed (later, rose) = refused_so Net ((refl, later, rose), inr refl) refl
  refused net.Memory same = refused_so Memory ((omega arith, same), inr refl) refl
