-- What a served connection asked, and what went back.
use Rattle.std.proofs.Common.{List, [], ap, append-nil, append_assoc, arith, false, inl, inr, length, refl, subst, sym, true, ℕ, ◌++◌, ◌<◌, ◌∙◌, ◌∷◌, ◌≡◌}
use Rattle.std.specs.Prelude.{None, Option, Some}
use Rattle.std.specs.Io.KnownBytes.{Appends}
use Rattle.links.specs.Causes.{Rose}
use Rattle.store_model.specs.Store.{StoreView}
use Rattle.desks.specs.Deeds.{Deed}
use Rattle.desks.specs.declared.desk.DeskFault.{DeskFault}
use Rattle.net_links.specs.LinkViews.{LinkView}
use Rattle.net_links.specs.Traffics.{ClosesOne, IsFresh, KeepsClosed}
use Rattle.wire_values.specs.declared.value.Value.{Value}
use Rattle.wire_grammar.specs.Streams.{Leads}
use Rattle.sessions.specs.Calls.{AreCalls, answers}
use Rattle.sessions.specs.Hearings.{BeginsCommand, HasHeard, WritesAll}
use Rattle.serving_laws.proofs.Wholes.{none_begun}
use Rattle.sessions.specs.SessionEnds.{EndsSession, HasSession}
use Rattle.sessions.specs.declared.conversing.SessionEnd.{SessionEnd}
use Rattle.sessions.specs.declared.ends.Why.{Why}
use Rattle.sessions.specs.declared.ends.Why.TheVariants.{Closed, Ended, Full, Link, Memory, NotWords, Turns, Wire}
use Rattle.store_server.specs.Servings.{HasServedOne, store_goes}
use Rattle.serving_laws.specs.ServedHistories.{Attended, ClosesAll, HasAttended, HasAttendedAll, IsLeftSo, TellsBoth}

-- what was asked in a session at a desk that nobody shares, and what stands at its end
abbrev AsksUntil : {D : Type 0} → (D → List Deed → D → Type 0) → (ℕ → Type 0) → D → D → LinkView → List ℕ → List ℕ → ℕ → Why → Type 0
AsksUntil goes gives first now link stream sent count why = (h : HasHeard goes gives first now stream count) × IsLeftSo link why h.deeds stream sent h.from h.rest

unshared : false ≡ true → ⊥
unshared e = absurd cc

-- nothing came, so nothing was asked
no_values : (p : ℕ) (stream : List ℕ) (values : List Value) (from : ℕ) (rest : List ℕ) → stream ≡ [] → Leads p stream values from rest → values ≡ []
no_values p stream [] from rest none l = refl
no_values p stream (v ∷ vs) from rest none l = absurd (none_begun v l.0 l.1 (sym none ∙ l.2) l.3)

no_deeds : (gives : ℕ → Type 0) (values : List Value) (deeds : List Deed) → values ≡ [] → AreCalls gives values deeds → deeds ≡ []
no_deeds gives [] [] none calls = refl
no_deeds gives [] (d ∷ ds) none calls = absurd calls
no_deeds gives (v ∷ vs) deeds none calls = absurd cc

nothing_asked : {D : Type 0} (goes : D → List Deed → D → Type 0) (gives : ℕ → Type 0) (first now : D) (stream sent : List ℕ) (count : ℕ) (h : HasHeard goes gives first now stream count) → stream ≡ [] → sent ≡ [] → WritesAll h.deeds sent
nothing_asked goes gives first now stream sent count h none unsent = unsent ∙ sym (ap answers (no_deeds gives h.values h.deeds (no_values 0 stream h.values h.from h.rest none h.leads) h.calls))

-- a command is some bytes
begins_some : (rest : List ℕ) → BeginsCommand rest → 0 < length rest
begins_some [] (v, words, (front, more, e, s), is) = absurd (none_begun v front more e s)
begins_some (x ∷ xs) next = omega arith

pub asked_in : {D : Type 0} (goes : D → List Deed → D → Type 0) (gives : ℕ → Type 0) (fault : Option DeskFault) (first now : D) (old new : LinkView) (turns receives : ℕ) (stream sent : List ℕ) (count : ℕ) (why : Why) → old.faults ≡ 0 → old.ends ≡ 0
    → EndsSession goes gives false fault first now old new turns receives stream sent count why → AsksUntil goes gives first now new stream sent count why
asked_in goes gives fault first now old new turns receives stream sent count Ended sound whole (h, w, none, rose, kept, few) = (h, (w, none))
asked_in goes gives fault first now old new turns receives stream sent count Turns sound whole (h, w, front, over, calm) = (h, (w, front))
asked_in goes gives fault first now old new turns receives stream sent count Link sound whole (h, inl (part, rose, same)) = (h, inl (part, subst (λ (i : ℕ). Rose i new.faults) sound rose))
asked_in goes gives fault first now old new turns receives stream sent count Link sound whole (h, inr (w, front, few, inl (rose, same))) = (h, inr (w, front, inl (subst (λ (i : ℕ). Rose i new.faults) sound rose)))
asked_in goes gives fault first now old new turns receives stream sent count Link sound whole (h, inr (w, front, few, inr (rose, same, some))) = (h, inr (w, front, inr (subst (λ (i : ℕ). Rose i new.ends) whole rose, some)))
asked_in goes gives fault first now old new turns receives stream sent count (Wire kind place) sound whole ((h, w, wrong), calm) = (h, (w, wrong))
asked_in goes gives fault first now old new turns receives stream sent count NotWords sound whole ((h, w, none), calm) = (h, (w, none))
asked_in goes gives fault first now old new turns receives stream sent count (Full entries bytes) sound whole ((h, w, b, refused), calm) = absurd (unshared refused.0)
asked_in goes gives fault first now old new turns receives stream sent count Closed sound whole ((h, w, b, refused), calm) = absurd (unshared refused.0)
asked_in goes gives fault first now old new turns receives stream sent count Memory sound whole (h, inl (never, none, unsent, still), calm) = (h, inl (nothing_asked goes gives first now stream sent count h none unsent, inl none))
asked_in goes gives fault first now old new turns receives stream sent count Memory sound whole (h, inr (inl (w, inl (came, some, still))), calm) = (h, inl (w, inr some))
asked_in goes gives fault first now old new turns receives stream sent count Memory sound whole (h, inr (inl (w, inr (next, still))), calm) = (h, inl (w, inr (begins_some h.rest next)))
asked_in goes gives fault first now old new turns receives stream sent count Memory sound whole (h, inr (inr part), calm) = (h, inr part)

-- what a link carried that carried nothing before
carried_from : (was now : Option (List ℕ)) (bytes : List ℕ) → was ≡ Some [] → Appends was now bytes → now ≡ Some bytes
carried_from was now bytes none a = by now (subst (λ o. Appends o now bytes) none a) where
  by : (now : Option (List ℕ)) → Appends (Some []) now bytes → now ≡ Some bytes
  by None never = absurd never
  by (Some xs) is = ap Some is

tells_both : (closed : Option (List LinkView)) (old new : LinkView) (received sent : List ℕ) → IsFresh closed old → Appends old.received new.received received → Appends old.sent new.sent sent → TellsBoth closed new received sent
tells_both None old new received sent f came went = tt
tells_both (Some closed) old new received sent f came went = (carried_from old.received new.received received f.unused.1 came, carried_from old.sent new.sent sent f.unused.0 went)

-- one connection that was served
module _ (gives : ℕ → Type 0) (turns c : ℕ) (s t : StoreView) (closed closed2 : Option (List LinkView)) (end : SessionEnd) (o : HasServedOne gives turns c s t closed closed2 end) where
  abbrev its : HasSession (store_goes c) gives false o.visited.fault s o.visited.left o.link o.link2 turns end.commands end.why
  its = o.visited.session

  abbrev asked : AsksUntil (store_goes c) gives s o.visited.left o.link2 its.stream its.sent end.commands end.why
  asked = asked_in (store_goes c) gives o.visited.fault s o.visited.left o.link o.link2 turns its.receives its.stream its.sent end.commands end.why o.fresh.no_fault o.fresh.no_end its.ends

  abbrev pub attended : Attended
  attended = record { link = o.link2; end = end; deeds = asked.0.deeds }

  abbrev pub heard : HasHeard (store_goes c) gives s o.visited.left its.stream end.commands
  heard = asked.0

  pub has_attended : HasAttended gives closed attended
  has_attended = record {
    received = its.stream;
    sent = its.sent;
    told = tells_both closed o.link o.link2 its.stream its.sent o.fresh its.came its.went;
    values = asked.0.values;
    from = asked.0.from;
    rest = asked.0.rest;
    leads = asked.0.leads;
    calls = asked.0.calls;
    counted = asked.0.counted;
    left = asked.1;
  }

-- ---- a net that told of its links goes on to

tells_as : (a b : Option (List LinkView)) (l l2 : LinkView) (received sent : List ℕ) → ClosesOne a b l → TellsBoth b l2 received sent → TellsBoth a l2 received sent
tells_as None b l l2 received sent p t = tt
tells_as (Some x) None l l2 received sent p t = absurd p
tells_as (Some x) (Some y) l l2 received sent p t = t

one_as : (gives : ℕ → Type 0) (a b : Option (List LinkView)) (l : LinkView) (x : Attended) → ClosesOne a b l → HasAttended gives b x → HasAttended gives a x
one_as gives a b l x p h = record {
  received = h.received;
  sent = h.sent;
  told = tells_as a b l x.link h.received h.sent p h.told;
  values = h.values;
  from = h.from;
  rest = h.rest;
  leads = h.leads;
  calls = h.calls;
  counted = h.counted;
  left = h.left;
}

pub all_as : (gives : ℕ → Type 0) (a b : Option (List LinkView)) (l : LinkView) (xs : List Attended) → ClosesOne a b l → HasAttendedAll gives b xs → HasAttendedAll gives a xs
all_as gives a b l [] p h = tt
all_as gives a b l (x ∷ xs) p h = (one_as gives a b l x p h.0, all_as gives a b l xs p h.1)

pub closes_none : (a b : Option (List LinkView)) → KeepsClosed a b → ClosesAll a b []
closes_none None b p = tt
closes_none (Some x) None p = absurd p
closes_none (Some x) (Some y) p = p ∙ sym (append-nil x)

pub closes_more : (a b d : Option (List LinkView)) (l : LinkView) (ls : List LinkView) → ClosesOne a b l → ClosesAll b d ls → ClosesAll a d (l ∷ ls)
closes_more None b d l ls p q = tt
closes_more (Some x) None d l ls p q = absurd p
closes_more (Some x) (Some y) None l ls p q = absurd q
closes_more (Some x) (Some y) (Some z) l ls p q = q ∙ ap (λ k. k ++ ls) p ∙ append_assoc x (l ∷ []) ls
