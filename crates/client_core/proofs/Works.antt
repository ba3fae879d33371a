-- A client goes on by replies, and tells its ends.
use Rattle.std.proofs.Common.{◌≡◌, ℕ, ◌<◌, ◌^◌, List, [], ◌∷◌, ◌++◌, map, Bool, true, false, None, Some, IsSome, IfSome, Result, Ok, Err, refl, sym, subst, ap, ◌∙◌}
use Rattle.std.specs.Prelude.{⊤, OnOk, option_map, cond}
use Rattle.store_model.specs.Words.{Words}
use Rattle.store_model.specs.declared.reply.Reply.{Reply}
use Rattle.block_core.specs.Cores.{StateTells, state_end}
use Rattle.block_core.specs.declared.block.CoreState.{CoreState}
use Rattle.block_core.specs.declared.block.CoreState.TheVariants as core
use Rattle.block_core.specs.declared.fault.ReplyFault.{ReplyFault}
use Rattle.block_core.specs.declared.fault.ReplyFault.TheVariants.{Refused, Memory}
use Rattle.block_laws.specs.Traces.{IsTrace}
use Rattle.block_laws.proofs.Traces.{next_trace}
use Rattle.command_blocks.specs.Answers.{is_error}
use Rattle.command_blocks.specs.Calls.{Call, call}
use Rattle.command_blocks.specs.Scripts.{Plan, Script, Over, Off, Say, after_call, next_words}
use Rattle.client_blocks.specs.declared.left.BlockLeft.{BlockLeft}
use Rattle.client_blocks.specs.declared.left.BlockLeft.TheVariants as left
use Rattle.steps.specs.declared.counts.ClientCounts.{ClientCounts}
use Rattle.steps.specs.Ends.{TellsOfErrand, TellsPlan, end_kind, plan_kind}
use Rattle.steps.specs.Errands.{Errand, Planned, Aside, aside_script}
use Rattle.steps.specs.Goings.{HasTakenReply, HasHeardOn, script_after}
use Rattle.steps.specs.Trips.{RoundTrip, trip, trip_call, trip_calls}
use Rattle.steps.specs.declared.ended.BlockEnd.{BlockEnd}
use Rattle.steps.specs.declared.ended.BlockEnd.TheVariants as end
use Rattle.client_core.specs.Asides.{AsideHeard, HasAside, aside_end, aside_left}
use Rattle.client_core.specs.Asides as asides
use Rattle.returns.specs.Returns.{ReturnHad, TellsReturn}
use Rattle.routes.specs.Publishes.{PublishHad, TellsPublish}
use Rattle.client_core.specs.Lefts.{DeclareHad, DeclareTells, PopsHad, PopTells, EndHad, EndTells_, PassesHad, PassTells, HeardLeft, LeftHad, LeftHadOn, left_end}
use Rattle.client_core.specs.Works.{ClientHad, ClientHeard, HeardWork, WorkHad, WorkTaken, client_ended, client_left, lacked, live_end, live_left, work_end, work_left}
use Rattle.client_core.specs.declared.aside.AsideCore.{AsideCore}
use Rattle.client_core.specs.declared.aside.AsideState.{AsideState}
use Rattle.client_core.specs.declared.aside.AsideState.TheVariants as aside
use Rattle.client_core.specs.declared.client.ClientCore.{ClientCore}
use Rattle.client_core.specs.declared.work.Work.{Work}
use Rattle.client_core.specs.declared.work.Work.TheVariants as work

map-more : {A B : Type 0} (f : A → B) (xs : List A) (y : A) → map f (xs ++ y ∷ []) ≡ map f xs ++ f y ∷ []
map-more f [] y = refl
map-more f (x ∷ xs) y = ap (λ l. f x ∷ l) (map-more f xs y)

-- ---- a block's reply, as that of what the client is about

pub block_heard : (o n : BlockLeft) (at : ℕ) (r : Reply) (result : Result ⊤ ReplyFault) → HeardLeft o n at r result → HeardWork (work.Block o) (work.Block n) at r result
block_heard o n at r result h = record { taken = taken result h; traced = traced } where
  taken : (result : Result ⊤ ReplyFault) → HeardLeft o n at r result → WorkTaken (work.Block o) (work.Block n) r result
  taken (Ok u) h = h.taken
  taken (Err (Refused given)) h = h.taken
  taken (Err Memory) h = tt

  on : (c : ClientCounts) (plan : Plan) (trips : List RoundTrip) (words : Words) (result : Result ⊤ ReplyFault) → LeftHadOn (LeftHad c.seed c.passes plan) (trip_calls trips) (call at words r.answer) n result → HasHeardOn (λ t. WorkHad c (Planned plan) t (work.Block n)) trips (trip at words r) result
  on c plan trips words (Ok u) g = subst (λ l. LeftHad c.seed c.passes plan l n) (sym (map-more trip_call trips (trip at words r))) g
  on c plan trips words (Err (Refused given)) g = subst (λ l. LeftHad c.seed c.passes plan l n) (sym (map-more trip_call trips (trip at words r))) g
  on c plan trips words (Err Memory) g = tt

  traced : (c : ClientCounts) (errand : Errand) (trips : List RoundTrip) (words : Words) → WorkHad c errand trips (work.Block o) → next_words (work_left (work.Block o)) at ≡ Some words → HasHeardOn (λ t. WorkHad c errand t (work.Block n)) trips (trip at words r) result
  traced c (Planned plan) trips words had next = on c plan trips words result (h.traced c.seed c.passes plan (trip_calls trips) words had next)
  traced c (Aside words2) trips words had next = absurd had

-- ---- that of a command that concerns no message

none_some : {A : Type 0} {x : A} → None ≡ Some x → ⊥
none_some e = cc

off_over : Off ≡ Over → ⊥
off_over e = cc

kept_over : (r : Reply) (q : AsideState) → asides.IsKept r q → asides.state_left q ≡ Over
kept_over r (aside.Saying command) k = absurd k
kept_over r (aside.Over told) k = refl
kept_over r aside.Off k = absurd k

kept_end : (r : Reply) (q : AsideState) → asides.IsKept r q → IsSome (asides.state_end q)
kept_end r (aside.Saying command) k = absurd k
kept_end r (aside.Over None) k = absurd k
kept_end r (aside.Over (Some told)) k = refl
kept_end r aside.Off k = absurd k

kept_tells : (r : Reply) (t : RoundTrip) (trips : List RoundTrip) → t.reply ≡ r → trips ≡ t ∷ [] → (q : AsideState) → asides.IsKept r q → asides.StateTells trips q
kept_tells r t trips e is (aside.Saying command) k = absurd k
kept_tells r t trips e is (aside.Over None) k = absurd k
kept_tells r t trips e is (aside.Over (Some told)) k = (t, is, e ∙ sym k)
kept_tells r t trips e is aside.Off k = absurd k

module _ (o : AsideCore) (at : ℕ) (soon : at < 2 ^ 40) (asked : IsSome (next_words (aside_left o) at)) (r : Reply) where
  -- it was next
  listed : (b : Bool) → is_error r.answer ≡ b → script_after (aside_left o) r ≡ cond b Off Over
  listed b e = by o.state asked where
    by : (q : AsideState) → IsSome (next_words (aside_left (record { state = q })) at) → script_after (aside_left (record { state = q })) r ≡ cond b Off Over
    by (aside.Saying command) a = ap (λ b. cond b Off Over) e
    by (aside.Over told) a = absurd (cc a)
    by aside.Off a = absurd (cc a)

  -- it had none before
  first : (words : Words) (trips : List RoundTrip) → HasAside words trips o → trips ≡ []
  first words trips h = by o.state asked h.tells where
    by : (q : AsideState) → IsSome (next_words (aside_left (record { state = q })) at) → asides.StateTells trips q → trips ≡ []
    by (aside.Saying command) a t = t
    by (aside.Over told) a t = absurd (cc a)
    by aside.Off a t = absurd (cc a)

  aside_trace : (n : AsideCore) (words said : Words) (trips : List RoundTrip) → HasAside words trips o → next_words (aside_left o) at ≡ Some said → aside_left n ≡ script_after (aside_left o) r → IsTrace (aside_script words) (trip_calls (trips ++ trip at said r ∷ [])) (aside_left n)
  aside_trace n words said trips h next e = subst (λ l. IsTrace (aside_script words) l (aside_left n)) (sym (map-more trip_call trips (trip at said r)))
      (next_trace (aside_script words) (trip_calls trips) (aside_left o) (aside_left n) (trip_call (trip at said r)) soon h.trace next (e ∙ same (aside_left o))) where
        same : (q : Script) → script_after q r ≡ after_call q (trip_call (trip at said r))
        same Over = refl
        same Off = refl
        same (Say w go) = refl

  pub aside_heard : (n : AsideCore) (result : Result ⊤ ReplyFault) → AsideHeard n r result → HeardWork (work.Beside o) (work.Beside n) at r result
  aside_heard n result h = record { taken = taken result h; traced = traced } where
    taken : (result : Result ⊤ ReplyFault) → AsideHeard n r result → WorkTaken (work.Beside o) (work.Beside n) r result
    taken (Ok u) h = (kept_over r n.state h.1 ∙ sym (listed false h.0), λ off. off_over (sym off ∙ kept_over r n.state h.1), λ over. kept_end r n.state h.1)
    taken (Err (Refused given)) h = (ap (λ q. asides.state_left q) h.2 ∙ sym (listed true h.0), ap (λ q. asides.state_left q) h.2, h.1)
    taken (Err Memory) h = tt

    on : (words said : Words) (trips : List RoundTrip) → HasAside words trips o → next_words (aside_left o) at ≡ Some said → (result : Result ⊤ ReplyFault) → AsideHeard n r result → HasHeardOn (λ t. HasAside words t n) trips (trip at said r) result
    on words said trips had next (Ok u) h = record { trace = aside_trace n words said trips had next (kept_over r n.state h.1 ∙ sym (listed false h.0)); tells = kept_tells r (trip at said r) (trips ++ trip at said r ∷ []) refl (ap (λ l. l ++ trip at said r ∷ []) (first words trips had)) n.state h.1 }
    on words said trips had next (Err (Refused given)) h = record { trace = aside_trace n words said trips had next (ap (λ q. asides.state_left q) h.2 ∙ sym (listed true h.0)); tells = subst (asides.StateTells (trips ++ trip at said r ∷ [])) (sym h.2) tt }
    on words said trips had next (Err Memory) h = tt

    traced : (c : ClientCounts) (errand : Errand) (trips : List RoundTrip) (words : Words) → WorkHad c errand trips (work.Beside o) → next_words (work_left (work.Beside o)) at ≡ Some words → HasHeardOn (λ t. WorkHad c errand t (work.Beside n)) trips (trip at words r) result
    traced c (Planned plan) trips words had next = absurd had
    traced c (Aside words2) trips words had next = on words2 words trips had next result h

-- ---- the client

live_is : (s : ClientCore) → s.spent ≡ false → client_left s ≡ work_left s.work
live_is s e = ap (λ b. live_left b s.work) e

ended_is : (s : ClientCore) → s.spent ≡ false → client_ended s ≡ work_end s.work
ended_is s e = ap (λ b. live_end b s.work) e

-- a client whose reply was taken
pub heard_taken : (old new : ClientCore) (at : ℕ) (r : Reply) (result : Result ⊤ ReplyFault) → old.spent ≡ false → ClientHeard old new at r result → HasTakenReply client_left (λ (s : ClientCore). s.spent) old new r result
heard_taken old new at r (Ok u) live h = (live_is new h.spent_is ∙ h.work_is.taken.0 ∙ ap (λ q. script_after q r) (sym (live_is old live)), λ off. h.work_is.taken.1 (sym (live_is new h.spent_is) ∙ off))
heard_taken old new at r (Err (Refused given)) live h = (live_is new h.spent_is ∙ h.work_is.taken.0 ∙ ap (λ q. script_after q r) (sym (live_is old live)), live_is new h.spent_is ∙ h.work_is.taken.1, h.work_is.taken.2, h.spent_is)
heard_taken old new at r (Err Memory) live h = h.spent_is

pub heard_end : (old new : ClientCore) (at : ℕ) (r : Reply) (result : Result ⊤ ReplyFault) → ClientHeard old new at r result → OnOk result (client_left new ≡ Over → IsSome (client_ended new))
heard_end old new at r (Ok u) h = λ over. subst IsSome (sym (ended_is new h.spent_is)) (h.work_is.taken.2 (sym (live_is new h.spent_is) ∙ over))
heard_end old new at r (Err f) h = tt

pub heard_had : (old new : ClientCore) (at : ℕ) (r : Reply) (result : Result ⊤ ReplyFault) → ClientHeard old new at r result
    → (c : ClientCounts) (errand : Errand) (trips : List RoundTrip) (words : Words) → ClientHad old c errand trips → next_words (client_left old) at ≡ Some words → HasHeardOn (ClientHad new c errand) trips (trip at words r) result
heard_had old new at r result h c errand trips words had next = by result h.spent_is (h.work_is.traced c errand trips words had.had (ap (λ q. next_words q at) (sym (live_is old had.live)) ∙ next)) where
  by : (result : Result ⊤ ReplyFault) → new.spent ≡ lacked result → HasHeardOn (λ t. WorkHad c errand t new.work) trips (trip at words r) result → HasHeardOn (ClientHad new c errand) trips (trip at words r) result
  by (Ok u) e g = record { live = e; lawful = had.lawful; had = g }
  by (Err (Refused given)) e g = record { live = e; lawful = had.lawful; had = g }
  by (Err Memory) e g = tt

-- ---- ends

-- the end of a core tells of its calls
core_tells : {S E : Type 0} (K : E → BlockEnd) (P : BlockEnd → Type 0) (had : List Call → S → Type 0) (tell : List Call → E → Type 0) (calls : List Call) → ((e : E) → tell calls e → P (K e)) → (q : CoreState S E) → StateTells had tell calls q → IfSome (option_map K (state_end q)) P
core_tells K P had tell calls f (core.Saying stage) t = tt
core_tells K P had tell calls f (core.Over None) t = tt
core_tells K P had tell calls f (core.Over (Some e)) t = f e t
core_tells K P had tell calls f core.Off t = tt
core_tells K P had tell calls f core.Spent t = tt

-- what the end of a block tells, of a plan of its kind
abbrev PlanTold : Plan → List Call → BlockEnd → Type 0
PlanTold plan calls e = (plan_kind plan ≡ end_kind e) × TellsPlan plan calls e

left_tells : (s p : ℕ) (plan : Plan) (calls : List Call) (l : BlockLeft) → LeftHad s p plan calls l → IfSome (left_end l) (PlanTold plan calls)
left_tells s p plan calls left.Over h = tt
left_tells s p plan calls (left.Declare c) h = core_tells end.Declare (PlanTold plan calls) (DeclareHad plan) (DeclareTells plan) calls (λ e t. (h.0, t)) c.value.state h.1.tells
left_tells s p plan calls (left.Publish c) h = core_tells end.Publish (PlanTold plan calls) (PublishHad plan) (TellsPublish plan) calls (λ e t. (h.0, t)) c.value.state h.1.tells
left_tells s p plan calls (left.Pop c) h = core_tells end.Pop (PlanTold plan calls) (PopsHad plan) (PopTells plan) calls (λ e t. (h.0, t)) c.value.state h.1.tells
left_tells s p plan calls (left.End c) h = core_tells end.End (PlanTold plan calls) (EndHad plan) (EndTells_ plan) calls (λ e t. (h.0, t)) c.value.state h.1.tells
left_tells s p plan calls (left.Return c) h = core_tells end.Return (PlanTold plan calls) (ReturnHad plan) (TellsReturn plan) calls (λ e t. (h.0, t)) c.value.state h.1.tells
left_tells s p plan calls (left.Pass c) h = core_tells end.Pass (PlanTold plan calls) (PassesHad plan) (PassTells plan) calls (λ e t. (h.0, t)) c.value.state h.1.tells

aside_tells : (words : Words) (trips : List RoundTrip) (q : AsideState) → asides.StateTells trips q → IfSome (asides.state_end q) (TellsOfErrand (Aside words) trips)
aside_tells words trips (aside.Saying command) t = tt
aside_tells words trips (aside.Over None) t = tt
aside_tells words trips (aside.Over (Some told)) t = (refl, t)
aside_tells words trips aside.Off t = tt

work_tells : (c : ClientCounts) (errand : Errand) (trips : List RoundTrip) (w : Work) → WorkHad c errand trips w → IfSome (work_end w) (TellsOfErrand errand trips)
work_tells c (Planned plan) trips (work.Block l) h = left_tells c.seed c.passes plan (trip_calls trips) l h
work_tells c (Planned plan) trips (work.Beside a) h = absurd h
work_tells c (Aside words) trips (work.Block l) h = absurd h
work_tells c (Aside words) trips (work.Beside a) h = aside_tells words trips a.state h.tells

-- what a client tells as its end is what its round trips show
pub client_tells : (s : ClientCore) (c : ClientCounts) (errand : Errand) (trips : List RoundTrip) → ClientHad s c errand trips → IfSome (client_ended s) (TellsOfErrand errand trips)
client_tells s c errand trips h = subst (λ o. IfSome o (TellsOfErrand errand trips)) (sym (ended_is s h.live)) (work_tells c errand trips s.work h.had)
