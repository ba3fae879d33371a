-- Round trips one after the other.
use Rattle.std.proofs.Common.{◌≡◌, ◌⊎◌, Bool, true, false, Result, Ok, Err, IfErr, IsErrAnd, inl, inr, ℕ, ◌<◌, ◌≤◌, ◌^◌, arith, List, [], ◌∷◌, ◌++◌, map, Option, None, Some, refl, sym, subst, ap, ◌∙◌, append_assoc}
use Rattle.std.proofs.lemmas.List.{append-nil}
use Rattle.std.proofs.lemmas.Result.{err_from_is_err_and}
use Rattle.std.specs.Prelude.{⊤}
use Rattle.store_model.specs.Words.{Words}
use Rattle.store_model.specs.declared.reply.Reply.{Reply}
use Rattle.command_blocks.specs.Scripts.{Script, Over, Off, Say, next_words, after_call}
use Rattle.block_laws.specs.Traces.{IsTrace}
use Rattle.block_laws.proofs.Traces.{first_trace, next_trace}
use Rattle.block_core.specs.declared.fault.ReplyFault.{ReplyFault}
use Rattle.block_core.specs.declared.fault.ReplyFault.TheVariants as taken
use Rattle.desks.specs.Deeds.{Deed, DidAsk}
use Rattle.desks.specs.Faults.{HasShown, IsFaultOf, IsNotEnded, IsOpen, IsTimely, first_fault}
use Rattle.desks.specs.declared.desk.DeskFault.TheVariants as desk_
use Rattle.links.specs.Causes.{Rose}
use Rattle.desks.specs.declared.desk.DeskFault.{DeskFault}
use Rattle.sessions.specs.Talks.{IsClocked}
use Rattle.steps.specs.declared.counts.ClientCounts.{ClientCounts}
use Rattle.steps.specs.Errands.{Errand}
use Rattle.steps.specs.Ends.{TellsOfErrand}
use Rattle.steps.specs.Errands.{HasSaidOf, errand_script}
use Rattle.steps.specs.Goings.{HasBegun, HasTakenReply, script_after}
use Rattle.steps.specs.Trips.{RoundTrip, trip, trip_call, trip_calls}
use Rattle.steps.specs.declared.begun.BeginFault.{BeginFault}
use Rattle.steps.specs.declared.ended.BlockEnd.{BlockEnd}
use Rattle.steps.specs.declared.begun.BeginFault.TheVariants as begin_
use Rattle.block_runs.specs.Faults.{desk_fault, begin_fault, reply_fault}
use Rattle.block_runs.specs.Runs.{AreClocked, IsDeskFault, HasHeardNext, HasRest, HasRunBlock, IsBlockTo, IsRestTo, HasSaid, HasSaidNext, HadMore, WasAsked, trip_deed, trip_deeds}
use Rattle.block_runs.specs.declared.fault.BlockFault.{BlockFault}
use Rattle.block_runs.specs.declared.fault.BlockFault.TheVariants as fault_

-- one more at the end of a list that is mapped
map-more : {A B : Type 0} (f : A → B) (xs : List A) (y : A) → map f (xs ++ y ∷ []) ≡ map f xs ++ f y ∷ []
map-more f [] y = refl
map-more f (x ∷ xs) y = ap (λ l. f x ∷ l) (map-more f xs y)

clocked-more : (gives : ℕ → Type 0) (trips : List RoundTrip) (t : RoundTrip) → AreClocked gives trips → IsClocked gives t.at → AreClocked gives (trips ++ t ∷ [])
clocked-more gives [] t a b = (b, tt)
clocked-more gives (x ∷ xs) t a b = (a.0, clocked-more gives xs t a.1 b)

-- the words and the moment of a call don't matter
after_same : (q : Script) (t : RoundTrip) → script_after q t.reply ≡ after_call q (trip_call t)
after_same Over t = refl
after_same Off t = refl
after_same (Say w go) t = refl

-- nothing is next of what isn't off: it is over
pub is_over : (p : Script) (at : ℕ) → next_words p at ≡ None → (p ≡ Off → ⊥) → p ≡ Over
is_over Over at n on = refl
is_over Off at n on = absurd (on refl)
is_over (Say w go) at n on = cc

module _ {D : Type 0} (goes : D → List Deed → D → Type 0) (joins : (s t u : D) (l m : List Deed) → goes s l t → goes t m u → goes s (l ++ m) u) (gives : ℕ → Type 0) where
  -- one more round trip
  pub said_more : (d e f : D) (p q : Script) (trips : List RoundTrip) (at : ℕ) (words : Words) (reply : Reply) → HasSaid goes gives d e p trips q → WasAsked goes e f q at words reply → at < 2 ^ 40 → IsClocked gives at
      → HasSaid goes gives d f p (trips ++ trip at words reply ∷ []) (script_after q reply)
  said_more d e f p q trips at words reply h a soon given = let t = trip at words reply in record {
    went = subst (λ l. goes d l f) (sym (map-more trip_deed trips t)) (joins d e f (trip_deeds trips) (DidAsk at words reply ∷ []) h.went a.went);
    trace = subst (λ l. IsTrace p l (script_after q reply)) (sym (map-more trip_call trips t)) (next_trace p (trip_calls trips) q (script_after q reply) (trip_call t) soon h.trace a.next (after_same q t));
    given = clocked-more gives trips t h.given given;
  }

  -- nothing more
  pub said_none : (d e f : D) (p q : Script) (trips : List RoundTrip) → HasSaid goes gives d e p trips q → goes e [] f → HasSaid goes gives d f p trips q
  said_none d e f p q trips h go = record {
    went = subst (λ l. goes d l f) (append-nil (trip_deeds trips)) (joins d e f (trip_deeds trips) [] h.went go);
    trace = h.trace;
    given = h.given;
  }

-- before the first round trip
pub said_first : {D : Type 0} (goes : D → List Deed → D → Type 0) (stays : (s : D) → goes s [] s) (gives : ℕ → Type 0) (d : D) (p : Script) → HasSaid goes gives d d p [] p
said_first goes stays gives d p = record { went = stays d; trace = first_trace p; given = tt }

-- what was had goes on
pub had_more : {T : Type 0} (had : T → ClientCounts → Errand → List RoundTrip → Type 0) (s t u : T) (l m : List RoundTrip) → HadMore had s t l → HadMore had t u m → HadMore had s u (l ++ m)
had_more had s t u l m h one c e k old = subst (had u c e) (append_assoc k l m) (one c e (k ++ l) (h c e k old))

pub had_first : {T : Type 0} (had : T → ClientCounts → Errand → List RoundTrip → Type 0) (s : T) → HadMore had s s []
had_first had s c e k old = subst (had s c e) (sym (append-nil k)) old

-- ---- the ends of calls

-- the exit of a fault
at_fault : {X : Type 0} (P : Result X BlockFault → Type 0) (r : Result X BlockFault) (f : BlockFault) → IsErrAnd r (λ x. x ≡ f) → P (Err f) → P r
at_fault P r f is h = let p = err_from_is_err_and r is in subst P (sym (p.1 ∙ ap (λ x. Err x) p.2)) h

-- a client didn't take a reply
pub refused_heard : {T : Type 0} (left : T → Script) (spent : T → Bool) (had : T → ClientCounts → Errand → List RoundTrip → Type 0) (ended : T → Option BlockEnd)
    (at : ℕ) (steps steps2 : T) (reply : Reply) (f : ReplyFault) (result : Result Bool BlockFault) → IsErrAnd result (λ x. x ≡ reply_fault f)
    → HasTakenReply left spent steps steps2 reply (Err f) → HasHeardNext left had ended at steps steps2 reply result
refused_heard left spent had ended at steps steps2 reply (taken.Refused given) result is h =
    at_fault (HasHeardNext left had ended at steps steps2 reply) result (fault_.Refused given) is
    (h.2, ap (λ r. script_after (left steps) r) h.2 ∙ sym h.0 ∙ h.1, h.1)
refused_heard left spent had ended at steps steps2 reply taken.Memory result is h =
    at_fault (HasHeardNext left had ended at steps steps2 reply) result fault_.Memory is tt

-- a command was asked, and its reply heard
pub heard_next : {D T : Type 0} (goes : D → List Deed → D → Type 0) (fault : D → Option DeskFault) (stopped : D → Bool) (left : T → Script) (had : T → ClientCounts → Errand → List RoundTrip → Type 0) (ended : T → Option BlockEnd)
    (at : ℕ) (desk desk2 : D) (steps steps2 : T) (words : Words) (reply : Reply) (result : Result Bool BlockFault)
    → WasAsked goes desk desk2 (left steps) at words reply → IsOpen (fault desk2) (stopped desk2) → HasHeardNext left had ended at steps steps2 reply result
    → HasSaidNext goes fault stopped left had ended at desk desk2 steps steps2 result
heard_next goes fault stopped left had ended at desk desk2 steps steps2 words reply (Ok true) asked is_open h = (words, reply, asked, is_open, h words asked.next)
heard_next goes fault stopped left had ended at desk desk2 steps steps2 words reply (Ok false) asked is_open h = absurd h
heard_next goes fault stopped left had ended at desk desk2 steps steps2 words reply (Err (fault_.Begin f)) asked is_open h = absurd h
heard_next goes fault stopped left had ended at desk desk2 steps steps2 words reply (Err (fault_.Desk f)) asked is_open h = absurd h
heard_next goes fault stopped left had ended at desk desk2 steps steps2 words reply (Err (fault_.Refused given)) asked is_open h =
    (words, subst (λ r. WasAsked goes desk desk2 (left steps) at words r) (sym h.0) asked, is_open, h.1, h.2)
heard_next goes fault stopped left had ended at desk desk2 steps steps2 words reply (Err fault_.Memory) asked is_open h = inl (is_open, inr (words, reply, asked))

-- the rest of a block stops at a fault of its next command
pub rest_stops : {D T : Type 0} (goes : D → List Deed → D → Type 0) (joins : (s t u : D) (l m : List Deed) → goes s l t → goes t m u → goes s (l ++ m) u) (gives : ℕ → Type 0)
    (fault : D → Option DeskFault) (stopped : D → Bool) (left : T → Script) (had : T → ClientCounts → Errand → List RoundTrip → Type 0) (ended : T → Option BlockEnd)
    (desk mid desk2 : D) (steps midst steps2 : T) (at : ℕ) (trips : List RoundTrip) (f : BlockFault) (result : Result ⊤ BlockFault) → IsErrAnd result (λ x. x ≡ f)
    → at < 2 ^ 40 → IsClocked gives at → HasSaid goes gives desk mid (left steps) trips (left midst) → (left midst ≡ Off → ⊥)
    → HasSaidNext goes fault stopped left had ended at mid desk2 midst steps2 (Err f)
    → HasRest goes fault stopped left had ended gives desk desk2 steps steps2 result
rest_stops {D} {T} goes joins gives fault stopped left had ended desk mid desk2 steps midst steps2 at trips f result is soon given h on next =
    at_fault (HasRest goes fault stopped left had ended gives desk desk2 steps steps2) result f is (by f next) where
      asked : (words : Words) (reply : Reply) → WasAsked goes mid desk2 (left midst) at words reply → HasSaid goes gives desk desk2 (left steps) (trips ++ trip at words reply ∷ []) (script_after (left midst) reply)
      asked words reply a = said_more goes joins gives desk mid desk2 (left steps) (left midst) trips at words reply h a soon given

      lacked : IsOpen (fault desk2) (stopped desk2) → goes mid [] desk2 ⊎ ((words : Words) × (reply : Reply) × WasAsked goes mid desk2 (left midst) at words reply) → HasRest goes fault stopped left had ended gives desk desk2 steps steps2 (Err fault_.Memory)
      lacked is_open (inl go) = record { trips = trips; rest = left midst; said = said_none goes joins gives desk mid desk2 (left steps) (left midst) trips h go; come = inl is_open; more = tt }
      lacked is_open (inr a) = record { trips = trips ++ trip at a.0 a.1 ∷ []; rest = script_after (left midst) a.1; said = asked a.0 a.1 a.2; come = inl is_open; more = tt }

      by : (f : BlockFault) → HasSaidNext goes fault stopped left had ended at mid desk2 midst steps2 (Err f) → HasRest goes fault stopped left had ended gives desk desk2 steps steps2 (Err f)
      by (fault_.Begin b) n = absurd n
      by (fault_.Desk d) n = record { trips = trips; rest = left midst; said = said_none goes joins gives desk mid desk2 (left steps) (left midst) trips h n.2; come = (n.3, ap left n.4, (at, n.0, n.1)); more = tt }
      by (fault_.Refused r) n = record {
        trips = trips ++ trip at n.0 r ∷ [];
        rest = script_after (left midst) r;
        said = asked n.0 r n.1;
        come = (n.2, n.4, n.3, (trips, trip at n.0 r, refl, refl));
        more = tt;
      }
      by fault_.Memory (inl w) = lacked w.0 w.1
      by fault_.Memory (inr n) = record { trips = trips; rest = left midst; said = said_none goes joins gives desk mid desk2 (left steps) (left midst) trips h n.2; come = inr (n.3, ap left n.4, (at, n.0, n.1)); more = tt }

-- one more round trip of the rest of a block
pub said_on : {D T : Type 0} (goes : D → List Deed → D → Type 0) (joins : (s t u : D) (l m : List Deed) → goes s l t → goes t m u → goes s (l ++ m) u) (gives : ℕ → Type 0) (left : T → Script)
    (desk mid desk2 : D) (steps midst steps2 : T) (at : ℕ) (trips : List RoundTrip) (words : Words) (reply : Reply) → at < 2 ^ 40 → IsClocked gives at → HasSaid goes gives desk mid (left steps) trips (left midst)
    → WasAsked goes mid desk2 (left midst) at words reply → left steps2 ≡ script_after (left midst) reply → HasSaid goes gives desk desk2 (left steps) (trips ++ trip at words reply ∷ []) (left steps2)
said_on goes joins gives left desk mid desk2 steps midst steps2 at trips words reply soon given h asked e =
    subst (HasSaid goes gives desk desk2 (left steps) (trips ++ trip at words reply ∷ [])) (sym e) (said_more goes joins gives desk mid desk2 (left steps) (left midst) trips at words reply h asked soon given)

-- a block that was begun, said to its end, and told how it ended
pub run_whole : {D T : Type 0} (goes : D → List Deed → D → Type 0) (gives : ℕ → Type 0) (fault : D → Option DeskFault) (stopped : D → Bool) (client : T → ClientCounts) (left : T → Script) (spent : T → Bool) (had : T → ClientCounts → Errand → List RoundTrip → Type 0) (ended : T → Option BlockEnd)
    (says : (s : T) (c : ClientCounts) (errand : Errand) (trips : List RoundTrip) → had s c errand trips → HasSaidOf c errand trips (left s))
    (desk desk2 : D) (steps begun said told : T) (errand : Result Errand BeginFault) (end : BlockEnd)
    → HasBegun client left had spent steps begun errand (Ok tt) → HasRest goes fault stopped left had ended gives desk desk2 begun said (Ok tt)
    → client said ≡ client begun → client told ≡ client said → left told ≡ left said
    → ((c : ClientCounts) (errand : Errand) (trips : List RoundTrip) → had said c errand trips → TellsOfErrand errand trips end)
    → HasRunBlock goes fault stopped client left gives desk desk2 steps told errand (Ok end)
run_whole goes gives fault stopped client left spent had ended says desk desk2 steps begun said told errand end b r c1 c2 l tells =
    subst (λ e. HasRunBlock goes fault stopped client left gives desk desk2 steps told e (Ok end)) (sym b.1) (record {
      trips = r.trips;
      rest = r.rest;
      lawful = λ _. (says begun (client steps) b.0 [] b.2.had_none).lawful;
      said = subst (λ p. HasSaid goes gives desk desk2 p r.trips r.rest) b.2.left_is r.said;
      come = ((says begun (client steps) b.0 [] b.2.had_none).lawful, r.come.0, c2 ∙ c1 ∙ b.2.client_is, l ∙ r.come.1, r.come.2, tells (client steps) b.0 r.trips (r.more (client steps) b.0 [] b.2.had_none));
    })

-- a block that was begun, and not said to its end
pub run_stops : {D T : Type 0} (goes : D → List Deed → D → Type 0) (gives : ℕ → Type 0) (fault : D → Option DeskFault) (stopped : D → Bool) (client : T → ClientCounts) (left : T → Script) (spent : T → Bool) (had : T → ClientCounts → Errand → List RoundTrip → Type 0) (ended : T → Option BlockEnd)
    (says : (s : T) (c : ClientCounts) (errand : Errand) (trips : List RoundTrip) → had s c errand trips → HasSaidOf c errand trips (left s))
    (desk desk2 : D) (steps begun said : T) (errand : Result Errand BeginFault) (f : BlockFault) (result : Result BlockEnd BlockFault) → IsErrAnd result (λ x. x ≡ f)
    → HasBegun client left had spent steps begun errand (Ok tt) → HasRest goes fault stopped left had ended gives desk desk2 begun said (Err f) → client said ≡ client begun
    → HasRunBlock goes fault stopped client left gives desk desk2 steps said errand result
run_stops {D} {T} goes gives fault stopped client left spent had ended says desk desk2 steps begun said errand f result is b r same =
    at_fault (HasRunBlock goes fault stopped client left gives desk desk2 steps said errand) result f is
    (subst (λ e. HasRunBlock goes fault stopped client left gives desk desk2 steps said e (Err f)) (sym b.1) (record {
      trips = r.trips;
      rest = r.rest;
      lawful = λ _. (says begun (client steps) b.0 [] b.2.had_none).lawful;
      said = subst (λ p. HasSaid goes gives desk desk2 p r.trips r.rest) b.2.left_is r.said;
      come = by f r.come;
    })) where
      by : (f : BlockFault) → IsRestTo (fault desk2) (stopped desk2) left ended said r.trips r.rest (Err f) → IsBlockTo (fault desk2) (stopped desk2) client left said (client steps) b.0 r.trips r.rest (Err f)
      by (fault_.Begin g) n = n
      by (fault_.Desk d) n = (same ∙ b.2.client_is, n.0, n.1, n.2)
      by (fault_.Refused given) n = (same ∙ b.2.client_is, n.0, n.1, n.2, n.3)
      by fault_.Memory (inl o) = inl o
      by fault_.Memory (inr w) = inr (same ∙ b.2.client_is, w.0, w.1, w.2)

-- a block that wasn't begun
pub run_not_begun : {D T : Type 0} (goes : D → List Deed → D → Type 0) (stays : (s : D) → goes s [] s) (gives : ℕ → Type 0) (fault : D → Option DeskFault) (stopped : D → Bool) (client : T → ClientCounts) (left : T → Script) (spent : T → Bool) (had : T → ClientCounts → Errand → List RoundTrip → Type 0)
    (desk : D) (steps new : T) (errand : Result Errand BeginFault) (f : BeginFault) (result : Result BlockEnd BlockFault) → IsErrAnd result (λ x. x ≡ begin_fault f) → IsOpen (fault desk) (stopped desk)
    → HasBegun client left had spent steps new errand (Err f) → HasRunBlock goes fault stopped client left gives desk desk steps new errand result
run_not_begun {D} {T} goes stays gives fault stopped client left spent had desk steps new errand f result is is_open h = at_fault (Run errand) result (begin_fault f) is (by f h) where
  Run : Result Errand BeginFault → Result BlockEnd BlockFault → Type 0
  Run e r = HasRunBlock goes fault stopped client left gives desk desk steps new e r

  not : (f : BeginFault) → errand ≡ Err f → new ≡ steps → Run errand (Err (fault_.Begin f))
  not f e s = subst (λ x. Run x (Err (fault_.Begin f))) (sym e) (refl, refl, s)

  lacked : (e : Result Errand BeginFault) → Run e (Err fault_.Memory)
  lacked (Ok x) = record { trips = []; rest = errand_script (client steps) x; lawful = λ no. absurd (no refl); said = said_first goes stays gives desk (errand_script (client steps) x); come = inl is_open }
  lacked (Err g) = refl

  by : (f : BeginFault) → HasBegun client left had spent steps new errand (Err f) → Run errand (Err (begin_fault f))
  by begin_.NoTag h = not begin_.NoTag h.0 h.1
  by (begin_.Name g) h = not (begin_.Name g) h.0 h.1
  by (begin_.Draft g) h = not (begin_.Draft g) h.0 h.1
  by begin_.BadNeutral h = not begin_.BadNeutral h.0 h.1
  by begin_.Memory h = lacked errand

-- ---- faults of desks

-- the desk didn't take the next command
pub desk_next : {D T : Type 0} (goes : D → List Deed → D → Type 0) (fault : D → Option DeskFault) (stopped : D → Bool) (left : T → Script) (had : T → ClientCounts → Errand → List RoundTrip → Type 0) (ended : T → Option BlockEnd)
    (at : ℕ) (desk desk2 : D) (steps : T) (words : Words) (f : DeskFault) (result : Result Bool BlockFault) → IsErrAnd result (λ x. x ≡ desk_fault f) → next_words (left steps) at ≡ Some words → goes desk [] desk2
    → IsOpen (fault desk) (stopped desk) → HasShown {T = Reply} (fault desk) (stopped desk) (fault desk2) (stopped desk2) (Err f) → HasSaidNext goes fault stopped left had ended at desk desk2 steps steps result
desk_next goes fault stopped left had ended at desk desk2 steps words f result is next go is_open shown =
    at_fault (HasSaidNext goes fault stopped left had ended at desk desk2 steps steps) result (desk_fault f) is (by f (shown.1 ∙ ap (λ o. first_fault o f) is_open.no_fault)) where
      by : (g : DeskFault) → fault desk2 ≡ Some g → HasSaidNext goes fault stopped left had ended at desk desk2 steps steps (Err (desk_fault g))
      by desk_.Link e = (words, next, go, e, refl)
      by (desk_.Wire x y) e = (words, next, go, e, refl)
      by desk_.Flood e = (words, next, go, e, refl)
      by (desk_.Full x y) e = (words, next, go, e, refl)
      by desk_.Closed e = (words, next, go, e, refl)
      by desk_.Ended e = (words, next, go, e, refl)
      by desk_.Memory e = inr (words, next, go, e, refl)

-- an open desk's fault isn't that it wasn't open
timely_open : (fault : Option DeskFault) (stopped : Bool) (f : DeskFault) → IsOpen fault stopped → IsTimely fault stopped f → IsNotEnded f
timely_open fault stopped f o t = subst (λ s. IsTimely None s f) o.no_stop (subst (λ x. IsTimely x stopped f) o.no_fault t)

pub desk_kind : {X : Type 0} (remote shared : Bool) (a b c d : ℕ) (fault : Option DeskFault) (stopped : Bool) (f : DeskFault) (result : Result X BlockFault) → IsErrAnd result (λ x. x ≡ desk_fault f) → IsFaultOf remote shared a b c d f → IsOpen fault stopped → IsTimely fault stopped f → IfErr result (IsDeskFault remote shared a b c d)
desk_kind remote shared a b c d fault stopped f result is kind o t = at_fault (λ r. IfErr r (IsDeskFault remote shared a b c d)) result (desk_fault f) is (by f kind (timely_open fault stopped f o t)) where
  by : (g : DeskFault) → IsFaultOf remote shared a b c d g → IsNotEnded g → IsDeskFault remote shared a b c d (desk_fault g)
  by desk_.Link k n = (k, n, tt)
  by (desk_.Wire x y) k n = (k, n, tt)
  by desk_.Flood k n = (k, n, tt)
  by (desk_.Full x y) k n = (k, n, tt)
  by desk_.Closed k n = (k, n, tt)
  by desk_.Ended k n = (k, n, tt)
  by desk_.Memory k n = tt

-- a client's fault is none of the desk
pub heard_kind : {T : Type 0} (remote shared : Bool) (faults faults2 ends ends2 : ℕ) (left : T → Script) (had : T → ClientCounts → Errand → List RoundTrip → Type 0) (ended : T → Option BlockEnd)
    (at : ℕ) (steps steps2 : T) (reply : Reply) (result : Result Bool BlockFault) → HasHeardNext left had ended at steps steps2 reply result → IfErr result (IsDeskFault remote shared faults faults2 ends ends2)
heard_kind remote shared faults faults2 ends ends2 left had ended at steps steps2 reply (Ok b) h = tt
heard_kind remote shared faults faults2 ends ends2 left had ended at steps steps2 reply (Err (fault_.Begin f)) h = tt
heard_kind remote shared faults faults2 ends ends2 left had ended at steps steps2 reply (Err (fault_.Desk f)) h = absurd h
heard_kind remote shared faults faults2 ends ends2 left had ended at steps steps2 reply (Err (fault_.Refused given)) h = tt
heard_kind remote shared faults faults2 ends ends2 left had ended at steps steps2 reply (Err fault_.Memory) h = tt

pub begun_kind : {X : Type 0} (remote shared : Bool) (a b c d : ℕ) (f : BeginFault) (result : Result X BlockFault) → IsErrAnd result (λ x. x ≡ begin_fault f) → IfErr result (IsDeskFault remote shared a b c d)
begun_kind {X} remote shared a b c d f result is = at_fault (λ r. IfErr r (IsDeskFault remote shared a b c d)) result (begin_fault f) is (by f) where
  by : (f : BeginFault) → IsDeskFault remote shared a b c d (begin_fault f)
  by begin_.NoTag = tt
  by (begin_.Name g) = tt
  by (begin_.Draft g) = tt
  by begin_.BadNeutral = tt
  by begin_.Memory = tt

-- a fault handed on is of its kind
pub handed_kind : {X : Type 0} (remote shared : Bool) (a b c d : ℕ) (f : BlockFault) (result : Result X BlockFault) → IsErrAnd result (λ x. x ≡ f) → IsDeskFault remote shared a b c d f → IfErr result (IsDeskFault remote shared a b c d)
handed_kind remote shared a b c d f result is kind = at_fault (λ r. IfErr r (IsDeskFault remote shared a b c d)) result f is kind

-- a count that rose later rose
rose_before : (a b c : ℕ) → a ≤ b → Rose b c → Rose a c
rose_before a b c l r = omega (arith, l, r)

-- counts before are lower
pub earlier_kind : (remote shared : Bool) (a b c d e f : ℕ) (g : BlockFault) → a ≤ b → d ≤ e → IsDeskFault remote shared b c e f g → IsDeskFault remote shared a c d f g
earlier_kind remote shared a b c d e f (fault_.Begin x) l m k = tt
earlier_kind remote shared a b c d e f (fault_.Refused x) l m k = tt
earlier_kind remote shared a b c d e f fault_.Memory l m k = tt
earlier_kind remote shared a b c d e f (fault_.Desk g) l m k = (by g k.0, k.1, k.2) where
  rose : Rose b c ⊎ Rose e f → Rose a c ⊎ Rose d f
  rose (inl x) = inl (rose_before a b c l x)
  rose (inr x) = inr (rose_before d e f m x)

  by : (g : DeskFault) → IsFaultOf remote shared b c e f g → IsFaultOf remote shared a c d f g
  by desk_.Link k = (k.0, rose k.1)
  by (desk_.Wire x y) k = k
  by desk_.Flood k = k
  by (desk_.Full x y) k = k
  by desk_.Closed k = k
  by desk_.Ended k = tt
  by desk_.Memory k = tt
