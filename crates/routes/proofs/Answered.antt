-- What an answer to a command of a publication leaves and tells.
use Rattle.std.proofs.Common.{◌≡◌, ◌<◌, ◌≤◌, ◌+◌, ℕ, ℤ, List, [], ◌∷◌, ◌++◌, length, drop, get_or, Option, None, Some, Ok, refl, sym, ap, ◌∙◌, subst, arith}
use Rattle.std.proofs.lemmas.List.{drop_all, drop_more}
use Rattle.block_core.specs.Stages.{TellsOn, progress_left}
use Rattle.block_core.specs.declared.stage.Progress.{Progress}
use Rattle.block_core.specs.declared.stage.Progress.TheVariants as progress
use Rattle.command_blocks.specs.Answers.{number_of}
use Rattle.command_blocks.specs.Calls.{Call}
use Rattle.command_blocks.specs.Scripts.{Plan, Declare, Undeclare, Publish, Pop, End, Return, Pass, Script, Over, Off, after_call, if_told, texts_of}
use Rattle.command_blocks.specs.Setting.{named_or_none}
use Rattle.envelope.specs.Envelopes.{envelope_at, parts_in}
use Rattle.queue_keys.specs.Names.{Bytes}
use Rattle.routes.specs.Bringing.{IsAsked, IsDirect, IsFurther, IsBrought, IsPushed, IsRouted}
use Rattle.routes.specs.Publishes.{AnsweredFirst, HasRead, IsProgress, EndsPublished, IsPushing, PublishHad, PublishingHad, TellsPublish, WereRead, publish_stage_left, publishing_left, queue_pushes, queues_of}
use Rattle.routes.specs.declared.brought.Brought.{Brought}
use Rattle.routes.specs.declared.brought.Brought.TheVariants as brought
use Rattle.routes.specs.declared.publish.PublishEnd.{PublishEnd}
use Rattle.routes.specs.declared.publish.PublishEnd.TheVariants.{Sent, NoQueue}
use Rattle.routes.specs.declared.route.Publishing.{Publishing}
use Rattle.routes.specs.declared.route.Publishing.TheVariants.{Direct, Asking, Pushing}
use Rattle.routes.specs.declared.route.Route.{Route}
use Rattle.routes.specs.declared.stage.PublishStage.{PublishStage}
use Rattle.routes.proofs.Direct.{direct_queue}
use Rattle.serde_json.specs.Data.{Data}
use Rattle.serde_json.specs.View.{view as data_of}

-- ---- what is left

-- what is left by what the answer brought
abbrev pub brought_left : Data → Brought → Script
brought_left d (brought.Next route) = publishing_left d (Pushing route)
brought_left d (brought.Over end) = Over
brought_left d brought.Refused = Off

routed_left : (d : Data) (queues : List Bytes) (h : Brought) → IsRouted (parts_in d).tag queues h → brought_left d h ≡ queue_pushes d queues
routed_left d queues (brought.Next route) (is, at) = ap (λ n. queue_pushes d (drop n route.queues)) at ∙ ap (queue_pushes d) is
routed_left d queues (brought.Over (Sent t count)) f = absurd f
routed_left d queues (brought.Over (NoQueue t)) (is, none) = sym (ap (queue_pushes d) none)
routed_left d queues brought.Refused f = absurd f

asked_left : (d : Data) (o : Option (List Bytes)) (h : Brought) → IsAsked (parts_in d) o h → brought_left d h ≡ if_told (λ ms. queue_pushes d (queues_of d ms)) o
asked_left d None h is = ap (brought_left d) is
asked_left d (Some ms) h is = routed_left d (queues_of d ms) h is

direct_left : (d : Data) (o : Option ℤ) (h : Brought) → IsDirect (parts_in d).tag o h → brought_left d h ≡ if_told (λ (z : ℤ). Over) o
direct_left d None h (t, same, is) = ap (brought_left d) is
direct_left d (Some z) h (t, same, is) = ap (brought_left d) is

-- of queues that are left, those after the first
further_left : (d : Data) (route : Route) (h : Brought) → IsFurther (parts_in d).tag route h → brought_left d h ≡ queue_pushes d (drop (route.place + 1) route.queues)
further_left d route (brought.Next new) (is, at) = ap (λ n. queue_pushes d (drop n new.queues)) at ∙ ap (λ qs. queue_pushes d (drop (route.place + 1) qs)) is
further_left d route (brought.Over (Sent t count)) (same, whole, all) =
    let enough : length route.queues ≤ route.place + 1 = omega (arith, whole, all) in
    sym (ap (queue_pushes d) (drop_all (route.place + 1) route.queues enough))
further_left d route (brought.Over (NoQueue t)) f = absurd f
further_left d route brought.Refused f = absurd f

pushed_left : (d : Data) (route : Route) (o : Option ℤ) (h : Brought) → IsPushed (parts_in d).tag route o h → brought_left d h ≡ if_told (λ (z : ℤ). queue_pushes d (drop (route.place + 1) route.queues)) o
pushed_left d route None h is = ap (brought_left d) is
pushed_left d route (Some z) h is = further_left d route h is

-- pushes to the queues that are left go on with those after the first
drop_next : (queues : List Bytes) (place : ℕ) → place < length queues → (q : Bytes) × (drop place queues ≡ q ∷ drop (place + 1) queues)
drop_next queues place lt = (get_or queues place [], drop_more queues place [] lt)

after_push : (d : Data) (route : Route) (x : Call) → after_call (publishing_left d (Pushing route)) x ≡ if_told (λ (z : ℤ). queue_pushes d (drop (route.place + 1) route.queues)) (number_of x.answer)
after_push d route x = let n = drop_next route.queues route.place route.next in ap (λ qs. after_call (queue_pushes d qs) x) n.1

pub brought_on : (d : Data) (next : Publishing) (x : Call) (h : Brought) → IsBrought d next x.answer h → brought_left d h ≡ after_call (publishing_left d next) x
brought_on d Direct x h is = direct_left d (number_of x.answer) h is
brought_on d Asking x h is = asked_left d (texts_of x.answer) h is
brought_on d (Pushing route) x h is = pushed_left d route (number_of x.answer) h is ∙ sym (after_push d route x)

came_left : (d : Data) (h : Brought) (stage : PublishStage) → IsPushing d h stage → publish_stage_left stage ≡ brought_left d h
came_left d (brought.Next route) stage (same, at) = ap (λ e. publishing_left e stage.next) same ∙ ap (publishing_left d) at
came_left d (brought.Over end) stage f = absurd f
came_left d brought.Refused stage f = absurd f

pub progress_is : (d : Data) (h : Brought) (p : Progress PublishStage PublishEnd) → IsProgress d h p → progress_left publish_stage_left p ≡ brought_left d h
progress_is d h (progress.Next stage) is = came_left d h stage is
progress_is d h (progress.Over end) is = sym (ap (brought_left d) is)
progress_is d h progress.Refused is = sym (ap (brought_left d) is)

-- ---- what is told

-- what an answer brought tells of the calls up to it
abbrev pub BroughtTells : Data → List Call → Brought → Type 0
BroughtTells d calls (brought.Next route) = PublishingHad d calls (Pushing route)
BroughtTells d calls (brought.Over end) = (ms : List Bytes) × HasRead d ms calls × EndsPublished d (queues_of d ms) end
BroughtTells d calls brought.Refused = Unit {0}

direct_tells : (d : Data) (calls : List Call) (o : Option ℤ) (h : Brought) → PublishingHad d calls Direct → (x : Call) → IsDirect (parts_in d).tag o h → BroughtTells d (calls ++ x ∷ []) h
direct_tells d calls None h had x (t, same, is) = subst (BroughtTells d (calls ++ x ∷ [])) (sym is) tt
direct_tells d calls (Some z) h (none, goes) x (t, same, is) =
    subst (BroughtTells d (calls ++ x ∷ [])) (sym is) ([], subst (λ (e : Bytes). WereRead (named_or_none e) [] (calls ++ x ∷ [])) (sym goes.exchange) refl, (same, sym (ap (λ (l : List Bytes). length l) (direct_queue d goes)), omega arith))

module _ (d : Data) (named : named_or_none (parts_in d).exchange ≡ Some (parts_in d).exchange) where
  read_so : (ms : List Bytes) (calls : List Call) → AnsweredFirst ms calls → HasRead d ms calls
  read_so ms calls h = subst (λ o. WereRead o ms calls) (sym named) h

  routed_tells : (calls : List Call) (ms : List Bytes) (h : Brought) → HasRead d ms calls → IsRouted (parts_in d).tag (queues_of d ms) h → BroughtTells d calls h
  routed_tells calls ms (brought.Next route) read (is, at) = (ms, read, named, is)
  routed_tells calls ms (brought.Over (Sent t count)) read f = absurd f
  routed_tells calls ms (brought.Over (NoQueue t)) read f = (ms, read, f)
  routed_tells calls ms brought.Refused read f = absurd f

  asked_tells : (calls : List Call) (x : Call) (h : Brought) (o : Option (List Bytes)) → calls ≡ [] → texts_of x.answer ≡ o → IsAsked (parts_in d) o h → BroughtTells d (calls ++ x ∷ []) h
  asked_tells calls x h None none told is = subst (BroughtTells d (calls ++ x ∷ [])) (sym is) tt
  asked_tells calls x h (Some ms) none told is = routed_tells (calls ++ x ∷ []) ms h (read_so ms (calls ++ x ∷ []) (subst (λ (l : List Call). AnsweredFirst ms (l ++ x ∷ [])) (sym none) told)) is

-- calls that read the members still do with one more
read_still : (o : Option Bytes) (ms : List Bytes) (calls : List Call) (x : Call) → WereRead o ms calls → WereRead o ms (calls ++ x ∷ [])
read_still None ms calls x h = h
read_still (Some e) ms [] x h = absurd h
read_still (Some e) ms (y ∷ ys) x h = h

further_tells : (d : Data) (calls : List Call) (route : Route) (x : Call) (h : Brought) → PublishingHad d calls (Pushing route) → IsFurther (parts_in d).tag route h → BroughtTells d (calls ++ x ∷ []) h
further_tells d calls route x (brought.Next new) (ms, read, named, queues) (is, at) = (ms, read_still (named_or_none (parts_in d).exchange) ms calls x read, named, is ∙ queues)
further_tells d calls route x (brought.Over (Sent t count)) (ms, read, named, queues) (same, whole, all) =
    (ms, read_still (named_or_none (parts_in d).exchange) ms calls x read, (same, whole ∙ ap (λ (l : List Bytes). length l) queues, omega (arith, all)))
further_tells d calls route x (brought.Over (NoQueue t)) had f = absurd f
further_tells d calls route x brought.Refused had f = absurd f

pushed_tells : (d : Data) (calls : List Call) (route : Route) (x : Call) (h : Brought) (o : Option ℤ) → PublishingHad d calls (Pushing route) → IsPushed (parts_in d).tag route o h → BroughtTells d (calls ++ x ∷ []) h
pushed_tells d calls route x h None had is = subst (BroughtTells d (calls ++ x ∷ [])) (sym is) tt
pushed_tells d calls route x h (Some z) had is = further_tells d calls route x h had is

brought_tells : (d : Data) (calls : List Call) (next : Publishing) (x : Call) (h : Brought) → PublishingHad d calls next → IsBrought d next x.answer h → BroughtTells d (calls ++ x ∷ []) h
brought_tells d calls Direct x h had is = direct_tells d calls (number_of x.answer) h had x is
brought_tells d calls Asking x h (none, named) is = asked_tells d named calls x h (texts_of x.answer) none refl is
brought_tells d calls (Pushing route) x h had is = pushed_tells d calls route x h (number_of x.answer) had is

came_tells : (v : Bytes) (d : Data) (calls : List Call) (h : Brought) (stage : PublishStage) → envelope_at v ≡ Ok d → BroughtTells d calls h → IsPushing d h stage → PublishHad (Publish v) calls stage
came_tells v d calls (brought.Next route) stage text tells (same, at) = (text ∙ sym (ap (λ e. Ok e) same), both (data_of stage.envelope) stage.next same at) where
  both : (e : Data) (next : Publishing) → e ≡ d → next ≡ Pushing route → PublishingHad e calls next
  both e next s n = subst (λ (y : Data). PublishingHad y calls next) (sym s) (subst (PublishingHad d calls) (sym n) tells)
came_tells v d calls (brought.Over end) stage text tells f = absurd f
came_tells v d calls brought.Refused stage text tells f = absurd f

progress_tells : (v : Bytes) (d : Data) (calls : List Call) (h : Brought) (p : Progress PublishStage PublishEnd) → envelope_at v ≡ Ok d → BroughtTells d calls h → IsProgress d h p
    → TellsOn (PublishHad (Publish v)) (TellsPublish (Publish v)) calls p
progress_tells v d calls h (progress.Next stage) text tells is = came_tells v d calls h stage text tells is
progress_tells v d calls h (progress.Over end) text tells is = let t : BroughtTells d calls (brought.Over end) = subst (BroughtTells d calls) is tells in (d, t.0, text, t.1, t.2)
progress_tells v d calls h progress.Refused text tells is = tt

-- an answer tells of the calls up to it
pub answered_tells : (plan : Plan) (calls : List Call) (x : Call) (stage : PublishStage) (h : Brought) (p : Progress PublishStage PublishEnd) → PublishHad plan calls stage
    → IsBrought (data_of stage.envelope) stage.next x.answer h → IsProgress (data_of stage.envelope) h p → TellsOn (PublishHad plan) (TellsPublish plan) (calls ++ x ∷ []) p
answered_tells (Publish v) calls x stage h p had is came = progress_tells v (data_of stage.envelope) (calls ++ x ∷ []) h p had.0 (brought_tells (data_of stage.envelope) calls stage.next x h had.1 is) came
answered_tells (Declare e r y q) calls x stage h p had is came = absurd had
answered_tells (Undeclare e r y q) calls x stage h p had is came = absurd had
answered_tells (Pop names) calls x stage h p had is came = absurd had
answered_tells (End t) calls x stage h p had is came = absurd had
answered_tells (Return side t) calls x stage h p had is came = absurd had
answered_tells (Pass v) calls x stage h p had is came = absurd had
