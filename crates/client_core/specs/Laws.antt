-- What holds of each client. Serves the proofs of code.
use Rattle.std.specs.Prelude.{◌≡◌, ℕ, Bool, true, false, refl, List, None, Some, option_map}
use Rattle.std.proofs.Common.{ap, sym, subst}
use Rattle.block_core.specs.Cores.{state_end, state_left}
use Rattle.block_core.specs.declared.block.CoreState.{CoreState}
use Rattle.block_core.specs.declared.block.CoreState.TheVariants as core
use Rattle.block_laws.specs.Traces.{IsTrace}
use Rattle.command_blocks.specs.Calls.{Call}
use Rattle.command_blocks.specs.EnvelopeTexts.{plain_setting}
use Rattle.command_blocks.specs.Scripts.{Plan, Script, Over, Off, script_of}
use Rattle.client_blocks.specs.Blocks.{script_left}
use Rattle.client_blocks.specs.declared.left.BlockLeft.{BlockLeft}
use Rattle.client_blocks.specs.declared.left.BlockLeft.TheVariants as left
use Rattle.passes.specs.Passes.{pass_stage_left}
use Rattle.returns.specs.Returns.{return_stage_left}
use Rattle.routes.specs.Declares.{declare_stage_left}
use Rattle.routes.specs.Publishes.{publish_stage_left}
use Rattle.unacked.specs.Ends.{end_stage_left}
use Rattle.unacked.specs.Pops.{pop_stage_left}
use Rattle.steps.specs.declared.counts.ClientCounts.{ClientCounts}
use Rattle.steps.specs.Errands.{Errand, Planned, Aside, HasSaidOf, errand_script}
use Rattle.steps.specs.Trips.{RoundTrip, trip_calls}
use Rattle.steps.specs.declared.ended.BlockEnd.{BlockEnd}
use Rattle.client_core.specs.Asides.{aside_end, aside_left}
use Rattle.client_core.specs.Lefts.{CoreHad, left_end}
use Rattle.client_core.specs.Works.{ClientHad, WorkHad, client_ended, client_left, live_end, live_left, work_end, work_left}
use Rattle.client_core.specs.declared.aside.AsideCore.{AsideCore}
use Rattle.client_core.specs.declared.aside.AsideState.{AsideState}
use Rattle.client_core.specs.declared.aside.AsideState.TheVariants as aside
use Rattle.client_core.specs.declared.client.ClientCore.{ClientCore}
use Rattle.client_core.specs.declared.work.Work.{Work}
use Rattle.client_core.specs.declared.work.Work.TheVariants as work

none_some : {A B : Type 0} {x : A} → None ≡ Some x → B
none_some e = absurd (cc e)

-- ---- what it had was said by the script

pub left_trace : (s p : ℕ) (plan : Plan) (calls : List Call) (l : BlockLeft) → CoreHad s p plan calls l → IsTrace (script_of plain_setting s p plan) calls (script_left l)
left_trace s p plan calls left.Over h = absurd h
left_trace s p plan calls (left.Declare c) h = h.trace
left_trace s p plan calls (left.Publish c) h = h.trace
left_trace s p plan calls (left.Pop c) h = h.trace
left_trace s p plan calls (left.End c) h = h.trace
left_trace s p plan calls (left.Return c) h = h.trace
left_trace s p plan calls (left.Pass c) h = h.trace

pub work_trace : (c : ClientCounts) (errand : Errand) (trips : List RoundTrip) (w : Work) → WorkHad c errand trips w → IsTrace (errand_script c errand) (trip_calls trips) (work_left w)
work_trace c (Planned plan) trips (work.Block l) h = left_trace c.seed c.passes plan (trip_calls trips) l h.1
work_trace c (Planned plan) trips (work.Beside a) h = absurd h
work_trace c (Aside words) trips (work.Block l) h = absurd h
work_trace c (Aside words) trips (work.Beside a) h = h.trace

pub client_says : (s : ClientCore) (c : ClientCounts) (errand : Errand) (trips : List RoundTrip) → ClientHad s c errand trips → HasSaidOf c errand trips (client_left s)
client_says s c errand trips h = record {
  lawful = h.lawful;
  trace = subst (λ b. IsTrace (errand_script c errand) (trip_calls trips) (live_left b s.work)) (sym h.live) (work_trace c errand trips s.work h.had);
}

-- ---- an end is there only where nothing is left

core_ends : {S E : Type 0} (l : S → Script) (wrap : E → BlockEnd) (q : CoreState S E) (e : BlockEnd) → option_map wrap (state_end q) ≡ Some e → state_left l q ≡ Over
core_ends l wrap (core.Saying stage) e h = none_some h
core_ends l wrap (core.Over end) e h = refl
core_ends l wrap core.Off e h = none_some h
core_ends l wrap core.Spent e h = none_some h

left_ends : (l : BlockLeft) (e : BlockEnd) → left_end l ≡ Some e → script_left l ≡ Over
left_ends left.Over e h = refl
left_ends (left.Declare c) e h = core_ends declare_stage_left _ c.value.state e h
left_ends (left.Publish c) e h = core_ends publish_stage_left _ c.value.state e h
left_ends (left.Pop c) e h = core_ends pop_stage_left _ c.value.state e h
left_ends (left.End c) e h = core_ends end_stage_left _ c.value.state e h
left_ends (left.Return c) e h = core_ends return_stage_left _ c.value.state e h
left_ends (left.Pass c) e h = core_ends pass_stage_left _ c.value.state e h

aside_ends : (a : AsideCore) (e : BlockEnd) → aside_end a ≡ Some e → aside_left a ≡ Over
aside_ends a e h = by a.state h where
  by : (q : AsideState) → aside_end (record { state = q }) ≡ Some e → aside_left (record { state = q }) ≡ Over
  by (aside.Saying command) h = none_some h
  by (aside.Over told) h = refl
  by aside.Off h = none_some h

work_ends : (w : Work) (e : BlockEnd) → work_end w ≡ Some e → work_left w ≡ Over
work_ends (work.Block l) e h = left_ends l e h
work_ends (work.Beside a) e h = aside_ends a e h

live_ends : (b : Bool) (w : Work) (e : BlockEnd) → live_end b w ≡ Some e → live_left b w ≡ Over
live_ends true w e h = none_some h
live_ends false w e h = work_ends w e h

pub client_ends : (s : ClientCore) (e : BlockEnd) → client_ended s ≡ Some e → client_left s ≡ Over
client_ends s e h = live_ends s.spent s.work e h

-- ---- nothing is left where memory was wanting

pub client_stops : (s : ClientCore) → s.spent ≡ true → client_left s ≡ Off
client_stops s e = ap (λ b. live_left b s.work) e
