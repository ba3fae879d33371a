-- A core's trace goes on with each reply.
use Rattle.std.proofs.Common.{◌≡◌, ℕ, ◌<◌, ◌^◌, List, [], ◌∷◌, ◌++◌, true, false, Some, None, Ok, Err, refl, Result, sym, subst, ap, ◌∙◌}
use Rattle.std.specs.Prelude.{⊤, IfSome}
use Rattle.wire_values.specs.declared.value.Value.{Value}
use Rattle.store_model.specs.Words.{Words}
use Rattle.store_model.specs.declared.reply.Reply.{Reply}
use Rattle.command_blocks.specs.Calls.{Call, call}
use Rattle.command_blocks.specs.Cores.{IsAnswered, is_saying}
use Rattle.command_blocks.specs.EnvelopeTexts.{plain_setting, texts}
use Rattle.queue_keys.specs.Layouts.{plain}
use Rattle.queue_keys.specs.Names.{same}
use Rattle.command_blocks.specs.Scripts.{Plan, Script, Over, Off, next_words, script_of}
use Rattle.command_blocks.specs.Setting.{IsLawful}
use Rattle.key_laws.proofs.EnvelopeFacts.{envelopes_serve}
use Rattle.key_laws.proofs.Settings.{lawful_setting}
use Rattle.block_laws.specs.Rows.{IsLawfulPlan, IsPlanBlock}
use Rattle.block_laws.specs.Traces.{IsTrace}
use Rattle.block_laws.proofs.Said.{plan_off}
use Rattle.block_laws.proofs.Talks.{off_not}
use Rattle.block_laws.proofs.Traces.{next_trace, trace_front}
use Rattle.block_core.specs.Cores.{HasHad, HasHadOn, IsListed, StateTells, core_end, core_left, state_end, state_left}
use Rattle.block_core.specs.Goings.{HasGone, IsRefused}
use Rattle.block_core.specs.Stages.{TellsOn, progress_left}
use Rattle.block_core.specs.declared.block.BlockCore.{BlockCore}
use Rattle.block_core.specs.declared.block.CoreState.{CoreState}
use Rattle.block_core.specs.declared.block.CoreState.TheVariants as state
use Rattle.block_core.specs.declared.fault.ReplyFault.{ReplyFault}
use Rattle.block_core.specs.declared.fault.ReplyFault.TheVariants.{Refused, Memory}
use Rattle.block_core.specs.declared.stage.Progress.{Progress}
use Rattle.block_core.specs.declared.stage.Progress.TheVariants as found

module _ {S E : Type 0} (left : S → Script) (had : Plan → List Call → S → Type 0) (tell : Plan → List Call → E → Type 0) (s p : ℕ) (plan : Plan) (calls : List Call) (words : Words) (at : ℕ) (timely : at < 2 ^ 40) (r : Value) where
  -- a core that has had these calls has had one more
  goes_on : (old new : BlockCore S E) → HasHad left had tell s p plan calls old → next_words (core_left left old) at ≡ Some words → IsAnswered (core_left left old) (core_left left new) at r
      → StateTells (had plan) (tell plan) (calls ++ call at words r ∷ []) new.state → HasHad left had tell s p plan (calls ++ call at words r ∷ []) new
  goes_on old new h next answered tells = record {
    trace = next_trace (script_of plain_setting s p plan) calls (core_left left old) (core_left left new) (call at words r) timely h.trace next (answered words);
    tells = tells;
  }

  -- or was refused
  refused_on : (old new : BlockCore S E) (reply : Reply) (result : Result ⊤ ReplyFault) → reply.answer ≡ r → IsRefused reply new result → HasHad left had tell s p plan calls old → next_words (core_left left old) at ≡ Some words
      → IsAnswered (core_left left old) Off at r → HasHadOn (HasHad left had tell s p plan) calls (call at words r) new result
  refused_on old new reply (Ok u) e f h next answered = absurd f
  refused_on old new reply (Err (Refused given)) e f h next answered =
      goes_on old new h next (subst (λ q. IsAnswered (core_left left old) (state_left left q) at r) (sym f.0) answered) (subst (StateTells (had plan) (tell plan) (calls ++ call at words r ∷ [])) (sym f.0) tt)
  refused_on old new reply (Err Memory) e f h next answered = tt

  -- what an answer brought to a stage
  pub gone_on : (old new : BlockCore S E) (stage : S) (progress : Progress S E) (reply : Reply) (result : Result ⊤ ReplyFault) → reply.answer ≡ r → old.state ≡ state.Saying stage → HasGone reply progress new result
      → ((at : ℕ) → IsAnswered (left stage) (progress_left left progress) at r)
      → ((plan : Plan) (calls : List Call) (last : Call) → last.answer ≡ r → had plan calls stage → TellsOn (had plan) (tell plan) (calls ++ last ∷ []) progress)
      → HasHad left had tell s p plan calls old → next_words (core_left left old) at ≡ Some words → HasHadOn (HasHad left had tell s p plan) calls (call at words r) new result
  gone_on old new stage progress reply result e is gone answered told h next = by progress gone (answered at) (told plan calls (call at words r) refl (subst (StateTells (had plan) (tell plan) calls) is h.tells)) where
    after : (q : CoreState S E) (rest : Script) → new.state ≡ q → state_left left q ≡ rest → IsAnswered (left stage) rest at r → IsAnswered (core_left left old) (core_left left new) at r
    after q rest e f a = subst (λ z. IsAnswered (state_left left z) (core_left left new) at r) (sym is) (subst (λ z. IsAnswered (left stage) z at r) (sym f ∙ sym (ap (state_left left) e)) a)

    went : (q : CoreState S E) → new.state ≡ q → result ≡ Ok tt → IsAnswered (left stage) (state_left left q) at r → StateTells (had plan) (tell plan) (calls ++ call at words r ∷ []) q → HasHadOn (HasHad left had tell s p plan) calls (call at words r) new result
    went q e f a t = subst (HasHadOn (HasHad left had tell s p plan) calls (call at words r) new) (sym f)
        (goes_on old new h next (after q (state_left left q) e refl a) (subst (StateTells (had plan) (tell plan) (calls ++ call at words r ∷ [])) (sym e) t))

    by : (progress : Progress S E) → HasGone reply progress new result → IsAnswered (left stage) (progress_left left progress) at r → TellsOn (had plan) (tell plan) (calls ++ call at words r ∷ []) progress → HasHadOn (HasHad left had tell s p plan) calls (call at words r) new result
    by (found.Next after) g a t = went (state.Saying after) g.0 g.1 a t
    by (found.Over end) g a t = went (state.Over (Some end)) g.0 g.1 a t
    by found.Refused g a t = refused_on old new reply result e g h next (subst (λ z. IsAnswered (state_left left z) Off at r) (sym is) a)

-- ---- what is listed

-- the script is off exactly after a refusal
abbrev IsOffBy : {S E : Type 0} → (S → Script) → BlockCore S E → Result ⊤ ReplyFault → Type 0
IsOffBy left new (Ok u) = core_left left new ≡ Off → ⊥
IsOffBy left new (Err (Refused given)) = core_left left new ≡ Off
IsOffBy left new (Err Memory) = Unit {0}

saying_not : (p : Script) → is_saying p ≡ true → p ≡ Off → ⊥
saying_not p says off = let no : false ≡ true = sym (ap is_saying off) ∙ says in absurd (cc no)

off_by : {S E : Type 0} (left : S → Script) (new : BlockCore S E) (progress : Progress S E) (reply : Reply) (result : Result ⊤ ReplyFault) → ((stage : S) → is_saying (left stage) ≡ true) → HasGone reply progress new result → IsOffBy left new result
off_by left new (found.Next stage) reply result says gone = subst (IsOffBy left new) (sym gone.1) (λ off. saying_not (left stage) (says stage) (sym (ap (state_left left) gone.0) ∙ off))
off_by left new (found.Over end) reply result says gone = subst (IsOffBy left new) (sym gone.1) (λ off. off_not (sym off ∙ ap (state_left left) gone.0))
off_by left new found.Refused reply (Ok u) says gone = absurd gone
off_by left new found.Refused reply (Err (Refused given)) says gone = ap (state_left left) gone.0
off_by left new found.Refused reply (Err Memory) says gone = tt

plain_lawful : IsLawful plain_setting
unfolding same
plain_lawful = lawful_setting plain texts refl envelopes_serve

-- calls that were had begin a block of the plan, and with a refused reply they begin none
pub listed_on : {S E : Type 0} (left : S → Script) (had : Plan → List Call → S → Type 0) (tell : Plan → List Call → E → Type 0) (s n p : ℕ) (plan : Plan) (calls : List Call) (x : Call) (new : BlockCore S E) (progress : Progress S E) (reply : Reply) (result : Result ⊤ ReplyFault)
    → ((stage : S) → is_saying (left stage) ≡ true) → HasGone reply progress new result → IsLawfulPlan plain_setting s n plan → HasHadOn (HasHad left had tell s p plan) calls x new result
    → IsListed (IsPlanBlock plain_setting s n p plan) (calls ++ x ∷ []) result
listed_on {S} {E} left had tell s n p plan calls x new progress reply result says gone lawful h = by result (off_by left new progress reply result says gone) h where
  by : (result : Result ⊤ ReplyFault) → IsOffBy left new result → HasHadOn (HasHad left had tell s p plan) calls x new result → IsListed (IsPlanBlock plain_setting s n p plan) (calls ++ x ∷ []) result
  by (Ok u) on h = (trace_front plain_setting s n p plan lawful (calls ++ x ∷ []) (core_left left new) h.trace).front on
  by (Err (Refused given)) off h = λ more. plan_off plain_setting plain_lawful s n p plan (calls ++ x ∷ []) more (sym h.trace.left ∙ off)
  by (Err Memory) off h = tt

-- ---- ends

-- where the end wasn't given yet, the calls of a lawful plan are a whole block of it
pub whole_ended : {S E : Type 0} (left : S → Script) (had : Plan → List Call → S → Type 0) (tell : Plan → List Call → E → Type 0) (s n p : ℕ) (plan : Plan) (calls : List Call) (core : BlockCore S E) → IsLawfulPlan plain_setting s n plan → HasHad left had tell s p plan calls core
    → IfSome (core_end core) (λ end. IsPlanBlock plain_setting s n p plan calls)
whole_ended {S} {E} left had tell s n p plan calls core lawful h = by core.state h.trace where
  by : (q : CoreState S E) → IsTrace (script_of plain_setting s p plan) calls (state_left left q) → IfSome (state_end q) (λ end. IsPlanBlock plain_setting s n p plan calls)
  by (state.Saying stage) t = tt
  by (state.Over None) t = tt
  by (state.Over (Some end)) t = (trace_front plain_setting s n p plan lawful calls Over t).whole refl
  by state.Off t = tt
  by state.Spent t = tt
