-- A pass from command to command: what is left after an answer.
use Rattle.std.proofs.Common.{◌≡◌, ℕ, List, [], ◌∷◌, ◌++◌, Some, refl, sym, ap, ◌∙◌, subst, Result, Ok, Err}
use Rattle.std.specs.declared.alloc.AllocError.{AllocError}
use Rattle.std.specs.Prelude.{IfOk}
use Rattle.wire_values.specs.declared.value.Value.{Value}
use Rattle.store_model.specs.Words.{Words}
use Rattle.command_blocks.specs.Calls.{Call, call}
use Rattle.command_blocks.specs.Cores.{IsAnswered}
use Rattle.command_blocks.specs.Scripts.{Plan, Script, Over, Off, Say, after_call, next_words}
use Rattle.block_core.specs.Stages.{TellsOn, progress_left}
use Rattle.block_core.specs.declared.stage.Progress.{Progress}
use Rattle.returns.specs.declared.trying.Trying.{Trying}
use Rattle.passes.specs.Passes.{PassHad, PassingHad, TellsNext, pass_stage_left, passing_left}
use Rattle.passes.specs.Told.{TellsPass}
use Rattle.passes.specs.declared.ended.PassEnd.{PassEnd}
use Rattle.passes.specs.declared.passing.PassStage.{PassStage}
use Rattle.passes.specs.declared.passing.Passing.{Passing}
use Rattle.passes.specs.declared.passing.Passing.TheVariants.{Returning}
use Rattle.passes.specs.declared.turns.Returns.{Returns}
use Rattle.passes.specs.declared.terms.Terms.{Terms}

-- ---- the stage

same_call : (p : Script) (at : ℕ) (words : Words) (r : Value) → after_call p (call 0 [] r) ≡ after_call p (call at words r)
same_call Over at words r = refl
same_call Off at words r = refl
same_call (Say w go) at words r = refl

pub stage_left : (p : Progress PassStage PassEnd) (self : PassStage) (at : Passing) (r : Value) → self.at ≡ at → progress_left pass_stage_left p ≡ after_call (passing_left self.terms at) (call 0 [] r) → (m : ℕ) → IsAnswered (pass_stage_left self) (progress_left pass_stage_left p) m r
stage_left p self at r is left m words = left ∙ same_call (passing_left self.terms at) m words r ∙ sym (ap (λ q. after_call (passing_left self.terms q) (call m words r)) is)

pub stages_left : (result : Result (Progress PassStage PassEnd) AllocError) (self : PassStage) (at : Passing) (r : Value) → self.at ≡ at → IfOk result (λ p. progress_left pass_stage_left p ≡ after_call (passing_left self.terms at) (call 0 [] r))
    → IfOk result (λ p. (m : ℕ) → IsAnswered (pass_stage_left self) (progress_left pass_stage_left p) m r)
stages_left (Ok p) self at r is left = stage_left p self at r is left
stages_left (Err f) self at r is left = tt

pub stage_tells : (p : Progress PassStage PassEnd) (self : PassStage) (at : Passing) (r : Value) → self.at ≡ at → TellsNext (PassingHad at) r p → (plan : Plan) (calls : List Call) (last : Call) → last.answer ≡ r → PassHad calls self → TellsOn PassHad TellsPass (calls ++ last ∷ []) p
stage_tells p self at r is tells plan calls last e had = tells calls last e (subst (λ q. PassingHad q calls) is had)

pub stages_tell : (result : Result (Progress PassStage PassEnd) AllocError) (self : PassStage) (at : Passing) (r : Value) → self.at ≡ at → IfOk result (λ p. TellsNext (PassingHad at) r p)
    → IfOk result (λ p. (plan : Plan) (calls : List Call) (last : Call) → last.answer ≡ r → PassHad calls self → TellsOn PassHad TellsPass (calls ++ last ∷ []) p)
stages_tell (Ok p) self at r is tells = stage_tells p self at r is tells
stages_tell (Err f) self at r is tells = tt

-- the words at a command
pub stage_words : (result : Result Words AllocError) (self : PassStage) (at : Passing) (m : ℕ) → self.at ≡ at → IfOk result (λ w. Some w ≡ next_words (passing_left self.terms at) m) → IfOk result (λ w. Some w ≡ next_words (pass_stage_left self) m)
stage_words (Ok w) self at m is h = h ∙ sym (ap (λ q. next_words (passing_left self.terms q) m) is)
stage_words (Err f) self at m is h = tt

-- what was moved out of the stage is what stood in it
pub moved_left : (result : Result (Progress PassStage PassEnd) AllocError) (terms : Terms) (r : Value) (t u : Trying) (q s : Returns) → t ≡ u → q ≡ s → IfOk result (λ p. progress_left pass_stage_left p ≡ after_call (passing_left terms (Returning t q)) (call 0 [] r))
    → IfOk result (λ p. progress_left pass_stage_left p ≡ after_call (passing_left terms (Returning u s)) (call 0 [] r))
moved_left result terms r t u q s e f h =
    subst (λ (x : Trying). IfOk result (λ p. progress_left pass_stage_left p ≡ after_call (passing_left terms (Returning x s)) (call 0 [] r))) e
    (subst (λ (y : Returns). IfOk result (λ p. progress_left pass_stage_left p ≡ after_call (passing_left terms (Returning t y)) (call 0 [] r))) f h)

pub moved_tells : (result : Result (Progress PassStage PassEnd) AllocError) (r : Value) (t u : Trying) (q s : Returns) → t ≡ u → q ≡ s → IfOk result (λ p. TellsNext (PassingHad (Returning t q)) r p) → IfOk result (λ p. TellsNext (PassingHad (Returning u s)) r p)
moved_tells result r t u q s e f h =
    subst (λ (x : Trying). IfOk result (λ p. TellsNext (PassingHad (Returning x s)) r p)) e (subst (λ (y : Returns). IfOk result (λ p. TellsNext (PassingHad (Returning t y)) r p)) f h)
