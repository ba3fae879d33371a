-- What the stages of a pop tell.
use Rattle.std.proofs.Common.{◌≡◌, ℕ, ◌*◌, ◌≤◌, List, [], ◌∷◌, ◌++◌, length, true, refl, sym, subst, ap, ◌∙◌, Result, Ok, Err, arith}
use Rattle.std.specs.declared.alloc.AllocError.{AllocError}
use Rattle.std.specs.Prelude.{IfOk}
use Rattle.wire_values.specs.declared.value.Value.{Value}
use Rattle.store_model.specs.Words.{Words}
use Rattle.command_blocks.specs.Calls.{Call, call}
use Rattle.command_blocks.specs.Cores.{IsAnswered}
use Rattle.command_blocks.specs.EnvelopeTexts.{plain_setting}
use Rattle.queue_keys.specs.Layouts.{plain}
use Rattle.queue_keys.specs.Names.{Bytes, is_name}
use Rattle.queue_keys.specs.QueueKeys.{Each, pop_keys}
use Rattle.command_blocks.specs.Scripts.{Over, Off, Say, Script, after_call, on_popped, pop_script}
use Rattle.command_blocks.specs.TakeBlocks.{IsPop}
use Rattle.key_laws.proofs.Lists.{length-pop_keys}
use Rattle.block_core.specs.Stages.{TellsOn, progress_left}
use Rattle.block_core.specs.declared.stage.Progress.{Progress}
use Rattle.block_core.specs.declared.stage.Progress.TheVariants as found
use Rattle.unacked.specs.Pops.{FoundTells, HasKept, IsDelivered, IsFirst, IsGiven, IsKeeping, IsPopEnd, PopHad, PoppingHad, PoppingTells, TellsPop, index_words, popping_left, pop_stage_left, table_words}
use Rattle.unacked.specs.Steps.{answered_left, course_left, steps_left}
use Rattle.serde_json.specs.View.{view as data_of}
use Rattle.unacked.specs.Queues.{are_names, are_some}
use Rattle.unacked.specs.declared.pop.Delivery.{Delivery}
use Rattle.unacked.specs.declared.pop.PopEnd.{PopEnd}
use Rattle.unacked.specs.declared.pop.PopEnd.TheVariants.{Empty, Popped, Unreadable}
use Rattle.unacked.specs.declared.pop.PopStage.{PopStage}
use Rattle.unacked.specs.declared.pop.Popping.{Popping}
use Rattle.unacked.specs.declared.pop.Popping.TheVariants.{Asking, Keeping}
use Rattle.unacked.specs.declared.queues.Queues.{Queues}
use Rattle.unacked.specs.declared.step.Course.{Course}
use Rattle.unacked.specs.declared.step.Course.TheVariants as course
use Rattle.unacked.specs.declared.step.Step.{Step}
use Rattle.unacked.proofs.Names.{and_is, no_some}

found_had : (at : Popping) (last : Call) (r : Value) → last.answer ≡ r → PoppingTells at r → PoppingHad (last ∷ []) at
found_had (Asking queues) last r e t = absurd t
found_had (Keeping delivery step) last r e t = subst (IsDelivered delivery.value) (sym e) t

-- what BRPOP's answer brought tells of the first call
pub found_on : (calls : List Call) (last : Call) (r : Value) (p : Progress PopStage PopEnd) → last.answer ≡ r → calls ≡ [] → FoundTells p r → TellsOn PopHad TellsPop (calls ++ last ∷ []) p
found_on calls last r p e none t = subst (λ l. TellsOn PopHad TellsPop (l ++ last ∷ []) p) (sym none) (by p t) where
  by : (p : Progress PopStage PopEnd) → FoundTells p r → TellsOn PopHad TellsPop (last ∷ []) p
  by (found.Next stage) t = found_had stage.at last r e t
  by (found.Over end) t = subst (IsPopEnd end) (sym e) t
  by found.Refused t = tt

first_on : (P : Value → Type 0) (calls more : List Call) → IsFirst P calls → IsFirst P (calls ++ more)
first_on P [] more t = absurd t
first_on P (x ∷ xs) more t = t

kept_had : (delivery : Delivery) (step : Step) (at : Popping) (calls : List Call) → IsKeeping delivery step at → IsFirst (IsDelivered delivery) calls → PoppingHad calls at
kept_had delivery step (Asking queues) calls k t = absurd k
kept_had delivery step (Keeping held at) calls k t = subst (λ (d : Delivery). IsFirst (IsDelivered d) calls) (sym k.0) t

given_tells : (delivery : Delivery) (end : PopEnd) (calls : List Call) → IsGiven delivery end → IsFirst (IsDelivered delivery) calls → TellsPop calls end
given_tells delivery Empty calls k t = absurd k
given_tells delivery (Popped given) calls k t = subst (λ (d : Delivery). IsFirst (IsDelivered d) calls) (sym k) t
given_tells delivery Unreadable calls k t = absurd k

-- and later answers leave it so
pub kept_on : (delivery : Delivery) (got : Course) (p : Progress PopStage PopEnd) (calls : List Call) (last : Call) → HasKept delivery got p → IsFirst (IsDelivered delivery) calls → TellsOn PopHad TellsPop (calls ++ last ∷ []) p
kept_on delivery (course.Next step) (found.Next stage) calls last k t = kept_had delivery step stage.at (calls ++ last ∷ []) k (first_on (IsDelivered delivery) calls (last ∷ []) t)
kept_on delivery (course.Next step) (found.Over end) calls last k t = absurd k
kept_on delivery (course.Next step) found.Refused calls last k t = absurd k
kept_on delivery (course.Ran removed) (found.Next stage) calls last k t = absurd k
kept_on delivery (course.Ran removed) (found.Over end) calls last k t = given_tells delivery end (calls ++ last ∷ []) k (first_on (IsDelivered delivery) calls (last ∷ []) t)
kept_on delivery (course.Ran removed) found.Refused calls last k t = absurd k
kept_on delivery course.Refused (found.Next stage) calls last k t = absurd k
kept_on delivery course.Refused (found.Over end) calls last k t = absurd k
kept_on delivery course.Refused found.Refused calls last k t = tt

-- the moment and the words of a call don't matter
same_call : (p : Script) (at : ℕ) (words : Words) (r : Value) → after_call p (call 0 [] r) ≡ after_call p (call at words r)
same_call Over at words r = refl
same_call Off at words r = refl
same_call (Say w go) at words r = refl

kept_left : (delivery : Delivery) (got : Course) (p : Progress PopStage PopEnd) → HasKept delivery got p → progress_left pop_stage_left p ≡ course_left (index_words (data_of delivery.envelope)) (table_words (data_of delivery.envelope)) got
kept_left delivery (course.Next step) (found.Next stage) k = by stage.at k where
  by : (at : Popping) → IsKeeping delivery step at → popping_left at ≡ steps_left (index_words (data_of delivery.envelope)) (table_words (data_of delivery.envelope)) step
  by (Asking queues) k = absurd k
  by (Keeping held at) k = λ i. steps_left (index_words (data_of (k.0 i).envelope)) (table_words (data_of (k.0 i).envelope)) (k.1 i)
kept_left delivery (course.Next step) (found.Over end) k = absurd k
kept_left delivery (course.Next step) found.Refused k = absurd k
kept_left delivery (course.Ran removed) (found.Next stage) k = absurd k
kept_left delivery (course.Ran removed) (found.Over end) k = refl
kept_left delivery (course.Ran removed) found.Refused k = absurd k
kept_left delivery course.Refused (found.Next stage) k = absurd k
kept_left delivery course.Refused (found.Over end) k = absurd k
kept_left delivery course.Refused found.Refused k = refl

-- what the answer to a step of the transaction brought is left
pub step_left : (delivery : Delivery) (step : Step) (got : Course) (p : Progress PopStage PopEnd) (at : Popping) (r : Value) → popping_left at ≡ steps_left (index_words (data_of delivery.envelope)) (table_words (data_of delivery.envelope)) step → HasKept delivery got p
    → ((index : ℕ → Words) (table : Words) → course_left index table got ≡ answered_left index table step r) → (m : ℕ) → IsAnswered (popping_left at) (progress_left pop_stage_left p) m r
step_left delivery step got p at r is k left m words =
    let d = data_of delivery.envelope in
    kept_left delivery got p k ∙ (left (index_words d) (table_words d) ∙ (same_call (steps_left (index_words d) (table_words d) step) m words r ∙ sym (ap (λ q. after_call q (call m words r)) is)))

pop_answers : (names : List Bytes) (at : ℕ) (words : Words) (r : Value) → are_some names ≡ true → on_popped plain_setting r ≡ after_call (pop_script plain_setting names) (call at words r)
pop_answers [] at words r h = absurd (no_some h)
pop_answers (q ∷ qs) at words r h = refl

-- what BRPOP's answer brought is left
pub asked_left : (result : Result (Progress PopStage PopEnd) AllocError) (at : Popping) (queues : Queues) (r : Value) → at ≡ Asking queues → IfOk result (λ p. progress_left pop_stage_left p ≡ on_popped plain_setting r)
    → IfOk result (λ p. (m : ℕ) → IsAnswered (popping_left at) (progress_left pop_stage_left p) m r)
asked_left (Ok p) at queues r is h = λ m words. h ∙ pop_answers queues.names m words r queues.some ∙ sym (ap (λ q. after_call (popping_left q) (call m words r)) is)
asked_left (Err e) at queues r is h = tt

-- ---- the queues

-- one or more are some
pub some_of : (qs : List Bytes) → 1 ≤ length qs → are_some qs ≡ true
some_of [] h = absurd (omega (arith, h))
some_of (q ∷ qs) h = refl

each_name : (qs : List Bytes) → are_names qs ≡ true → Each is_name qs
each_name [] e = tt
each_name (q ∷ qs) e = let h = and_is (is_name q) (are_names qs) e in (h.0, each_name qs h.1)

-- 1 to 1,023 lawful names can be popped
pub can_pop : (qs : List Bytes) → are_names qs ≡ true → 1 ≤ length qs → length qs ≤ 1023 → (k : Bytes) × (ks : List Bytes) × IsPop plain_setting qs (k ∷ ks)
can_pop [] e some few = absurd (omega (arith, some))
can_pop (q ∷ qs) e some few = by (pop_keys plain (q ∷ qs)) refl where
  by : (l : List Bytes) → pop_keys plain (q ∷ qs) ≡ l → (k : Bytes) × (ks : List Bytes) × IsPop plain_setting (q ∷ qs) (k ∷ ks)
  by [] i = absurd (cc i)
  by (k ∷ ks) i =
      let n : length (pop_keys plain (q ∷ qs)) ≡ 4 * length (q ∷ qs) = length-pop_keys plain (q ∷ qs) in
      let m : length (pop_keys plain (q ∷ qs)) ≡ length (k ∷ ks) = ap length i in
      (k, ks, (each_name (q ∷ qs) e, i, omega (arith, n, m, few)))
