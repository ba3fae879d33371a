-- A block goes on by the reply that its core took.
use Rattle.std.proofs.Common.{◌≡◌, ℕ, List, [], ◌∷◌, ◌++◌, Option, None, Some, IsSome, Result, Ok, Err, refl, sym, subst, ap, ◌∙◌}
use Rattle.std.specs.Prelude.{⊤, option_map}
use Rattle.store_model.specs.Words.{Words}
use Rattle.store_model.specs.declared.reply.Reply.{Reply}
use Rattle.block_core.specs.Cores.{HasHad, HasHadOn, HasTaken, core_end, core_left}
use Rattle.block_core.specs.declared.block.BlockCore.{BlockCore}
use Rattle.block_core.specs.declared.fault.ReplyFault.{ReplyFault}
use Rattle.block_core.specs.declared.fault.ReplyFault.TheVariants.{Refused, Memory}
use Rattle.command_blocks.specs.Calls.{Call, call}
use Rattle.command_blocks.specs.Scripts.{Plan, Script, Over, Off, Say, after_call, next_words}
use Rattle.client_blocks.specs.Blocks.{script_left}
use Rattle.client_blocks.specs.declared.left.BlockLeft.{BlockLeft}
use Rattle.steps.specs.Ends.{BlockKind, plan_kind}
use Rattle.steps.specs.Goings.{script_after}
use Rattle.steps.specs.declared.ended.BlockEnd.{BlockEnd}
use Rattle.client_core.specs.Lefts.{HeardLeft, LeftHad, LeftHadOn, LeftTaken, left_end}

-- the words and the moment of a call don't matter
pub same_answer : (q : Script) (at : ℕ) (words : Words) (r : Reply) → after_call q (call at words r.answer) ≡ script_after q r
same_answer Over at words r = refl
same_answer Off at words r = refl
same_answer (Say w go) at words r = refl

some_map : {A B : Type 0} (f : A → B) (o : Option A) → IsSome o → IsSome (option_map f o)
some_map f None e = e
some_map f (Some x) e = refl

module _ {S E X : Type 0} (left : S → Script) (had : Plan → List Call → S → Type 0) (tell : Plan → List Call → E → Type 0) (K : X → BlockLeft) (v : X → BlockCore S E) (wrap : E → BlockEnd) (kind : BlockKind)
    (script_is : (x : X) → script_left (K x) ≡ core_left left (v x)) (end_is : (x : X) → left_end (K x) ≡ option_map wrap (core_end (v x)))
    (opened : (s p : ℕ) (plan : Plan) (calls : List Call) (x : X) → LeftHad s p plan calls (K x) → (plan_kind plan ≡ kind) × HasHad left had tell s p plan calls (v x))
    (closed : (s p : ℕ) (plan : Plan) (calls : List Call) (x : X) → (plan_kind plan ≡ kind) × HasHad left had tell s p plan calls (v x) → LeftHad s p plan calls (K x)) where
  taken_as : (x y : X) (at : ℕ) (r : Reply) (result : Result ⊤ ReplyFault) → HasTaken left (v x) (v y) at r result → LeftTaken (K x) (K y) r result
  taken_as x y at r result h = by result h where
    goes : core_left left (v y) ≡ after_call (core_left left (v x)) (call at [] r.answer) → script_left (K y) ≡ script_after (script_left (K x)) r
    goes e = script_is y ∙ e ∙ same_answer (core_left left (v x)) at [] r ∙ ap (λ q. script_after q r) (sym (script_is x))

    by : (result : Result ⊤ ReplyFault) → HasTaken left (v x) (v y) at r result → LeftTaken (K x) (K y) r result
    by (Ok u) h = (goes (h.0 []), λ off. h.1 (sym (script_is y) ∙ off), λ over. subst IsSome (sym (end_is y)) (some_map wrap (core_end (v y)) (h.2 (sym (script_is y) ∙ over))))
    by (Err (Refused given)) h = (goes (h.0 []), script_is y ∙ h.1, h.3)
    by (Err Memory) h = tt

  abbrev Traced : BlockCore S E → BlockCore S E → ℕ → Reply → Result ⊤ ReplyFault → Type 0
  Traced old new at r result = (s p : ℕ) (plan : Plan) (calls : List Call) (words : Words) → HasHad left had tell s p plan calls old → next_words (core_left left old) at ≡ Some words → HasHadOn (HasHad left had tell s p plan) calls (call at words r.answer) new result

  traced_as : (x y : X) (at : ℕ) (r : Reply) (result : Result ⊤ ReplyFault) → Traced (v x) (v y) at r result
      → (s p : ℕ) (plan : Plan) (calls : List Call) (words : Words) → LeftHad s p plan calls (K x) → next_words (script_left (K x)) at ≡ Some words → LeftHadOn (LeftHad s p plan) calls (call at words r.answer) (K y) result
  traced_as x y at r result traced s p plan calls words h n = by result (traced s p plan calls words k.1 (ap (λ q. next_words q at) (sym (script_is x)) ∙ n)) where
    k : (plan_kind plan ≡ kind) × HasHad left had tell s p plan calls (v x)
    k = opened s p plan calls x h

    by : (result : Result ⊤ ReplyFault) → HasHadOn (HasHad left had tell s p plan) calls (call at words r.answer) (v y) result → LeftHadOn (LeftHad s p plan) calls (call at words r.answer) (K y) result
    by (Ok u) g = closed s p plan (calls ++ call at words r.answer ∷ []) y (k.0, g)
    by (Err (Refused given)) g = closed s p plan (calls ++ call at words r.answer ∷ []) y (k.0, g)
    by (Err Memory) g = tt

  pub heard_as : (old : BlockLeft) (x y : X) (o : BlockCore S E) (at : ℕ) (r : Reply) (result : Result ⊤ ReplyFault) → old ≡ K x → o ≡ v x → HasTaken left o (v y) at r result → Traced o (v y) at r result → HeardLeft old (K y) at r result
  heard_as old x y o at r result e f taken traced = subst (λ q. HeardLeft q (K y) at r result) (sym e) (record {
    taken = taken_as x y at r result (subst (λ q. HasTaken left q (v y) at r result) f taken);
    traced = traced_as x y at r result (subst (λ q. Traced q (v y) at r result) f traced);
  })
