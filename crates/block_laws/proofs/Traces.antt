-- A trace goes on with a call, and begins its block.
use Rattle.std.proofs.Common.{◌≡◌, ◌⊎◌, inl, inr, ℕ, ◌<◌, ◌^◌, refl, ap, sym, ◌∙◌, List, [], ◌∷◌, ◌++◌, Some}
use Rattle.wire_values.specs.declared.value.Value.{Value}
use Rattle.store_model.specs.Words.{Words}
use Rattle.command_blocks.specs.Setting.{Setting}
use Rattle.command_blocks.specs.Calls.{Call, call}
use Rattle.command_blocks.specs.Scripts.{Script, Over, Off, Plan, script_of, after_call, next_words, rest_of}
use Rattle.block_laws.specs.Rows.{IsGood, IsLawfulPlan, IsPlanBlock, IsRow}
use Rattle.block_laws.specs.Traces.{IsTrace, IsFrontOf}
use Rattle.block_laws.proofs.PlanRows.{plan_row}
use Rattle.block_laws.proofs.Fronts.{said-append, rest-append, timely-append, end_of, IsPutOff, rest_good, good_on}

-- before the first call
pub first_trace : (p : Script) → IsTrace p [] p
first_trace p = record { timely = tt; said = tt; left = refl }

-- one more call
pub next_trace : (p : Script) (calls : List Call) (old new : Script) (x : Call) → x.at < 2 ^ 40 → IsTrace p calls old → next_words old x.at ≡ Some x.words → new ≡ after_call old x → IsTrace p (calls ++ x ∷ []) new
next_trace p calls old new x at t words e = record {
  timely = timely-append calls (x ∷ []) t.timely (at, tt);
  said = said-append p calls (x ∷ []) t.said (ap (λ q. next_words q x.at) (sym t.left) ∙ words, tt);
  left = e ∙ ap (λ q. after_call q x) t.left ∙ sym (rest-append p calls (x ∷ []));
}

module _ (σ : Setting) (s n p : ℕ) (plan : Plan) (lawful : IsLawfulPlan σ s n plan) (calls : List Call) (left : Script) (t : IsTrace (script_of σ s p plan) calls left) where
  abbrev its : Script
  its = script_of σ s p plan

  row : IsRow σ s n p plan
  row = plan_row σ s n p plan lawful

  either : IsGood (rest_of its calls) ⊎ ((rest_of its calls ≡ Off) × IsPutOff its calls)
  either = rest_good its calls row.good t.timely t.said

  whole : left ≡ Over → IsPlanBlock σ s n p plan calls
  whole over = row.told calls t.timely t.said (sym t.left ∙ over)

  front : (left ≡ Off → ⊥) → (more : List Call) × IsPlanBlock σ s n p plan (calls ++ more)
  front on = by either where
    by : IsGood (rest_of its calls) ⊎ ((rest_of its calls ≡ Off) × IsPutOff its calls) → (more : List Call) × IsPlanBlock σ s n p plan (calls ++ more)
    by (inl g) =
        let e = end_of (rest_of its calls) g in
        (e.0, row.told (calls ++ e.0) (timely-append calls e.0 t.timely e.1) (said-append its calls e.0 t.said e.2) (rest-append its calls e.0 ∙ e.3))
    by (inr h) = absurd (on (t.left ∙ h.0))

  but_last : left ≡ Off → (before : List Call) × (a : ℕ) × (words : Words) × (answer : Value) × (listed : Value) × (more : List Call) × (calls ≡ before ++ call a words answer ∷ []) × IsPlanBlock σ s n p plan (before ++ call a words listed ∷ more)
  but_last off = by either where
    by : IsGood (rest_of its calls) ⊎ ((rest_of its calls ≡ Off) × IsPutOff its calls) → (before : List Call) × (a : ℕ) × (words : Words) × (answer : Value) × (listed : Value) × (more : List Call) × (calls ≡ before ++ call a words answer ∷ []) × IsPlanBlock σ s n p plan (before ++ call a words listed ∷ more)
    by (inl g) = absurd (good_on (rest_of its calls) g (sym t.left ∙ off))
    by (inr h) = let o = h.1 in (o.before, o.last.at, o.last.words, o.last.answer, o.listed, o.more, o.is, row.told (o.before ++ call o.last.at o.last.words o.listed ∷ o.more) o.timely o.said o.over)

  -- a trace of a lawful plan begins its block
  -- its calls, whole, in front, or but for the last
  pub trace_front : IsFrontOf (IsPlanBlock σ s n p plan) calls left
  trace_front = record { whole = whole; front = front; but_last = but_last }
