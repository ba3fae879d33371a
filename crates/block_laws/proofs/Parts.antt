-- What was said so far of a lawful plan begins a block, or would with another last answer.
use Rattle.std.proofs.Common.{◌≡◌, ◌⊎◌, inl, inr, ℕ, ◌∙◌, List, [], ◌∷◌, ◌++◌}
use Rattle.wire_values.specs.declared.value.Value.{Value}
use Rattle.store_model.specs.Words.{Words}
use Rattle.command_blocks.specs.Setting.{Setting}
use Rattle.command_blocks.specs.Calls.{Call, call}
use Rattle.command_blocks.specs.Blocks.{IsBlock}
use Rattle.command_blocks.specs.Scripts.{Script, Off, Plan, script_of, counter_use, rest_of, IsSaid}
use Rattle.block_laws.specs.Rows.{IsGood, AreTimely, IsLawfulPlan, IsRow}
use Rattle.block_laws.proofs.PlanRows.{plan_row}
use Rattle.block_laws.proofs.Fronts.{said-append, rest-append, timely-append, end_of, IsPutOff, rest_good, good_on}

module _ (σ : Setting) (s n p : ℕ) (plan : Plan) (lawful : IsLawfulPlan σ s n plan) (l : List Call) (timely : AreTimely l) (said : IsSaid (script_of σ s p plan) l) where
  abbrev its : Script
  its = script_of σ s p plan

  row : IsRow σ s n p plan
  row = plan_row σ s n p plan lawful

  pub goes_on : (rest_of its l ≡ Off → ⊥) → (more : List Call) × IsBlock σ s n p (counter_use plan) (l ++ more)
  goes_on on = by (rest_good its l row.good timely said) where
    by : IsGood (rest_of its l) ⊎ ((rest_of its l ≡ Off) × IsPutOff its l) → (more : List Call) × IsBlock σ s n p (counter_use plan) (l ++ more)
    by (inl g) =
        let e = end_of (rest_of its l) g in
        (e.0, row.block (l ++ e.0) (timely-append l e.0 timely e.1) (said-append its l e.0 said e.2) (rest-append its l e.0 ∙ e.3))
    by (inr h) = absurd (on h.0)

  pub put_off : rest_of its l ≡ Off → (before : List Call) × (a : ℕ) × (words : Words) × (answer : Value) × (listed : Value) × (more : List Call) × (l ≡ before ++ call a words answer ∷ []) × IsBlock σ s n p (counter_use plan) (before ++ call a words listed ∷ more)
  put_off off = by (rest_good its l row.good timely said) where
    by : IsGood (rest_of its l) ⊎ ((rest_of its l ≡ Off) × IsPutOff its l) → (before : List Call) × (a : ℕ) × (words : Words) × (answer : Value) × (listed : Value) × (more : List Call) × (l ≡ before ++ call a words answer ∷ []) × IsBlock σ s n p (counter_use plan) (before ++ call a words listed ∷ more)
    by (inl g) = absurd (good_on (rest_of its l) g off)
    by (inr h) = let o = h.1 in (o.before, o.last.at, o.last.words, o.last.answer, o.listed, o.more, o.is, row.block (o.before ++ call o.last.at o.last.words o.listed ∷ o.more) o.timely o.said o.over)
