-- What a transaction ended, once all its answers were looked at.
use Rattle.std.proofs.Common.{◌≡◌, ◌≤◌, ◌⊎◌, inl, inr, ◌++◌, List, [], ◌∷◌, ℕ, sym, ap, ◌∙◌, refl, not, filter, length, drop, arith, append-nil}
use Rattle.std.proofs.lemmas.Grind.{common_steps}
use Rattle.wire_values.specs.declared.value.Value.{Value}
use Rattle.message_acts.specs.Numbers.{has}
use Rattle.message_acts.specs.Transactions.{ended_in, pushed, taken}
use Rattle.message_acts.specs.declared.act.Act.{Act}

nothing_left : {A : Type 0} (xs : List A) (i : ℕ) → length xs ≤ i → drop i xs ≡ []
nothing_left xs i h = grind (arith, common_steps)

none_taken : (acts : List Act) → taken acts [] ≡ []
none_taken [] = refl
none_taken (a ∷ acts) = refl

taken_end : (acts : List Act) (rs : List Value) (i : ℕ) → (length acts ≤ i) ⊎ (length rs ≤ i) → taken (drop i acts) (drop i rs) ≡ []
taken_end acts rs i (inl h) = ap (λ x. taken x (drop i rs)) (nothing_left acts i h)
taken_end acts rs i (inr h) = ap (taken (drop i acts)) (nothing_left rs i h) ∙ none_taken (drop i acts)

-- at the end of the commands or of their answers
pub ended_all : (acts : List Act) (rs : List Value) (pushes list first ended : List ℕ) (i : ℕ) → (length acts ≤ i) ⊎ (length rs ≤ i) → pushes ≡ list → list ≡ pushed acts
    → ended ++ filter (λ n. not (has n pushes)) (taken (drop i acts) (drop i rs)) ≡ first ++ filter (λ n. not (has n pushes)) (taken acts rs) → ended ≡ first ++ ended_in acts rs
ended_all acts rs pushes list first ended i stop e f inv =
    sym (append-nil ended) ∙ ap (λ x. ended ++ filter (λ n. not (has n pushes)) x) (sym (taken_end acts rs i stop)) ∙ inv ∙ ap (λ x. first ++ filter (λ n. not (has n x)) (taken acts rs)) (e ∙ f)
