use Rattle.std.proofs.Common.{◌≡◌, List, [], ◌∷◌, length, Option, None, refl, arith}
use Rattle.serde_json.specs.View.{items_view}
use Rattle.serde_json.specs.declared.value.Value.{Value}
use Rattle.envelope.specs.Entries.{EntryParts, of_items}
use Rattle.envelope.proofs.entry.three_of.Goals as goal

not_three : (vs : List Value) → (length vs ≡ 3 → ⊥) → ◌≡◌ {A = Option EntryParts} None (of_items (items_view vs))
not_three [] h = refl
not_three (a ∷ []) h = refl
not_three (a ∷ b ∷ []) h = refl
not_three (a ∷ b ∷ c ∷ []) h = absurd (h refl)
not_three (a ∷ b ∷ c ∷ d ∷ rest) h = refl

pub returns-in-empty : goal.returns-in-empty
returns-in-empty c = not_three c.args.values.now (λ e. omega arith)

pub returns-in-len4-up : goal.returns-in-len4-up
returns-in-len4-up c = not_three c.args.values.now (λ e. omega arith)
