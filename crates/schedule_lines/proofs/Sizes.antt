-- Words of which there are too few or too many spell no line.
use Rattle.std.proofs.Common.{◌≡◌, ◌<◌, ◌≤◌, ap, List, [], ◌∷◌, ℕ, map, length, Option, None, refl, arith}
use Rattle.std.proofs.lemmas.Grind.{common_steps}
use Rattle.std.specs.List.{join_with_byte}
use Rattle.line_text.specs.Numbers.{number_in}
use Rattle.schedule_model.specs.Lines.{begin_line, client_line, dashed_in, name_in, publish_in, made_of_four}
use Rattle.schedule_model.specs.declared.line.Asked.TheVariants.{Publish}
use Rattle.schedule_model.specs.declared.line.Asked.{Asked}
use Rattle.schedule_model.specs.declared.line.Line.{Line}

-- a client's line has three words
pub not_three : {A : Type 0} (f : A → List ℕ) (ws : List A) → (length ws ≡ 3 → ⊥) → ◌≡◌ {A = Option Line} None (client_line (map f ws))
not_three f [] h = refl
not_three f (a ∷ []) h = refl
not_three f (a ∷ b ∷ []) h = refl
not_three f (a ∷ b ∷ c ∷ []) h = absurd (h refl)
not_three f (a ∷ b ∷ c ∷ d ∷ ws) h = refl

-- a line that begins something has two words and more
pub few_begin : {A : Type 0} (f : A → List ℕ) (ws : List A) → length ws < 2 → ◌≡◌ {A = Option Line} None (begin_line (map f ws))
few_begin f [] h = refl
few_begin f (a ∷ []) h = refl
few_begin f (a ∷ b ∷ ws) h = absurd (grind (arith, common_steps, h))

-- a publication has two words and more
pub few_publish : {A : Type 0} (f : A → List ℕ) (ws : List A) → length ws < 2 → ◌≡◌ {A = Option Asked} None (publish_in (map f ws))
few_publish f [] h = refl
few_publish f (a ∷ []) h = refl
few_publish f (a ∷ b ∷ ws) h = absurd (grind (arith, common_steps, h))

-- and two more after those
pub few_more : {A : Type 0} (f : A → List ℕ) (x k : List ℕ) (ws : List A) → length ws < 2 → ◌≡◌ {A = Option Asked} None (publish_in (x ∷ k ∷ map f ws))
few_more f x k [] h = refl
few_more f x k (a ∷ []) h = refl
few_more f x k (a ∷ b ∷ ws) h = absurd (grind (arith, common_steps, h))

-- a publication, by its words and its arguments
pub publish_whole : {A : Type 0} (f : A → List ℕ) (ws : List A) (x k p t args : List ℕ) → 1 ≤ length ws → args ≡ join_with_byte 32 (map f ws) → made_of_four (λ x k p t. Publish x k p t args) (dashed_in x) (dashed_in k) (number_in 0 255 p) (name_in t) ≡ publish_in (x ∷ k ∷ p ∷ t ∷ map f ws)
publish_whole f [] x k p t args h e = absurd (grind (arith, common_steps, h))
publish_whole f (w ∷ ws) x k p t args h e = ap (λ j. made_of_four (λ x k p t. Publish x k p t j) (dashed_in x) (dashed_in k) (number_in 0 255 p) (name_in t)) e
