-- Words with a space between them, as they are written one after the other.
use Rattle.std.proofs.Common.{◌≡◌, ℕ, List, [], ◌∷◌, ◌++◌, ap, map}
use Rattle.std.proofs.lemmas.List.{append-nil}
use Rattle.std.specs.List.{flat_map, join_with_byte}

-- the first word, and each other behind the byte between them
pub joined_onto : {A : Type 0} (c : ℕ) (f : A → List ℕ) (w : List ℕ) (ws : List A) → w ++ flat_map (λ v. c ∷ f v) ws ≡ join_with_byte c (w ∷ map f ws)
joined_onto c f w [] = append-nil w
joined_onto c f w (v ∷ ws) = ap (λ t. w ++ c ∷ t) (joined_onto c f (f v) ws)
