-- The messages that stand in the lists of queues. Serves the proofs of code.
use Rattle.std.specs.Prelude.{ℕ, List, [], ◌∷◌, ◌++◌, map, Option, None, Some}
use Rattle.store_model.specs.declared.held.Held.{Held}
use Rattle.store_model.specs.declared.held.Stored.{Stored}
use Rattle.store_model.specs.declared.held.Stored.TheVariants.{Items}
use Rattle.command_blocks.specs.Setting.{Setting}
use Rattle.queue_keys.specs.Names.{Bytes}
use Rattle.message_acts.specs.Numbers.{listed, number_told}

-- each message of a list with its queue and step
abbrev pub told_at : Setting → Bytes × ℕ → List Bytes → List (ℕ × (Bytes × ℕ))
told_at σ p [] = []
told_at σ p (v ∷ vs) = map (λ n. (n, p)) (listed (number_told (σ.tag_of v))) ++ told_at σ p vs

-- the messages of a value
abbrev pub told_in : Setting → Bytes × ℕ → Stored → List (ℕ × (Bytes × ℕ))
told_in σ p (Items vs) = told_at σ p vs
told_in σ p other = []

-- the messages under a key, by the queue and the step whose key it is
abbrev pub told_under : Setting → Option (Bytes × ℕ) → Held → List (ℕ × (Bytes × ℕ))
told_under σ None h = []
told_under σ (Some p) h = told_in σ p h.value

-- the messages in the lists of queues, with their queues and steps, in the order of the keys
abbrev pub standing_in : Setting → List (Bytes × Held) → List (ℕ × (Bytes × ℕ))
standing_in σ [] = []
standing_in σ (e ∷ es) = told_under σ (σ.split e.0) e.1 ++ standing_in σ es
