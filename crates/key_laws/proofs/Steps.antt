-- A priority has a step of a lawful layout.
use Rattle.std.proofs.Common.{◌≡◌, refl, inl, inr, ℕ, List, [], ◌∷◌, true, false, ◌==◌, nat_le, if◌then◌else◌}
use Rattle.queue_keys.specs.Layouts.{Layout, HasStep, is_layout, is_prefix, rises_from_zero, rises, step_from, step_of}
use Rattle.queue_keys.proofs.Basics.{and_true, eqb_true}

step_from_has : (s : ℕ) (ts : List ℕ) (p : ℕ) → HasStep (s ∷ ts) (step_from s ts p)
step_from_has s [] p = inl refl
step_from_has s (t ∷ ts) p = elim (nat_le t p) as (λ b. HasStep (s ∷ t ∷ ts) (if b then step_from t ts p else s)) [ true ↦ inr (step_from_has t ts p) | false ↦ inl refl ]

from_zero : (ss : List ℕ) (p : ℕ) → rises_from_zero ss ≡ true → HasStep ss (step_from 0 ss p)
from_zero [] p e = cc
from_zero (s ∷ ss) p e =
    elim (nat_le s p) as (λ b. HasStep (s ∷ ss) (if b then step_from s ss p else 0)) [
      | true ↦ step_from_has s ss p
      | false ↦ inl (eqb_true s 0 (and_true (s == 0) (rises s ss) e).0)
    ]

pub has_step : (l : Layout) (p : ℕ) → is_layout l ≡ true → HasStep l.steps (step_of l p)
has_step l p e = from_zero l.steps p (and_true (is_prefix l.prefix) (rises_from_zero l.steps) e).1
