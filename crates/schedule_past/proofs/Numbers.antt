-- Numbers and seeds of clients.
use Rattle.std.proofs.Common.{◌≡◌, ◌⊎◌, inl, inr, ℕ, List, [], ◌∷◌, Bool, true, false, refl, sym, ◌∙◌}
use Rattle.std.specs.Prelude.{◌||◌, nat_eq}
use Rattle.std.proofs.lemmas.Bool.{eqb-true}
use Rattle.std.proofs.lemmas.Bool.Decides.{eqb_tells}
use Rattle.place_model.specs.Histories.{connections, seeds}
use Rattle.queue_keys.specs.QueueKeys.{Among, IsAway}
use Rattle.schedule_model.specs.Faults.{has_number, has_seed}

true_false : true ≡ false → ⊥
true_false e = cc

or_false : (a b : Bool) → (a || b) ≡ false → (a ≡ false) × (b ≡ false)
or_false true b e = absurd (true_false e)
or_false false b e = (refl, e)

head_away : {P : Type 0} (a b : ℕ) → nat_eq a b ≡ false → b ≡ a → P
head_away a b e h = elim (eqb_tells a b) [ inl w ↦ absurd (true_false (sym w.0 ∙ e)) | inr w ↦ absurd (w.1 (sym h)) ]

or_true : (a b : Bool) → (a || b) ≡ true → (a ≡ true) ⊎ (b ≡ true)
or_true true b e = inl refl
or_true false b e = inr e

-- a number that is in the table
pub among : (c : ℕ) (cs : List (ℕ × ℕ)) → has_number c cs ≡ true → Among c (connections cs)
among c [] e = absurd (true_false (sym e))
among c (d ∷ ds) e = elim (or_true (nat_eq d.0 c) (has_number c ds) e) [ inl w ↦ inl (sym (eqb-true d.0 c w)) | inr w ↦ inr (among c ds w) ]

-- a number that isn't
pub away : (c : ℕ) (cs : List (ℕ × ℕ)) → has_number c cs ≡ false → IsAway c (connections cs)
away c [] e = tt
away c (d ∷ ds) e = let p = or_false (nat_eq d.0 c) (has_number c ds) e in (λ h. head_away d.0 c p.0 h, away c ds p.1)

-- a seed that isn't
pub seed_away : (s : ℕ) (cs : List (ℕ × ℕ)) → has_seed s cs ≡ false → IsAway s (seeds cs)
seed_away s [] e = tt
seed_away s (d ∷ ds) e = let p = or_false (nat_eq d.1 s) (has_seed s ds) e in (λ h. head_away d.1 s p.0 h, seed_away s ds p.1)
