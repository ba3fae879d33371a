-- One entry more of those that are looked at. This serves the proofs of code.
use Rattle.std.proofs.Common.{◌≡◌, ℕ, suc, arith, ◌+◌, ◌<◌, ◌≤◌, inl, inr, List, [], ◌∷◌, ◌++◌, length, get_or, drop, refl, sym, subst, ap, ◌∙◌, append_assoc, append-nil, drop-cons, add-one}
use Rattle.std.proofs.lemmas.Grind.{common_steps}
use Rattle.beat_times.specs.Due.{AreDue, IsDue}
use Rattle.beat_times.specs.declared.timed.Timed.{Timed}

first_left : (i : ℕ) (e : Timed) (es : List Timed) → i < length es → e ≡ get_or es i e → drop i es ≡ e ∷ drop (i + 1) es
first_left i e es h is = rw (add-one, drop-cons es i e) (ap (λ x. x ∷ drop (suc i) es) (sym is))

-- one that is due
pub more_due : (now i : ℕ) (e : Timed) (es : List Timed) (found : List ℕ) → i < length es → e ≡ get_or es i e → IsDue e now → ((rest : List ℕ) → AreDue now i (drop i es) rest → AreDue now 0 es (found ++ rest))
    → (rest : List ℕ) → AreDue now (i + 1) (drop (i + 1) es) rest → AreDue now 0 es ((found ++ i ∷ []) ++ rest)
more_due now i e es found h is due so_far rest left =
    let here : AreDue now i (e ∷ drop (i + 1) es) (i ∷ rest) = inl (due, rest, refl, left) in
    subst (AreDue now 0 es) (sym (append_assoc found (i ∷ []) rest)) (so_far (i ∷ rest) (subst (λ l. AreDue now i l (i ∷ rest)) (sym (first_left i e es h is)) here))

-- one that isn't
pub more_idle : (now i : ℕ) (e : Timed) (es : List Timed) (found : List ℕ) → i < length es → e ≡ get_or es i e → (IsDue e now → ⊥) → ((rest : List ℕ) → AreDue now i (drop i es) rest → AreDue now 0 es (found ++ rest))
    → (rest : List ℕ) → AreDue now (i + 1) (drop (i + 1) es) rest → AreDue now 0 es (found ++ rest)
more_idle now i e es found h is idle so_far rest left =
    let here : AreDue now i (e ∷ drop (i + 1) es) rest = inr (idle, left) in
    so_far rest (subst (λ l. AreDue now i l rest) (sym (first_left i e es h is)) here)

nothing_left : (i : ℕ) (es : List Timed) → length es ≤ i → drop i es ≡ []
nothing_left i es h = grind (arith, common_steps)

-- all were looked at
pub all_due : (now i : ℕ) (es : List Timed) (found : List ℕ) → length es ≤ i → ((rest : List ℕ) → AreDue now i (drop i es) rest → AreDue now 0 es (found ++ rest)) → AreDue now 0 es found
all_due now i es found h so_far =
    let none : AreDue now i [] [] = refl in
    subst (AreDue now 0 es) (append-nil found) (so_far [] (subst (λ l. AreDue now i l []) (sym (nothing_left i es h)) none))
