-- Each prefix of a sound history is sound.
use Rattle.std.proofs.Common.{◌++◌, List, [], ap, append_assoc, drop, inl, inr, refl, subst, sym, ℕ, ◌∙◌, ◌∷◌, ◌≡◌, ◌⊎◌}
use Rattle.command_blocks.specs.Blocks.{IsFrontOfBlocks, IsMannered}
use Rattle.command_blocks.specs.Calls.{Call, call}
use Rattle.place_model.specs.Histories.{AllMayCome, History, IsHistoryPrefix, SystemState, and_then, calls_of, next, start_from}
use Rattle.command_blocks.specs.Setting.{Setting}
use Rattle.place_model.specs.Starts.{IsSound}
use Rattle.place_model.specs.declared.history.Entry.{Entry}
use Rattle.place_theorem.proofs.Kept.{part}
use Rattle.place_theorem.proofs.Sound.{calls-first}

calls-append : {N : Type 0} (c : ℕ) (p rest : List (Entry N)) → calls_of c (p ++ rest) ≡ calls_of c p ++ calls_of c rest
calls-append c [] rest = refl
calls-append c (e ∷ p) rest =
    calls-first c e (p ++ rest) ∙ ap (λ l. calls_of c (e ∷ []) ++ l) (calls-append c p rest) ∙ sym (append_assoc (calls_of c (e ∷ [])) (calls_of c p) (calls_of c rest)) ∙ ap (λ l. l ++ calls_of c rest) (sym (calls-first c e p))

front_part : (σ : Setting) (s : ℕ) (xs ys : List Call) → IsFrontOfBlocks σ s (xs ++ ys) → IsFrontOfBlocks σ s xs
front_part σ s xs ys h = (h.0, h.1, (ys ++ h.2.0, sym (append_assoc xs ys h.2.0) ∙ h.2.1))

both_empty : {A : Type 0} (xs ys : List A) → xs ++ ys ≡ [] → (xs ≡ []) × (ys ≡ [])
both_empty [] ys e = (refl, e)
both_empty (x ∷ xs) ys e = absurd (cc e)

-- a prefix of a list with a last item is the whole list, or a prefix of the items before it
last_or : {A : Type 0} (xs ys l : List A) (x : A) → xs ++ ys ≡ l ++ x ∷ [] → (xs ≡ l ++ x ∷ []) ⊎ ((zs : List A) × (xs ++ zs ≡ l))
last_or [] ys l x e = inr (l, refl)
last_or (a ∷ xs) ys [] x e =
    let here : a ≡ x = cc e in
    let rest = both_empty xs ys (ap (λ l. drop 1 l) e) in
    inl (λ i. here i ∷ rest.0 i)
last_or (a ∷ xs) ys (b ∷ l) x e =
    let here : a ≡ b = cc e in
    elim (last_or xs ys l x (ap (λ l. drop 1 l) e)) [
      | inl whole ↦ inl (λ i. here i ∷ whole i)
      | inr part ↦ inr (part.0, λ i. here i ∷ part.1 i)
    ]

-- a prefix of mannered calls is mannered
mannered_part : (σ : Setting) (s : ℕ) (xs ys : List Call) → IsMannered σ s (xs ++ ys) → IsMannered σ s xs
mannered_part σ s xs ys (inl h) = inl (front_part σ s xs ys h)
mannered_part σ s xs ys (inr h) = elim (last_or xs ys h.0 (call h.1 h.2 h.4) h.5) [
  | inl whole ↦
      let all : xs ++ ys ≡ xs = h.5 ∙ sym whole in
      inr (h.0, h.1, h.2, h.3, h.4, whole, h.6, λ front. h.7 (subst (IsFrontOfBlocks σ s) (sym all) front))
  | inr part ↦
      let before : IsFrontOfBlocks σ s h.0 = front_part σ s h.0 (call h.1 h.2 h.3 ∷ []) h.6 in
      inl (front_part σ s xs part.0 (subst (IsFrontOfBlocks σ s) (sym part.1) before))
]

legal_front : {N : Type 0} (w : SystemState) (p rest : List (Entry N)) → AllMayCome w (p ++ rest) → AllMayCome w p
legal_front w [] rest h = tt
legal_front w (e ∷ p) rest h = (h.0, legal_front (next w e) p rest h.1)

-- so each prefix of a sound history is sound
pub prefix_sound : {N : Type 0} (σ : Setting) (h p : History N) → IsSound σ h → IsHistoryPrefix p h → IsSound σ p
prefix_sound σ h p sound pre =
    let s : IsSound σ (and_then p pre.0) = subst (IsSound σ) (sym pre.1) sound in
    record {
      start = s.start;
      table = s.table;
      legal = legal_front (start_from p.start p.clients) p.entries pre.0 s.legal;
      mannered = λ c seed is. mannered_part σ seed (calls_of c p.entries) (calls_of c pre.0) (subst (IsMannered σ seed) (calls-append c p.entries pre.0) (s.mannered c seed is));
    }
