-- Who has a book is in the table of clients.
use Rattle.std.proofs.Common.{◌≡◌, inl, inr, ℕ, List, [], ◌∷◌, ◌++◌, true, false, refl, sym, ap, ◌∙◌}
use Rattle.std.specs.Prelude.{◌||◌, is_some, nat_eq}
use Rattle.std.specs.Cmp.{nat_cmp_total}
use Rattle.std.specs.FinMap.{get, insert, remove}
use Rattle.std.specs.FinMap.{nat_cmp-IsAntisymmetric}
use Rattle.std.proofs.lemmas.Bool.{eq-eqb}
use Rattle.std.proofs.lemmas.List.Folds.{list_any-append}
use Rattle.std.proofs.Math.Bool.{or-true}
use Rattle.store_tables.proofs.Lookups.{decided, get-insert_other, get-remove_other, get-remove_same}
use Rattle.schedule_model.specs.Faults.{has_number}
use Rattle.schedule_world.specs.Shelves.{AreKnown, Shelf}
use Rattle.schedule_world.specs.declared.book.ClientBook.{ClientBook}

true_false : true ≡ false → ⊥
true_false e = cc

-- a table that grew
pub still : (c : ℕ) (cs : List (ℕ × ℕ)) (e : ℕ × ℕ) → has_number c cs ≡ true → has_number c (cs ++ e ∷ []) ≡ true
still c cs e h = list_any-append (λ d. nat_eq d.0 c) cs (e ∷ []) ∙ ap (λ b. b || has_number c (e ∷ [])) h

-- the newest client
pub newest : (c s : ℕ) (cs : List (ℕ × ℕ)) → has_number c (cs ++ (c, s) ∷ []) ≡ true
newest c s cs = list_any-append (λ d. nat_eq d.0 c) cs ((c, s) ∷ []) ∙ (ap (λ b. has_number c cs || (b || false)) (eq-eqb c c refl) ∙ or-true (has_number c cs))

-- a client with a book more
pub one_more_known : (m : Shelf) (cs : List (ℕ × ℕ)) (c : ℕ) (b : ClientBook) → AreKnown m cs → has_number c cs ≡ true → AreKnown (insert m c b) cs
one_more_known m cs c b known h q e =
    elim (decided nat_cmp_total nat_cmp-IsAntisymmetric q c) [
      | inl same ↦ ap (λ n. has_number n cs) same ∙ h
      | inr other ↦ known q (ap is_some (sym (get-insert_other nat_cmp_total nat_cmp-IsAntisymmetric m c b q other)) ∙ e)
    ]

-- a book less
pub one_less_known : (m : Shelf) (cs : List (ℕ × ℕ)) (c : ℕ) → AreKnown m cs → AreKnown (remove m c) cs
one_less_known m cs c known q e =
    elim (decided nat_cmp_total nat_cmp-IsAntisymmetric q c) [
      | inl same ↦ absurd (true_false (sym e ∙ ap is_some (ap (get (remove m c)) same ∙ get-remove_same nat_cmp_total nat_cmp-IsAntisymmetric m c)))
      | inr other ↦ known q (ap is_some (sym (get-remove_other nat_cmp_total nat_cmp-IsAntisymmetric m c q other)) ∙ e)
    ]
