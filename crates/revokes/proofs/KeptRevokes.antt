-- What a map's entries are as revokes. This serves the proofs of code.
use Rattle.std.proofs.Common.{◌≡◌, ℕ, zero, suc, Bool, true, false, ◌+◌, ◌<◌, ◌≤◌, cond, List, [], ◌∷◌, ◌++◌, length, drop, refl, sym, ap, subst, ◌∙◌, arith, Option, None, Some}
use Rattle.std.specs.Prelude.{bytes_eq, nat_lt, remove, if◌then◌else◌}
use Rattle.std.proofs.lemmas.Bool.Decides.{nat_tests}
use Rattle.std.specs.declared.alloc.Global.{Global}
use Rattle.std.specs.declared.vec.Vec.{Vec}
use Rattle.indexmap.specs.IndexMap.{insert_entry, shift_remove_entry}
use Rattle.std.specs.Map.{lookup}
use Rattle.revokes.specs.Kept.{revokes_of}
use Rattle.revokes.specs.Revokes.{Revoke, bounded, is_live, live_ids, second_of, without}

-- an entry: the bytes of an id, and its second
abbrev pub Entry : Type 0
Entry = Vec ℕ Global × ℕ

pub second_kept : (id : List ℕ) (es : List Entry) → lookup (λ k. bytes_eq id k.items) es ≡ second_of id (revokes_of es)
second_kept id [] = refl
second_kept id (e ∷ es) = ap (λ r. cond (bytes_eq id e.0.items) (Some e.1) r) (second_kept id es)

pub without_kept : (id : List ℕ) (es : List Entry) → revokes_of (shift_remove_entry (λ k. bytes_eq id k.items) es) ≡ without id (revokes_of es)
without_kept id [] = refl
without_kept id (e ∷ es) = by (bytes_eq id e.0.items) (without_kept id es) where
  by : (b : Bool) → revokes_of (shift_remove_entry (λ k. bytes_eq id k.items) es) ≡ without id (revokes_of es)
      → revokes_of (cond b es (e ∷ shift_remove_entry (λ k. bytes_eq id k.items) es)) ≡ cond b (revokes_of es) ((e.0.items, e.1) ∷ without id (revokes_of es))
  by true h = refl
  by false h = ap (λ rs. (e.0.items, e.1) ∷ rs) h

-- an id that isn't there goes to the end
new_last : (es : List Entry) (key : Vec ℕ Global) (now : ℕ) → lookup (λ k. bytes_eq key.items k.items) es ≡ None → revokes_of (insert_entry (λ x y. bytes_eq x.items y.items) es key now) ≡ revokes_of es ++ (key.items, now) ∷ []
new_last [] key now h = refl
new_last (e ∷ es) key now h = by (bytes_eq key.items e.0.items) h (new_last es key now) where
  by : (b : Bool) → cond b (Some e.1) (lookup (λ k. bytes_eq key.items k.items) es) ≡ None
      → (lookup (λ k. bytes_eq key.items k.items) es ≡ None → revokes_of (insert_entry (λ x y. bytes_eq x.items y.items) es key now) ≡ revokes_of es ++ (key.items, now) ∷ [])
      → revokes_of (cond b ((e.0, now) ∷ es) (e ∷ insert_entry (λ x y. bytes_eq x.items y.items) es key now)) ≡ (e.0.items, e.1) ∷ (revokes_of es ++ (key.items, now) ∷ [])
  by true k r = cc
  by false k r = ap (λ rs. (e.0.items, e.1) ∷ rs) (r k)

-- an id is taken out, and then put at the end
pub added : (id q : List ℕ) (now : ℕ) (es rs fs gs : List Entry) (key : Vec ℕ Global) → key.items ≡ id → q ≡ key.items → rs ≡ es → fs ≡ shift_remove_entry (λ k. bytes_eq q k.items) rs
    → lookup (λ k. bytes_eq q k.items) fs ≡ None → gs ≡ insert_entry (λ x y. bytes_eq x.items y.items) fs key now → revokes_of gs ≡ without id (revokes_of es) ++ (id, now) ∷ []
added id q now es rs fs gs key same asked old taken none put =
    let gone : lookup (λ k. bytes_eq key.items k.items) fs ≡ None = subst (λ b. lookup (λ k. bytes_eq b k.items) fs ≡ None) asked none in
    ap revokes_of put ∙ new_last fs key now gone
    ∙ ap (λ l. revokes_of l ++ (key.items, now) ∷ []) (taken ∙ ap (λ l. shift_remove_entry (λ k. bytes_eq q k.items) l) old)
    ∙ ap (λ l. l ++ (key.items, now) ∷ []) (without_kept q es)
    ∙ ap (λ b. without b (revokes_of es) ++ (key.items, now) ∷ []) (asked ∙ same)
    ∙ ap (λ b. without id (revokes_of es) ++ (b, now) ∷ []) same

pub length_kept : (es : List Entry) → length (revokes_of es) ≡ length es
length_kept [] = refl
length_kept (e ∷ es) = ap suc (length_kept es)

-- as many as may be kept are kept
pub all_kept : (es : List Entry) → length es ≤ 50000 → revokes_of es ≡ bounded (revokes_of es)
all_kept es h =
    let few : nat_lt 50000 (length (revokes_of es)) ≡ false = few_is (length (revokes_of es)) (omega (arith, length_kept es)) in
    sym (ap (λ b. if b then drop 1 (revokes_of es) else revokes_of es) few) where
      few_is : (n : ℕ) → n ≤ 50000 → nat_lt 50000 n ≡ false
      few_is n k = grind (arith, nat_tests)

first_gone : (es : List Entry) → revokes_of (remove es 0) ≡ drop 1 (revokes_of es)
first_gone [] = refl
first_gone (e ∷ es) = refl

-- of one more the first is dropped
pub first_dropped : (es : List Entry) → 50000 < length es → revokes_of (remove es 0) ≡ bounded (revokes_of es)
first_dropped es h =
    let many : nat_lt 50000 (length (revokes_of es)) ≡ true = many_is (length (revokes_of es)) (omega (arith, length_kept es)) in
    first_gone es ∙ sym (ap (λ b. if b then drop 1 (revokes_of es) else revokes_of es) many) where
      many_is : (n : ℕ) → 50000 < n → nat_lt 50000 n ≡ true
      many_is n k = grind (arith, nat_tests)

pub length_shorter : (es : List Entry) → length es ≤ 50001 → length (remove es 0) ≤ 50000
length_shorter [] h = omega arith
length_shorter (e ∷ es) h = shorter (length es) h where
  shorter : (n : ℕ) → suc n ≤ 50001 → n ≤ 50000
  shorter n k = omega arith
