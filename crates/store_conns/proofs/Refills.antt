-- A map that is moved over entry by entry, each changed on the way.
use Rattle.std.proofs.Common.{◌≡◌, List, [], ◌∷◌, Bool, true, false, cond, refl, sym, ap, ◌∙◌, ◌<◌, None, Some, Option, map, length, arith}
use Rattle.std.specs.declared.cmp.Ordering.{Ordering}
use Rattle.std.specs.declared.cmp.Ordering.TheVariants.{Less}
use Rattle.std.specs.Ordering.{eq_by_cmp, is_eq}
use Rattle.std.specs.Cmp.{IsTotalOrder}
use Rattle.std.specs.List.{AllByRecursion}
use Rattle.std.specs.List.Sorted.{IsStrictlySortedBy}
use Rattle.std.specs.Map.{keys_of}
use Rattle.std.specs.FinMap.{FinMap, get, insert, empty, from_entries, same_map, get-insert, get-empty, get-from_entries, IsAntisymmetric}
use Rattle.std.specs.FinMap.Entries.{find}
use Rattle.store_tables.proofs.Lookups.{tied_same}

module _ {K X : Type 0} {R : K → K → Ordering} (o : IsTotalOrder R) (anti : IsAntisymmetric R) (f : X → X) where
  -- the entries are put in from the first on
  abbrev pub refilled : FinMap R X → List (K × X) → FinMap R X
  refilled m [] = m
  refilled m (e ∷ es) = refilled (insert m e.0 (f e.1)) es

  abbrev pub changed : List (K × X) → List (K × X)
  changed es = map (λ e. (e.0, f e.1)) es

  abbrev or_else : Option X → Option X → Option X
  or_else None y = y
  or_else (Some x) y = Some x

  -- none of the entries has this key
  not_below : (q : K) (es : List (K × X)) → AllByRecursion (λ y. R q y ≡ Less) (keys_of es) → find R q (changed es) ≡ None
  not_below q [] h = refl
  not_below q (e ∷ es) h = ap (λ r. cond (is_eq r) (Some (f e.1)) (find R q (changed es))) h.0 ∙ not_below q es h.1

  turned : (b : Bool) (F G : Option X) (v : X) → (b ≡ true → F ≡ None) → or_else F (cond b (Some v) G) ≡ or_else (cond b (Some v) F) G
  turned true F G v n = ap (λ t. or_else t (Some v)) (n refl)
  turned false F G v n = refl

  get-refilled : (es : List (K × X)) → IsStrictlySortedBy R (keys_of es) → (m : FinMap R X) (q : K) → get (refilled m es) q ≡ or_else (find R q (changed es)) (get m q)
  unfolding IsStrictlySortedBy
  get-refilled [] h m q = refl
  get-refilled (e ∷ es) h m q =
      get-refilled es h.1 (insert m e.0 (f e.1)) q
      ∙ ap (or_else (find R q (changed es))) (get-insert o m e.0 (f e.1) q)
      ∙ turned (eq_by_cmp R q e.0) (find R q (changed es)) (get m q) (f e.1) (λ t. ap (λ k. find R k (changed es)) (tied_same o anti q e.0 t) ∙ not_below e.0 es h.0)

  or_none : (x : Option X) → or_else x None ≡ x
  or_none None = refl
  or_none (Some x) = refl

  -- that is the map of the changed entries
  pub refilled-all : (es : List (K × X)) → IsStrictlySortedBy R (keys_of es) → refilled empty es ≡ from_entries (changed es)
  refilled-all es h = same_map o anti _ _ (λ q.
      get-refilled es h empty q ∙ ap (or_else (find R q (changed es))) (get-empty R q) ∙ or_none (find R q (changed es))
      ∙ sym (get-from_entries o (changed es) q))

  -- one entry was moved over
  pub refilled-step : (m n goal : FinMap R X) (all rest : List (K × X)) (k : K) (v w : X) → refilled m all ≡ goal → all ≡ (k, v) ∷ rest → n ≡ insert m k w → w ≡ f v → refilled n rest ≡ goal
  refilled-step m n goal all rest k v w so front put is =
      ap (λ t. refilled t rest) (put ∙ ap (insert m k) is) ∙ ap (refilled m) (sym front) ∙ so

  -- all were moved over
  pub refilled-done : (m : FinMap R X) (all es : List (K × X)) → refilled m all ≡ refilled empty es → all ≡ [] → IsStrictlySortedBy R (keys_of es) → m ≡ from_entries (changed es)
  refilled-done m all es so none h = ap (refilled m) (sym none) ∙ so ∙ refilled-all es h

pub nothing_left : {A : Type 0} (all : List A) → (0 < length all → false ≡ true) → all ≡ []
nothing_left [] n = refl
nothing_left (x ∷ xs) n = let clash : false ≡ true = n (omega arith) in cc
