-- A tag that is accepted once has a place.
use Rattle.std.proofs.Common.{◌+◌, List, None, Option, Some, [], arith, if◌then◌else◌, is_some, refl, subst, suc, sym, zero, ℕ, ◌∙◌, ◌∷◌, ◌≡◌, ◌≤◌}
use Rattle.std.specs.FinMap.{entries}
use Rattle.store_model.specs.declared.held.Held.{Held}
use Rattle.place_model.specs.Counts.{IsAccepted, IsSingle, direct_pushes, end_weight, hand_weight, in_held, in_value, loss_weight, over_clients, place_count, start_count, table_count, total}
use Rattle.place_model.specs.Histories.{History, IsHistoryPrefix, SystemState, after}
use Rattle.queue_keys.specs.Names.{Bytes}
use Rattle.place_model.specs.PlaceOf.{by_counts, first_place, first_with, if_any, list_place, or_place, pick, place_of}
use Rattle.place_model.specs.Starts.{IsSound}
use Rattle.place_model.specs.declared.place.Place.{Place}
use Rattle.place_model.specs.declared.place.Place.TheVariants.{Ended, Hand, Lost, Never, Unacked}
use Rattle.place_theorem.proofs.Full.{Full}
use Rattle.place_theorem.proofs.Sound.{placed_one}

first_nothing : {K X : Type 0} (f : K → X → ℕ) (es : List (K × X)) → first_with f es ≡ None → total f es ≡ 0
first_nothing f [] is = refl
first_nothing f (e ∷ es) is = go (f e.0 e.1) refl is (λ r. first_nothing f es r)
  where
    go : (n : ℕ) → f e.0 e.1 ≡ n → pick n e.0 (first_with f es) ≡ None → (first_with f es ≡ None → total f es ≡ 0) → f e.0 e.1 + total f es ≡ 0
    go zero n is' rest = let r = rest is' in omega (arith, n, r)
    go (suc k) n is' rest = absurd (cc is')

-- a key that was found has a weight
first_found : {K X : Type 0} (f : K → X → ℕ) (k : K) (es : List (K × X)) → first_with f es ≡ Some k → (x : X) × (1 ≤ f k x)
first_found f k [] is = absurd (cc is)
first_found {K = K} {X = X} f k (e ∷ es) is = go (f e.0 e.1) refl is (λ r. first_found f k es r)
  where
    go : (n : ℕ) → f e.0 e.1 ≡ n → pick n e.0 (first_with f es) ≡ Some k → (first_with f es ≡ Some k → (x : X) × (1 ≤ f k x)) → (x : X) × (1 ≤ f k x)
    go zero n is' rest = rest is'
    go (suc j) n is' rest = let s : e.0 ≡ k = cc is' in (e.1, subst (λ y. 1 ≤ f y e.1) s (omega (arith, n)))

or_never : {K : Type 0} (f : K → Place) (o : Option K) (p : Place) → ((k : K) → o ≡ Some k → f k ≡ Never → ⊥) → or_place f o p ≡ Never → (o ≡ None) × (p ≡ Never)
or_never f None p some e = (refl, e)
or_never f (Some k) p some e = absurd (some k refl e)

any_never : (n : ℕ) (here later : Place) → (here ≡ Never → ⊥) → if_any n here later ≡ Never → (n ≡ 0) × (later ≡ Never)
any_never zero here later some e = (refl, e)
any_never (suc n) here later some e = absurd (some e)

-- the key of a list that was found is a queue's
listed : (σ : Full) (w : SystemState) (t k : Bytes) → first_with (in_held σ.names t) (entries w.store.keys) ≡ Some k → list_place (σ.names.split k) ≡ Never → ⊥
listed σ w t k found = let x = first_found (in_held σ.names t) k (entries w.store.keys) found in go x.0 (σ.names.split k) x.1
  where
    go : (h : Held) (o : Option (Bytes × ℕ)) → 1 ≤ (if is_some o then in_value σ.names t h.value else 0) → list_place o ≡ Never → ⊥
    go h None le e = omega (arith, le)
    go h (Some q) le e = absurd (cc e)

-- with no place nothing is counted
nowhere : (σ : Full) (w : SystemState) (t : Bytes) → first_place σ.names w t ≡ Never → place_count σ.names w t ≡ 0
nowhere σ w t e =
    let a = or_never (λ k. list_place (σ.names.split k)) (first_with (in_held σ.names t) (entries w.store.keys)) _ (λ k found z. listed σ w t k found z) e in
    let b = any_never (table_count σ.names w.store.keys t) Unacked _ (λ z. cc z) a.1 in
    let c = or_never Hand (first_with (hand_weight σ.names t) (entries w.clients)) _ (λ k found z. cc z) b.1 in
    let d = any_never (over_clients w (end_weight σ.names t)) Ended _ (λ z. cc z) c.1 in
    let f = or_never Lost (first_with (loss_weight σ.names t) (entries w.clients)) Never (λ k found z. cc z) d.1 in
    let l = first_nothing (in_held σ.names t) (entries w.store.keys) a.0 in
    let h = first_nothing (hand_weight σ.names t) (entries w.clients) c.0 in
    let s = first_nothing (loss_weight σ.names t) (entries w.clients) f.0 in
    omega (arith, l, b.0, h, d.0, s)

-- an accepted and single tag has a place
pub somewhere : {N : Type 0} (σ : Full) (h p : History N) (t : Bytes) → IsSound σ.names h → IsHistoryPrefix p h → IsAccepted σ.names p t → IsSingle σ.names p t → place_of σ.names p t ≡ Never → ⊥
somewhere σ h p t sound pre accepted single never =
    let w = after p in
    let one : start_count σ.names p.start t + direct_pushes σ.names w t ≡ 1 = omega (arith, accepted, single.0) in
    let all = (placed_one σ h p t sound pre accepted single).0 in
    let is : first_place σ.names w t ≡ Never = (λ i. by_counts (sym one i) (sym single.1 i) (first_place σ.names w t)) ∙ never in
    let none = nowhere σ w t is in
    omega (arith, all, none)
