-- The elements of a list before and after a push or a pop.
use Rattle.std.proofs.Common.{◌≡◌, ◌≢◌, ◌⊎◌, inl, inr, List, [], ◌∷◌, ◌++◌, refl, sym, ap, subst, ◌∙◌, None, Some, Option}
use Rattle.std.specs.FinMap.{get}
use Rattle.store_model.specs.Words.{Bytes, front, final}
use Rattle.store_model.specs.Replies.{pair}
use Rattle.store_model.specs.Keys.{Keys, value_at}
use Rattle.store_model.specs.Lists.{put_list, lpush, rpush, brpop, brpop_at, shortened}
use Rattle.store_model.specs.Commands.{Around, run}
use Rattle.store_model.specs.declared.command.Command.TheVariants.{Lpush, Rpush}
use Rattle.store_model.specs.declared.held.Stored.{Stored}
use Rattle.store_model.specs.declared.held.Stored.TheVariants.{Items}
use Rattle.store_laws.proofs.Answers.{pair_parts}
use Rattle.store_laws.proofs.Changes.{IsListOrNone, changed-put, changed-remove}

-- it is one of them
abbrev pub IsAmong : {A : Type 0} → A → List A → Type 0
IsAmong k [] = ⊥
IsAmong k (a ∷ ks) = (k ≡ a) ⊎ IsAmong k ks

-- the elements of a list
abbrev pub elements_of : Option Stored → List Bytes
elements_of (Some (Items xs)) = xs
elements_of other = []

-- the elements of the list under a key
abbrev pub elements_at : Keys → Bytes → List Bytes
elements_at m k = elements_of (value_at m k)

elements_put : (m : Keys) (k : Bytes) (xs : List Bytes) → elements_at (put_list m k xs).keys k ≡ xs
elements_put m k xs = ap elements_of (changed-put m k (Items xs)).here

-- LPUSH of one element puts it in front
pub lpush_elements : (e : Around) (m : Keys) (k v : Bytes) → IsListOrNone (value_at m k) → elements_at (run e m (Lpush k (v ∷ []))).keys k ≡ v ∷ elements_at m k
lpush_elements e m k v is = go (value_at m k) is
  where
    go : (o : Option Stored) → IsListOrNone o → elements_at (lpush m k (v ∷ []) o).keys k ≡ v ∷ elements_of o
    go None z = elements_put m k (v ∷ [])
    go (Some (Items xs)) z = elements_put m k (v ∷ xs)
    go (Some other) z = absurd z

-- RPUSH of one element puts it at the end
pub rpush_elements : (e : Around) (m : Keys) (k v : Bytes) → IsListOrNone (value_at m k) → elements_at (run e m (Rpush k (v ∷ []))).keys k ≡ elements_at m k ++ v ∷ []
rpush_elements e m k v is = go (value_at m k) is
  where
    go : (o : Option Stored) → IsListOrNone o → elements_at (rpush m k (v ∷ []) o).keys k ≡ elements_of o ++ v ∷ []
    go None z = elements_put m k (v ∷ [])
    go (Some (Items xs)) z = elements_put m k (xs ++ v ∷ [])
    go (Some other) z = absurd z

pub among_append : (x v : Bytes) (xs : List Bytes) → IsAmong x (xs ++ v ∷ []) → (x ≡ v) ⊎ IsAmong x xs
among_append x v [] (inl e) = inl e
among_append x v [] (inr is) = absurd is
among_append x v (y ∷ ys) (inl e) = inr (inl e)
among_append x v (y ∷ ys) (inr is) = elim (among_append x v ys is) [ inl e ↦ inl e | inr h ↦ inr (inr h) ]

pub among_front : (y x : Bytes) (xs : List Bytes) → IsAmong y (front x xs) → IsAmong y (x ∷ xs)
among_front y x [] is = absurd is
among_front y x (z ∷ zs) (inl e) = inl e
among_front y x (z ∷ zs) (inr is) = inr (among_front y z zs is)

pub among_final : (x : Bytes) (xs : List Bytes) → IsAmong (final x xs) (x ∷ xs)
among_final x [] = inl refl
among_final x (y ∷ ys) = inr (among_final y ys)

pub shortened_elements : (m : Keys) (k : Bytes) (xs : List Bytes) → elements_at (shortened m k xs) k ≡ xs
shortened_elements m k [] = ap elements_of (changed-remove m k).here
shortened_elements m k (x ∷ xs) = ap elements_of (changed-put m k (Items (x ∷ xs))).here

pub shortened_away : (m : Keys) (k q : Bytes) (xs : List Bytes) → q ≢ k → get (shortened m k xs) q ≡ get m q
shortened_away m k q [] n = (changed-remove m k).there q n
shortened_away m k q (x ∷ xs) n = (changed-put m k (Items (x ∷ xs))).there q n

-- each element of a list after a pop was there before
pub shortened_among : (m : Keys) (k x y : Bytes) (xs : List Bytes) → value_at m k ≡ Some (Items (x ∷ xs)) → IsAmong y (elements_at (shortened m k (front x xs)) k) → IsAmong y (elements_at m k)
shortened_among m k x y xs was is = subst (IsAmong y) (sym (ap elements_of was)) (among_front y x xs (subst (IsAmong y) (shortened_elements m k (front x xs)) is))

-- the element that BRPOP gives stood in its list
pub brpop_gives : (m : Keys) (ks : List Bytes) (q v : Bytes) → pair q v ≡ (brpop m ks).answer → IsAmong q ks × IsAmong v (elements_at m q)
brpop_gives m [] q v is = absurd (cc is)
brpop_gives m (k ∷ ks) q v is = go (value_at m k) refl (λ later. brpop_gives m ks q v later) is
  where
    go : (o : Option Stored) → value_at m k ≡ o → (pair q v ≡ (brpop m ks).answer → IsAmong q ks × IsAmong v (elements_at m q)) → pair q v ≡ (brpop_at m k o (brpop m ks)).answer → IsAmong q (k ∷ ks) × IsAmong v (elements_at m q)
    go None was later is' = let r = later is' in (inr r.0, r.1)
    go (Some (Items [])) was later is' = let r = later is' in (inr r.0, r.1)
    go (Some (Items (x ∷ xs))) was later is' =
        let p = pair_parts q v k (final x xs) is' in
        let here : elements_at m q ≡ x ∷ xs = ap (elements_at m) p.0 ∙ ap elements_of was in
        (inl p.0, subst (IsAmong v) (sym here) (subst (λ z. IsAmong z (x ∷ xs)) (sym p.1) (among_final x xs)))
    go (Some other) was later is' = absurd (cc is')
