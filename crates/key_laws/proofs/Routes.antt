-- What a lookup gives.
use Rattle.std.proofs.Common.{◌≡◌, ℕ, List, [], ◌∷◌, ◌++◌, drop, Bool, true, false, ◌&&◌, ◌==◌, if◌then◌else◌, refl, sym, ap, subst, ◌∙◌, None, Some, Option, unwrap_or}
use Rattle.std.specs.declared.cmp.Ordering.{Ordering}
use Rattle.std.specs.declared.cmp.Ordering.TheVariants.{Less, Equal, Greater}
use Rattle.std.specs.Ordering.{nat_cmp, match_ordering, ordering_reverse}
use Rattle.std.specs.Cmp.Lexicographic.{slice_cmp}
use Rattle.std.proofs.lemmas.Cmp.{tied_itself}
use Rattle.queue_keys.specs.Names.{Bytes, is_name, is_free, all_free, has_front}
use Rattle.queue_keys.specs.Layouts.{Layout, HasStep}
use Rattle.queue_keys.specs.QueueKeys.{is_queue_key, Each, IsAway, Differ}
use Rattle.queue_keys.specs.Bindings.{Binding, member, parts, onto_parts, of_parts, binding_of}
use Rattle.queue_keys.specs.Lookup.{binds, insert_once, with_bound_queue, lookup, queues_for, route_keys}
use Rattle.queue_keys.proofs.Basics.{bytes_total, and_true, none_some}
use Rattle.queue_keys.proofs.Splits.{name_free, not_six}
use Rattle.key_laws.specs.Lookups.{AreInByteOrder, IsBelowAll}
use Rattle.key_laws.proofs.Lists.{at_are, at_differ}

-- ---- names

one_named : (b : Binding) (r x q : Bytes) → (if is_name q then Some (record { routing_key = r; pattern = x; queue = q }) else None) ≡ Some b → is_name b.queue ≡ true
one_named b r x q e = go (is_name q) refl e
  where
    go : (t : Bool) → is_name q ≡ t → (if t then Some (record { routing_key = r; pattern = x; queue = q }) else None) ≡ Some b → is_name b.queue ≡ true
    go true i f = subst (λ y. is_name y ≡ true) (ap (λ (o : Option Binding). (unwrap_or o b).queue) f) i
    go false i f = none_some _ b f

parts_named : (ps : List Bytes) (b : Binding) → of_parts ps ≡ Some b → is_name b.queue ≡ true
parts_named [] b e = none_some _ b e
parts_named (r ∷ []) b e = none_some _ b e
parts_named (r ∷ x ∷ []) b e = none_some _ b e
parts_named (r ∷ x ∷ q ∷ []) b e = one_named b r x q e
parts_named (r ∷ x ∷ q ∷ p ∷ ps) b e = none_some _ b e

pub binding_named : (m : Bytes) (b : Binding) → binding_of m ≡ Some b → is_name b.queue ≡ true
unfolding binding_of
binding_named m b e = parts_named (parts m) b e

insert_named : (q : Bytes) (xs : List Bytes) → is_name q ≡ true → Each is_name xs → Each is_name (insert_once q xs)
insert_named q [] n e = (n, tt)
insert_named q (x ∷ xs) n e =
    elim (slice_cmp nat_cmp q x) as (λ r. Each is_name (match_ordering r (q ∷ x ∷ xs) (x ∷ xs) (x ∷ insert_once q xs))) [
      | Less ↦ (n, e)
      | Equal ↦ e
      | Greater ↦ (e.0, insert_named q xs n e.1)
    ]

with_named : (r : Bytes) (o : Option Binding) (qs : List Bytes) → ((b : Binding) → o ≡ Some b → is_name b.queue ≡ true) → Each is_name qs → Each is_name (with_bound_queue r o qs)
with_named r None qs h e = e
with_named r (Some b) qs h e = elim (binds r b) as (λ t. Each is_name (if t then insert_once b.queue qs else qs)) [ true ↦ insert_named b.queue qs (h b refl) e | false ↦ e ]

pub lookup_named : (r : Bytes) (ms : List Bytes) → Each is_name (lookup r ms)
lookup_named r [] = tt
lookup_named r (m ∷ ms) = with_named r (binding_of m) (lookup r ms) (binding_named m) (lookup_named r ms)

-- ---- members

pub parts_there : (bs : Bytes) → (p : Bytes) × (ps : List Bytes) × (parts bs ≡ p ∷ ps)
parts_there [] = ([], [], refl)
parts_there (b ∷ bs) =
    let h = parts_there bs in
    subst (λ (x : List Bytes). (p : Bytes) × (ps : List Bytes) × (onto_parts b x ≡ p ∷ ps)) (sym h.2) (elim ((b == 6) && has_front (22 ∷ []) h.0) as (λ t. (p : Bytes) × (ps : List Bytes) × ((if t then [] ∷ drop 1 h.0 ∷ h.1 else (b ∷ h.0) ∷ h.1) ≡ p ∷ ps)) [
      | true ↦ ([], drop 1 h.0 ∷ h.1, refl)
      | false ↦ (b ∷ h.0, h.1, refl)
    ])

pub parts_after : (bs : Bytes) → parts (6 ∷ 22 ∷ bs) ≡ [] ∷ parts bs
parts_after bs = let h = parts_there bs in rw (h.2) refl

parts_front : (r bs : Bytes) → all_free r ≡ true → parts (r ++ (6 ∷ 22 ∷ bs)) ≡ r ∷ parts bs
parts_front [] bs f = parts_after bs
parts_front (b ∷ r) bs f = let g = and_true (is_free b) (all_free r) f in rw (parts_front r bs g.1, not_six b g.0) refl

pub parts_only : (q : Bytes) → all_free q ≡ true → parts q ≡ q ∷ []
parts_only [] f = refl
parts_only (b ∷ q) f = let g = and_true (is_free b) (all_free q) f in rw (parts_only q g.1, not_six b g.0) refl

-- a member is read as the binding that it was made of
pub binding_of-member : (r x q : Bytes) → all_free r ≡ true → all_free x ≡ true → is_name q ≡ true → binding_of (member r x q) ≡ Some (record { routing_key = r; pattern = x; queue = q })
unfolding binding_of
binding_of-member r x q f g n = rw (parts_front r (x ++ (6 ∷ 22 ∷ q)) f, parts_front x q g, parts_only q (name_free q n).1, n) refl

-- ---- order

above_less : (q x : Bytes) (xs : List Bytes) → slice_cmp nat_cmp q x ≡ Less → IsBelowAll x xs → IsBelowAll q xs
above_less q x [] e a = tt
above_less q x (y ∷ xs) e a = (bytes_total.trans q x y e a.0, above_less q x xs e a.1)

turned : (r s : Ordering) → r ≡ Greater → s ≡ ordering_reverse r → s ≡ Less
turned r s e f = f ∙ ap ordering_reverse e

above_insert : (x q : Bytes) (xs : List Bytes) → slice_cmp nat_cmp x q ≡ Less → IsBelowAll x xs → IsBelowAll x (insert_once q xs)
above_insert x q [] e a = (e, tt)
above_insert x q (y ∷ xs) e a =
    elim (slice_cmp nat_cmp q y) as (λ r. IsBelowAll x (match_ordering r (q ∷ y ∷ xs) (y ∷ xs) (y ∷ insert_once q xs))) [
      | Less ↦ (e, a)
      | Equal ↦ a
      | Greater ↦ (a.0, above_insert x q xs e a.1)
    ]

insert_rising : (q : Bytes) (xs : List Bytes) → AreInByteOrder xs → AreInByteOrder (insert_once q xs)
insert_rising q [] h = (tt, tt)
insert_rising q (x ∷ xs) h =
    elim (slice_cmp nat_cmp q x) as (λ r. slice_cmp nat_cmp q x ≡ r → AreInByteOrder (match_ordering r (q ∷ x ∷ xs) (x ∷ xs) (x ∷ insert_once q xs))) [
      | Less ↦ λ e. ((e, above_less q x xs e h.0), h)
      | Equal ↦ λ e. h
      | Greater ↦ λ e. (above_insert x q xs (turned (slice_cmp nat_cmp q x) (slice_cmp nat_cmp x q) e (bytes_total.antisymm x q)) h.0, insert_rising q xs h.1)
    ] refl

with_rising : (r : Bytes) (o : Option Binding) (qs : List Bytes) → AreInByteOrder qs → AreInByteOrder (with_bound_queue r o qs)
with_rising r None qs e = e
with_rising r (Some b) qs e = elim (binds r b) as (λ t. AreInByteOrder (if t then insert_once b.queue qs else qs)) [ true ↦ insert_rising b.queue qs e | false ↦ e ]

-- a lookup is in byte order
pub lookup_rising : (r : Bytes) (ms : List Bytes) → AreInByteOrder (lookup r ms)
lookup_rising r [] = tt
lookup_rising r (m ∷ ms) = with_rising r (binding_of m) (lookup r ms) (lookup_rising r ms)

pub less_off : (q x : Bytes) → slice_cmp nat_cmp q x ≡ Less → q ≡ x → ⊥
less_off q x e i = off (sym (subst (λ y. slice_cmp nat_cmp q y ≡ Less) (sym i) e) ∙ tied_itself bytes_total q)
  where
    off : Less ≡ Equal → ⊥
    off e = cc

above_away : (q : Bytes) (xs : List Bytes) → IsBelowAll q xs → IsAway q xs
above_away q [] a = tt
above_away q (x ∷ xs) a = (less_off q x a.0, above_away q xs a.1)

rising_differ : (xs : List Bytes) → AreInByteOrder xs → Differ xs
rising_differ [] h = tt
rising_differ (x ∷ xs) h = (above_away x xs h.0, rising_differ xs h.1)

-- ---- the keys

pub queues_named : (e r : Bytes) (ms : List Bytes) → Each is_name (queues_for e r ms)
queues_named [] r ms = elim (is_name r) as (λ t. is_name r ≡ t → Each is_name (if t then r ∷ [] else [])) [ true ↦ λ i. (i, tt) | false ↦ λ i. tt ] refl
queues_named (b ∷ e) r ms = lookup_named r ms

pub queues_differ : (e r : Bytes) (ms : List Bytes) → Differ (queues_for e r ms)
queues_differ [] r ms = elim (is_name r) as (λ t. Differ (if t then r ∷ [] else [])) [ true ↦ (tt, tt) | false ↦ tt ]
queues_differ (b ∷ e) r ms = rising_differ (lookup r ms) (lookup_rising r ms)

pub routes_are : (l : Layout) (s : ℕ) (e r : Bytes) (ms : List Bytes) → HasStep l.steps s → Each (is_queue_key l) (route_keys l s e r ms)
routes_are l s e r ms h = at_are l s (queues_for e r ms) h (queues_named e r ms)

pub routes_differ : (l : Layout) (s : ℕ) (e r : Bytes) (ms : List Bytes) → HasStep l.steps s → Differ (route_keys l s e r ms)
routes_differ l s e r ms h = at_differ l s (queues_for e r ms) h (queues_named e r ms) (queues_differ e r ms)

-- the empty exchange needs no members
pub routes_alone : (l : Layout) (s : ℕ) (r : Bytes) (ms : List Bytes) → route_keys l s [] r ms ≡ route_keys l s [] r []
routes_alone l s r ms = refl
