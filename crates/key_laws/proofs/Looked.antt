-- What a lookup gives, by its members and by the order.
use Rattle.std.proofs.Common.{◌≡◌, ◌⊎◌, ℕ, List, [], ◌∷◌, ◌++◌, drop, Bool, true, false, ◌&&◌, ◌==◌, if◌then◌else◌, refl, sym, ap, subst, ◌∙◌, None, Some, Option, inl, inr}
use Rattle.std.specs.declared.cmp.Ordering.TheVariants.{Less, Equal, Greater}
use Rattle.std.specs.Ordering.{nat_cmp, match_ordering}
use Rattle.std.specs.Cmp.Lexicographic.{slice_cmp}
use Rattle.queue_keys.specs.Names.{Bytes, has_front, is_name, same}
use Rattle.queue_keys.specs.QueueKeys.{Among}
use Rattle.queue_keys.specs.Bindings.{Binding, member, parts, onto_parts, of_parts, binding_of}
use Rattle.queue_keys.specs.Lookup.{binds, insert_once, with_bound_queue, lookup}
use Rattle.queue_keys.specs.Patterns.{matches}
use Rattle.queue_keys.proofs.Basics.{and_true, bytes_anti, bytes_total, eqb_true, same_false, same_true, same-refl}
use Rattle.queue_keys.proofs.Splits.{name_free}
use Rattle.key_laws.specs.Lookups.{AreInByteOrder, GoesTo, IsBelowAll, IsBoundQueue, IsUnparted, LookupsTell, MembersSpell, OneLookup, SpellsBinding}
use Rattle.key_laws.proofs.Routes.{less_off, lookup_rising, parts_after, parts_only, parts_there}

-- ---- members

-- parts with the bytes between them
abbrev joined : List Bytes → Bytes
joined [] = []
joined (p ∷ []) = p
joined (p ∷ q ∷ ps) = p ++ (6 ∷ 22 ∷ joined (q ∷ ps))

-- none of them is parted
abbrev AllUnparted : List Bytes → Type 0
AllUnparted [] = Unit {0}
AllUnparted (p ∷ ps) = IsUnparted p × AllUnparted ps

none_unparted : IsUnparted []
none_unparted [] later e = cc
none_unparted (b ∷ before) later e = cc

-- a byte before an unparted text
onto_unparted : (b : ℕ) (p : Bytes) → ((b == 6) && has_front (22 ∷ []) p) ≡ false → IsUnparted p → IsUnparted (b ∷ p)
onto_unparted b p not_mark h [] later e =
    let first : b ≡ 6 = cc e in
    let rest : p ≡ 22 ∷ later = ap (λ z. drop 1 z) e in
    let six : ((6 == 6) && has_front (22 ∷ []) p) ≡ false = subst (λ z. ((z == 6) && has_front (22 ∷ []) p) ≡ false) first not_mark in
    absurd (not_both (subst (λ z. ((6 == 6) && has_front (22 ∷ []) z) ≡ false) rest six))
  where
    not_both : true ≡ false → ⊥
    not_both f = cc
onto_unparted b p not_mark h (c ∷ before) later e = h before later (ap (λ z. drop 1 z) e)

-- and the text without its first byte
tail_unparted : (b : ℕ) (p : Bytes) → IsUnparted (b ∷ p) → IsUnparted p
tail_unparted b p h before later e = h (b ∷ before) later (ap (λ z. b ∷ z) e)

-- a text with the second of the two bytes in front
front_is : (p : Bytes) → has_front (22 ∷ []) p ≡ true → (q : Bytes) × (p ≡ 22 ∷ q)
front_is [] e = absurd (cc e)
front_is (b ∷ q) e = elim (22 == b) as (λ t. (22 == b) ≡ t → (if t then true else false) ≡ true → (r : Bytes) × (b ∷ q ≡ 22 ∷ r)) [
  | true ↦ λ i f. let same : 22 ≡ b = eqb_true 22 b i in (q, λ j. sym same j ∷ q)
  | false ↦ λ i f. absurd (cc f)
] refl e

joined_front : (b : ℕ) (p : Bytes) (ps : List Bytes) → joined ((b ∷ p) ∷ ps) ≡ b ∷ joined (p ∷ ps)
joined_front b p [] = refl
joined_front b p (q ∷ ps) = refl

-- the parts are all of the bytes, and none is parted
abbrev AreWhole : Bytes → List Bytes → Type 0
AreWhole m ps = (joined ps ≡ m) × AllUnparted ps

mark_whole : (b : ℕ) (bs p q : Bytes) (ps : List Bytes) → b ≡ 6 → p ≡ 22 ∷ q → AreWhole bs (p ∷ ps) → AreWhole (b ∷ bs) ([] ∷ drop 1 p ∷ ps)
mark_whole b bs p q ps first is h =
    let rest : drop 1 p ≡ q = ap (λ z. drop 1 z) is in
    let front : joined ((22 ∷ q) ∷ ps) ≡ bs = subst (λ z. joined (z ∷ ps) ≡ bs) is h.0 in
    let tail : IsUnparted q = tail_unparted 22 q (subst IsUnparted is h.1.0) in
    let same : 22 ∷ joined (q ∷ ps) ≡ bs = sym (joined_front 22 q ps) ∙ front in
    subst (λ z. AreWhole (b ∷ bs) ([] ∷ z ∷ ps)) (sym rest) ((λ i. sym first i ∷ same i), (none_unparted, (tail, h.1.1)))

part_whole : (b : ℕ) (bs p : Bytes) (ps : List Bytes) (t : Bool) → ((b == 6) && has_front (22 ∷ []) p) ≡ t → AreWhole bs (p ∷ ps) → AreWhole (b ∷ bs) (if t then [] ∷ drop 1 p ∷ ps else (b ∷ p) ∷ ps)
part_whole b bs p ps true e h =
    let both = and_true (b == 6) (has_front (22 ∷ []) p) e in
    let front = front_is p both.1 in
    mark_whole b bs p front.0 ps (eqb_true b 6 both.0) front.1 h
part_whole b bs p ps false e h = (joined_front b p ps ∙ ap (λ z. b ∷ z) h.0, (onto_unparted b p e h.1.0, h.1.1))

onto_whole : (b : ℕ) (bs : Bytes) (ps : List Bytes) → AreWhole bs ps → (ps ≡ [] → ⊥) → AreWhole (b ∷ bs) (onto_parts b ps)
onto_whole b bs [] h some = absurd (some refl)
onto_whole b bs (p ∷ ps) h some = part_whole b bs p ps ((b == 6) && has_front (22 ∷ []) p) refl h

parts_some : (m : Bytes) → parts m ≡ [] → ⊥
parts_some m e = let h = parts_there m in not_both h.0 h.1 (sym h.2 ∙ e)
  where
    not_both : (p : Bytes) (ps : List Bytes) → p ∷ ps ≡ [] → ⊥
    not_both p ps f = cc

parts_whole : (m : Bytes) → AreWhole m (parts m)
parts_whole [] = (refl, (none_unparted, tt))
parts_whole (b ∷ bs) = onto_whole b bs (parts bs) (parts_whole bs) (parts_some bs)

-- three parts, the last of which is a lawful name
three_spell : (m r x q : Bytes) (b : Binding) (t : Bool) → is_name q ≡ t → AreWhole m (r ∷ x ∷ q ∷ []) → (if t then Some (record { routing_key = r; pattern = x; queue = q }) else None) ≡ Some b → SpellsBinding m b
three_spell m r x q b true name h e =
    let it : record { routing_key = r; pattern = x; queue = q } ≡ b = cc e in
    subst (SpellsBinding m) it (record { spelled = sym h.0; key = h.1.0; pattern = h.1.1.0; queue = name })
three_spell m r x q b false name h e = absurd (cc e)

parts_spell : (m : Bytes) (b : Binding) (ps : List Bytes) → AreWhole m ps → of_parts ps ≡ Some b → SpellsBinding m b
parts_spell m b [] h e = absurd (cc e)
parts_spell m b (r ∷ []) h e = absurd (cc e)
parts_spell m b (r ∷ x ∷ []) h e = absurd (cc e)
parts_spell m b (r ∷ x ∷ q ∷ []) h e = three_spell m r x q b (is_name q) refl h e
parts_spell m b (r ∷ x ∷ q ∷ p ∷ ps) h e = absurd (cc e)

-- what is read is spelled
read_spells : (m : Bytes) (b : Binding) → binding_of m ≡ Some b → SpellsBinding m b
unfolding binding_of
read_spells m b e = parts_spell m b (parts m) (parts_whole m) e

not_marked : (b : ℕ) (r : Bytes) → IsUnparted (b ∷ r) → ((b == 6) && has_front (22 ∷ []) r) ≡ false
not_marked b r h = go ((b == 6) && has_front (22 ∷ []) r) refl
  where
    go : (t : Bool) → ((b == 6) && has_front (22 ∷ []) r) ≡ t → t ≡ false
    go true e =
        let both = and_true (b == 6) (has_front (22 ∷ []) r) e in
        let front = front_is r both.1 in
        let first : b ≡ 6 = eqb_true b 6 both.0 in
        absurd (h [] front.0 (λ i. first i ∷ front.1 i))
    go false e = refl

-- an unparted text before the two bytes is a part
parts_cut : (r bs : Bytes) → IsUnparted r → parts (r ++ (6 ∷ 22 ∷ bs)) ≡ r ∷ parts bs
parts_cut [] bs h = parts_after bs
parts_cut (b ∷ r) bs h =
    ap (onto_parts b) (parts_cut r bs (tail_unparted b r h)) ∙ ap (λ t. if t then [] ∷ drop 1 r ∷ parts bs else (b ∷ r) ∷ parts bs) (not_marked b r h)

-- and what is spelled is read
spelled_read : (m : Bytes) (b : Binding) → SpellsBinding m b → binding_of m ≡ Some b
unfolding binding_of
spelled_read m b s =
    let last : parts b.queue ≡ b.queue ∷ [] = parts_only b.queue (name_free b.queue s.queue).1 in
    let later : parts (b.pattern ++ (6 ∷ 22 ∷ b.queue)) ≡ b.pattern ∷ b.queue ∷ [] = parts_cut b.pattern b.queue s.pattern ∙ ap (λ z. b.pattern ∷ z) last in
    let whole : parts (member b.routing_key b.pattern b.queue) ≡ b.routing_key ∷ b.pattern ∷ b.queue ∷ [] = parts_cut b.routing_key (b.pattern ++ (6 ∷ 22 ∷ b.queue)) s.key ∙ ap (λ z. b.routing_key ∷ z) later in
    ap (λ z. of_parts (parts z)) s.spelled ∙ ap of_parts whole ∙ ap (λ t. if t then Some (record { routing_key = b.routing_key; pattern = b.pattern; queue = b.queue }) else None) s.queue

pub members_spell : MembersSpell
members_spell m b = (read_spells m b, spelled_read m b)

-- ---- bindings

true_false : {A : Type 0} → true ≡ false → A
true_false e = absurd (cc e)

-- the test of a binding
binds_goes : (r : Bytes) (b : Binding) → binds r b ≡ true → GoesTo r b
binds_goes r b e = go (same [] b.pattern) refl e
  where
    go : (t : Bool) → same [] b.pattern ≡ t → (if t then same b.routing_key r else matches b.pattern r) ≡ true → GoesTo r b
    go true i f = inl (sym (same_true [] b.pattern i), same_true b.routing_key r f)
    go false i f = inr ((λ none. true_false (sym (same-refl []) ∙ ap (same []) (sym none) ∙ i)), f)

goes_binds : (r : Bytes) (b : Binding) → GoesTo r b → binds r b ≡ true
goes_binds r b (inl h) =
    let none : same [] b.pattern ≡ true = ap (same []) h.0 ∙ same-refl [] in
    ap (λ t. if t then same b.routing_key r else matches b.pattern r) none ∙ ap (λ z. same z r) h.1 ∙ same-refl r
goes_binds r b (inr h) =
    let some : same [] b.pattern ≡ false = same_false [] b.pattern (λ e. h.0 (sym e)) in
    ap (λ t. if t then same b.routing_key r else matches b.pattern r) some ∙ h.1

-- ---- what an insertion holds

later_of : (x q y : Bytes) (ys zs : List Bytes) → (Among x zs → (x ≡ q) ⊎ Among x ys) → Among x (y ∷ zs) → (x ≡ q) ⊎ Among x (y ∷ ys)
later_of x q y ys zs more (inl e) = inr (inl e)
later_of x q y ys zs more (inr a) = elim (more a) [ inl e ↦ inl e | inr b ↦ inr (inr b) ]

inserted : (q x : Bytes) (xs : List Bytes) → Among x (insert_once q xs) → (x ≡ q) ⊎ Among x xs
inserted q x [] h = h
inserted q x (y ∷ ys) h =
    elim (slice_cmp nat_cmp q y) as (λ r. Among x (match_ordering r (q ∷ y ∷ ys) (y ∷ ys) (y ∷ insert_once q ys)) → (x ≡ q) ⊎ Among x (y ∷ ys)) [
      | Less ↦ λ a. a
      | Equal ↦ λ a. inr a
      | Greater ↦ λ a. later_of x q y ys (insert_once q ys) (inserted q x ys) a
    ] h

insert_has : (q : Bytes) (xs : List Bytes) → Among q (insert_once q xs)
insert_has q [] = inl refl
insert_has q (y ∷ ys) =
    elim (slice_cmp nat_cmp q y) as (λ r. slice_cmp nat_cmp q y ≡ r → Among q (match_ordering r (q ∷ y ∷ ys) (y ∷ ys) (y ∷ insert_once q ys))) [
      | Less ↦ λ e. inl refl
      | Equal ↦ λ e. inl (bytes_anti q y e)
      | Greater ↦ λ e. inr (insert_has q ys)
    ] refl

keeps_later : (x y : Bytes) (ys zs : List Bytes) → (Among x ys → Among x zs) → Among x (y ∷ ys) → Among x (y ∷ zs)
keeps_later x y ys zs more (inl e) = inl e
keeps_later x y ys zs more (inr a) = inr (more a)

insert_keeps : (q x : Bytes) (xs : List Bytes) → Among x xs → Among x (insert_once q xs)
insert_keeps q x [] h = absurd h
insert_keeps q x (y ∷ ys) h =
    elim (slice_cmp nat_cmp q y) as (λ r. Among x (match_ordering r (q ∷ y ∷ ys) (y ∷ ys) (y ∷ insert_once q ys))) [
      | Less ↦ inr h
      | Equal ↦ h
      | Greater ↦ keeps_later x y ys (insert_once q ys) (insert_keeps q x ys) h
    ]

-- ---- what a lookup holds

later_bound : (r m q : Bytes) (ms : List Bytes) → IsBoundQueue r ms q → IsBoundQueue r (m ∷ ms) q
later_bound r m q ms k = (k.0, k.1, inr k.2, k.3, k.4, k.5)

found_one : (r m q : Bytes) (ms : List Bytes) (b : Binding) (t : Bool) → binding_of m ≡ Some b → binds r b ≡ t → (Among q (lookup r ms) → IsBoundQueue r ms q)
    → Among q (if t then insert_once b.queue (lookup r ms) else lookup r ms) → IsBoundQueue r (m ∷ ms) q
found_one r m q ms b true is goes more h = elim (inserted b.queue q (lookup r ms) h) [
  | inl e ↦ (m, b, inl refl, read_spells m b is, binds_goes r b goes, sym e)
  | inr a ↦ later_bound r m q ms (more a)
]
found_one r m q ms b false is goes more h = later_bound r m q ms (more h)

found_by : (r m q : Bytes) (ms : List Bytes) (o : Option Binding) → binding_of m ≡ o → (Among q (lookup r ms) → IsBoundQueue r ms q) → Among q (with_bound_queue r o (lookup r ms)) → IsBoundQueue r (m ∷ ms) q
found_by r m q ms None is more h = later_bound r m q ms (more h)
found_by r m q ms (Some b) is more h = found_one r m q ms b (binds r b) is refl more h

found : (r : Bytes) (ms : List Bytes) (q : Bytes) → Among q (lookup r ms) → IsBoundQueue r ms q
found r [] q h = absurd h
found r (m ∷ ms) q h = found_by r m q ms (binding_of m) refl (found r ms q) h

with_keeps : (r q : Bytes) (o : Option Binding) (qs : List Bytes) → Among q qs → Among q (with_bound_queue r o qs)
with_keeps r q None qs h = h
with_keeps r q (Some b) qs h = elim (binds r b) as (λ t. Among q (if t then insert_once b.queue qs else qs)) [ true ↦ insert_keeps b.queue q qs h | false ↦ h ]

given_here : (r m q : Bytes) (qs : List Bytes) (b : Binding) → binding_of m ≡ Some b → binds r b ≡ true → b.queue ≡ q → Among q (with_bound_queue r (binding_of m) qs)
given_here r m q qs b is goes same =
    let there : Among q (insert_once b.queue qs) = subst (λ z. Among z (insert_once b.queue qs)) same (insert_has b.queue qs) in
    subst (λ o. Among q (with_bound_queue r o qs)) (sym is) (subst (λ t. Among q (if t then insert_once b.queue qs else qs)) (sym goes) there)

given : (r : Bytes) (ms : List Bytes) (q m : Bytes) (b : Binding) → Among m ms → binding_of m ≡ Some b → binds r b ≡ true → b.queue ≡ q → Among q (lookup r ms)
given r [] q m b h is goes same = absurd h
given r (n ∷ ms) q m b (inl e) is goes same = given_here r n q (lookup r ms) b (ap binding_of (sym e) ∙ is) goes same
given r (n ∷ ms) q m b (inr a) is goes same = with_keeps r q (binding_of n) (lookup r ms) (given r ms q m b a is goes same)

pub lookups_tell : LookupsTell
lookups_tell r ms = record {
  order = lookup_rising r ms;
  holds = λ q. (found r ms q, λ k. given r ms q k.0 k.1 k.2 (spelled_read k.0 k.1 k.3) (goes_binds r k.1 k.4) k.5);
}

-- ---- and no other list

below_among : (q x : Bytes) (xs : List Bytes) → IsBelowAll q xs → Among x xs → slice_cmp nat_cmp q x ≡ Less
below_among q x [] below h = absurd h
below_among q x (y ∷ ys) below (inl e) = subst (λ z. slice_cmp nat_cmp q z ≡ Less) (sym e) below.0
below_among q x (y ∷ ys) below (inr a) = below_among q x ys below.1 a

less_both : {A : Type 0} (x y : Bytes) → slice_cmp nat_cmp x y ≡ Less → slice_cmp nat_cmp y x ≡ Less → A
less_both x y e f = absurd (less_off x x (bytes_total.trans x y x e f) refl)

-- each list has what the other has
abbrev HaveSame : List Bytes → List Bytes → Type 0
HaveSame xs ys = (q : Bytes) → (Among q xs → Among q ys) × (Among q ys → Among q xs)

same_first : (x y : Bytes) (xs ys : List Bytes) → IsBelowAll x xs → IsBelowAll y ys → Among x (y ∷ ys) → Among y (x ∷ xs) → x ≡ y
same_first x y xs ys bx by (inl e) h = e
same_first x y xs ys bx by (inr a) (inl e) = sym e
same_first x y xs ys bx by (inr a) (inr b) = less_both x y (below_among x y xs bx b) (below_among y x ys by a)

-- what follows the first
rest_has : (x y q : Bytes) (xs ys : List Bytes) → x ≡ y → IsBelowAll x xs → (Among q (x ∷ xs) → Among q (y ∷ ys)) → Among q xs → Among q ys
rest_has x y q xs ys e below more a = elim (more (inr a)) [
  | inl f ↦ absurd (less_off x q (below_among x q xs below a) (e ∙ sym f))
  | inr b ↦ b
]

same_lists : (xs ys : List Bytes) → AreInByteOrder xs → AreInByteOrder ys → HaveSame xs ys → xs ≡ ys
same_lists [] [] ox oy h = refl
same_lists [] (y ∷ ys) ox oy h = absurd ((h y).1 (inl refl))
same_lists (x ∷ xs) [] ox oy h = absurd ((h x).0 (inl refl))
same_lists (x ∷ xs) (y ∷ ys) ox oy h =
    let first : x ≡ y = same_first x y xs ys ox.0 oy.0 ((h x).0 (inl refl)) ((h y).1 (inl refl)) in
    let rest : xs ≡ ys = same_lists xs ys ox.1 oy.1 (λ q. (rest_has x y q xs ys first ox.0 (h q).0, rest_has y x q ys xs (sym first) oy.0 (h q).1)) in
    (λ i. first i ∷ rest i)

pub one_lookup : OneLookup
one_lookup r ms qs is =
    let its = lookups_tell r ms in
    same_lists qs (lookup r ms) is.order its.order (λ q. ((λ a. (its.holds q).1 ((is.holds q).0 a)), (λ a. (is.holds q).1 ((its.holds q).0 a))))
