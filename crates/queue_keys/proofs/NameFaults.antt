-- A text is a lawful name exactly where it has no fault.
use Rattle.std.proofs.Common.{◌≡◌, ℕ, suc, ◌+◌, [], ◌∷◌, ◌++◌, length, reverse, Bool, true, false, not, cond, ◌&&◌, ◌==◌, if◌then◌else◌, nat_lt, refl, sym, ap, subst, ◌∙◌, arith, Option, None, Some, is_none, take, drop, ◌-◌}
use Rattle.std.specs.Bool.{nat_eq}
use Rattle.std.specs.Cmp.Lexicographic.{pointwise}
use Rattle.std.specs.List.{position_or_len}
use Rattle.std.proofs.lemmas.Grind.{common_steps}
use Rattle.std.proofs.lemmas.Bool.Decides.{Decides-eqb}
use Rattle.std.proofs.lemmas.List.{reverse-append}
use Rattle.std.proofs.lemmas.Slice.Eq.{starts_is, ends_is}
use Rattle.queue_keys.specs.Names.{Bytes, same, has_front, has_end, is_free, all_free, is_reserved, is_name}
use Rattle.queue_keys.specs.NameFaults.{parting_place, byte_fault, name_fault, told_fault}
use Rattle.queue_keys.specs.declared.queue_name.NameFault.{NameFault}
use Rattle.queue_keys.specs.declared.queue_name.NameFault.TheVariants.{Empty, Long, Byte, Reserved}
use Rattle.queue_keys.proofs.Basics.{eqb_true, false_true, has_front-front}

-- two tests that imply each other are the same
pub both_ways : (a b : Bool) → (a ≡ true → b ≡ true) → (b ≡ true → a ≡ true) → a ≡ b
both_ways true b f g = sym (f refl)
both_ways false true f g = g refl
both_ways false false f g = refl

-- ---- fronts and ends

pub has_front_is : (p k : Bytes) → has_front p k ≡ true → (r : Bytes) × (k ≡ p ++ r)
has_front_is [] k e = (k, refl)
has_front_is (x ∷ p) [] e = false_true e
has_front_is (x ∷ p) (b ∷ bs) e =
    elim (x == b) as (λ t. (x == b) ≡ t → (if t then has_front p bs else false) ≡ true → (r : Bytes) × (b ∷ bs ≡ (x ∷ p) ++ r)) [
      | true ↦ λ t f. let i = has_front_is p bs f in let s : x ≡ b = eqb_true x b t in let j : bs ≡ p ++ i.0 = i.1 in (i.0, cc)
      | false ↦ λ t f. false_true f
    ] refl e

pub starts_front : (r : Bool) (p k : Bytes) → r ≡ pointwise nat_eq p (take (length p) k) → r ≡ has_front p k
starts_front r p k e =
    let s = starts_is Decides-eqb k p r e in
    both_ways r (has_front p k)
    (λ t. subst (λ x. has_front p x ≡ true) (sym (s.0 t)) (has_front-front p (drop (length p) k)))
    (λ t. let f = has_front_is p k t in s.1 f.0 f.1)

reversed : (k : Bytes) → reverse (reverse k) ≡ k
reversed k = search common_steps

pub ends_end : (r : Bool) (w k : Bytes) → r ≡ pointwise nat_eq w (drop (length k - length w) k) → r ≡ has_end w k
ends_end r w k e =
    let s = ends_is Decides-eqb k w r e in
    both_ways r (has_end w k)
    (λ t. let x = take (length k - length w) k in subst (λ y. has_end w y ≡ true) (sym (s.0 t)) (rw (reverse-append x w) (has_front-front (reverse w) (reverse x))))
    (λ t. let f = has_front_is (reverse w) (reverse k) t in s.1 (reverse f.0) (sym (reversed k) ∙ ap reverse f.1 ∙ reverse-append (reverse w) f.0 ∙ ap (λ y. reverse f.0 ++ y) (reversed w)))

-- ---- faults

above : (n : ℕ) → false ≡ not (nat_lt 0 (suc n))
above n = grind (arith, common_steps)

below : (m n : ℕ) → not (nat_lt m n) ≡ not (nat_lt (1 + m) (suc n))
below m n = grind (arith, common_steps)

one_more : (t : Bool) (m n : ℕ) (a : Bool) → a ≡ not (nat_lt m n) → (t && a) ≡ not (nat_lt (cond (not (not t)) (1 + m) 0) (suc n))
one_more true m n a e = e ∙ below m n
one_more false m n a e = above n

free_or_not : (q : Bytes) → all_free q ≡ not (nat_lt (position_or_len (λ b. not (is_free b)) q) (length q))
free_or_not [] = refl
free_or_not (b ∷ q) = one_more (is_free b) (position_or_len (λ b. not (is_free b)) q) (length q) (all_free q) (free_or_not q)

none_or_not : (t : Bool) (n : ℕ) → is_none (if t then Some n else None) ≡ not t
none_or_not true n = refl
none_or_not false n = refl

pub free_none : (q : Bytes) → all_free q ≡ is_none (parting_place q)
free_none q = free_or_not q ∙ sym (none_or_not _ _)

by_place : (q : Bytes) (r a n : Bool) (p : Option ℕ) → is_reserved q ≡ r → a ≡ is_none p → (if r then false else a && n) ≡ is_none (if n then byte_fault q p else Some Long)
by_place q r true true None i e = rw i (reserved r)
  where
    reserved : (r : Bool) → (if r then false else true) ≡ is_none (if r then Some Reserved else None)
    reserved true = refl
    reserved false = refl
by_place q true a true (Some k) i e = refl
by_place q false a true (Some k) i e = rw e refl
by_place q true a false p i e = refl
by_place q false true false p i e = refl
by_place q false false false p i e = refl
by_place q r false true None i e = cc

pub lawful_none : (q : Bytes) → is_name q ≡ is_none (name_fault q)
unfolding name_fault same
lawful_none [] = refl
lawful_none (b ∷ bs) = by_place (b ∷ bs) (is_reserved (b ∷ bs)) (all_free (b ∷ bs)) (nat_lt (length bs) 255) (parting_place (b ∷ bs)) refl (free_none (b ∷ bs))

by_byte : (q : Bytes) (p : Option ℕ) (f : NameFault) → byte_fault q p ≡ Some f → byte_fault q p ≡ told_fault f
by_byte q None f e = go (is_reserved q) refl e
  where
    go : (r : Bool) → is_reserved q ≡ r → (if r then Some Reserved else None) ≡ Some f → (if is_reserved q then Some Reserved else None) ≡ told_fault f
    go true i e = let g : Reserved ≡ f = cc in rw i (ap told_fault g)
    go false i e = cc
by_byte q (Some k) f e = let g : Byte k ≡ f = cc in ap told_fault g

-- a text's fault is one that an answer tells
pub fault_told : (q : Bytes) (f : NameFault) → name_fault q ≡ Some f → name_fault q ≡ told_fault f
unfolding name_fault
fault_told [] f e = let g : Empty ≡ f = cc in ap told_fault g
fault_told (b ∷ bs) f e = go (nat_lt (length bs) 255) e
  where
    go : (n : Bool) → (if n then byte_fault (b ∷ bs) (parting_place (b ∷ bs)) else Some Long) ≡ Some f → (if n then byte_fault (b ∷ bs) (parting_place (b ∷ bs)) else Some Long) ≡ told_fault f
    go true e = by_byte (b ∷ bs) (parting_place (b ∷ bs)) f e
    go false e = let g : Long ≡ f = cc in ap told_fault g
