-- What changes of trees keep: depth, no float, and what stands at other names. This serves the proofs of code.
use Rattle.std.proofs.Common.{◌≡◌, ℕ, max, ◌≤◌, ◌||◌, List, Bool, true, false, Less, Equal, Greater, nat_cmp, Some, refl, sym, ap, ◌∙◌, arith, bytes_eq, true≢false}
use Rattle.std.specs.Ordering.{match_ordering}
use Rattle.std.specs.Cmp.Lexicographic.{slice_cmp}
use Rattle.std.specs.FinMap.{IsAntisymmetric, nat_cmp-IsAntisymmetric, slice_cmp-IsAntisymmetric}
use Rattle.std.proofs.lemmas.Slice.Eq.{bytes_eq-Decides}
use Rattle.serde_json.specs.Data.{Data, null, boolean, number, string, array, object, Members, no_members, member, put, depth, members_depth}
use Rattle.serde_json.specs.Find.{get, get_member}
use Rattle.serde_json.specs.Written.{has_float, members_have_float}
use Rattle.serde_json.proofs.Views.{get_member-put, get_member-put_other}
use Rattle.envelope_trees.specs.Marks.{change, on_object}
use Rattle.task_message.specs.Again.{without}

-- a change of members that makes nothing deeper and puts no float in
pub record IsTameInside (g : Members → Members) : Type 0 where
  pub depth : (ms : Members) → members_depth (g ms) ≤ members_depth ms
  pub whole : (ms : Members) → members_have_float ms ≡ false → members_have_float (g ms) ≡ false

-- the same of a tree
pub record IsTame (f : Data → Data) : Type 0 where
  pub depth : (d : Data) → depth (f d) ≤ depth d
  pub whole : (d : Data) → has_float d ≡ false → has_float (f d) ≡ false

both_false : (a b : Bool) → a ≡ false → b ≡ false → (a || b) ≡ false
both_false a b e f = rw (e, f) refl

left_false : (a b : Bool) → (a || b) ≡ false → a ≡ false
left_false true b e = e
left_false false b e = refl

right_false : (a b : Bool) → (a || b) ≡ false → b ≡ false
right_false true b e = absurd (true≢false e)
right_false false b e = e

put_depth : (k : List ℕ) (x : Data) (ms : Members) → depth x ≡ 0 → members_depth (put k x ms) ≤ members_depth ms
put_depth k x no_members z = omega arith
put_depth k x (member l e ms) z =
    elim (slice_cmp nat_cmp k l) as (λ o. members_depth (match_ordering o (member k x (member l e ms)) (member l x ms) (member l e (put k x ms))) ≤ max (depth e) (members_depth ms)) [
      | Less ↦ omega arith
      | Equal ↦ omega arith
      | Greater ↦ omega (arith, put_depth k x ms z)
    ]

put_whole : (k : List ℕ) (x : Data) (ms : Members) → has_float x ≡ false → members_have_float ms ≡ false → members_have_float (put k x ms) ≡ false
put_whole k x no_members z h = both_false (has_float x) false z refl
put_whole k x (member l e ms) z h =
    let p = left_false (has_float e) (members_have_float ms) h in
    let q = right_false (has_float e) (members_have_float ms) h in
    elim (slice_cmp nat_cmp k l) as (λ o. members_have_float (match_ordering o (member k x (member l e ms)) (member l x ms) (member l e (put k x ms))) ≡ false) [
      | Less ↦ both_false (has_float x) (has_float e || members_have_float ms) z h
      | Equal ↦ both_false (has_float x) (members_have_float ms) z q
      | Greater ↦ both_false (has_float e) (members_have_float (put k x ms)) p (put_whole k x ms z q)
    ]

pub tame_put : (k : List ℕ) (x : Data) → depth x ≡ 0 → has_float x ≡ false → IsTameInside (put k x)
tame_put k x z w = record { depth = λ ms. put_depth k x ms z; whole = λ ms h. put_whole k x ms w h }

without_depth : (k : List ℕ) (ms : Members) → members_depth (without k ms) ≤ members_depth ms
without_depth k no_members = omega arith
without_depth k (member l e ms) =
    elim (slice_cmp nat_cmp k l) as (λ o. members_depth (match_ordering o (member l e (without k ms)) ms (member l e (without k ms))) ≤ max (depth e) (members_depth ms)) [
      | Less ↦ omega (arith, without_depth k ms)
      | Equal ↦ omega arith
      | Greater ↦ omega (arith, without_depth k ms)
    ]

without_whole : (k : List ℕ) (ms : Members) → members_have_float ms ≡ false → members_have_float (without k ms) ≡ false
without_whole k no_members h = refl
without_whole k (member l e ms) h =
    let p = left_false (has_float e) (members_have_float ms) h in
    let q = right_false (has_float e) (members_have_float ms) h in
    elim (slice_cmp nat_cmp k l) as (λ o. members_have_float (match_ordering o (member l e (without k ms)) ms (member l e (without k ms))) ≡ false) [
      | Less ↦ both_false (has_float e) (members_have_float (without k ms)) p (without_whole k ms q)
      | Equal ↦ q
      | Greater ↦ both_false (has_float e) (members_have_float (without k ms)) p (without_whole k ms q)
    ]

pub tame_without : (k : List ℕ) → IsTameInside (without k)
tame_without k = record { depth = without_depth k; whole = without_whole k }

module _ (k : List ℕ) (f : Data → Data) (t : IsTame f) where
  change_depth : (ms : Members) → members_depth (change k f ms) ≤ members_depth ms
  change_depth no_members = omega arith
  change_depth (member l e ms) =
      elim (slice_cmp nat_cmp k l) as (λ o. members_depth (match_ordering o (member l e (change k f ms)) (member l (f e) ms) (member l e (change k f ms))) ≤ max (depth e) (members_depth ms)) [
        | Less ↦ omega (arith, change_depth ms)
        | Equal ↦ omega (arith, t.depth e)
        | Greater ↦ omega (arith, change_depth ms)
      ]

  change_whole : (ms : Members) → members_have_float ms ≡ false → members_have_float (change k f ms) ≡ false
  change_whole no_members h = refl
  change_whole (member l e ms) h =
      let p = left_false (has_float e) (members_have_float ms) h in
      let q = right_false (has_float e) (members_have_float ms) h in
      elim (slice_cmp nat_cmp k l) as (λ o. members_have_float (match_ordering o (member l e (change k f ms)) (member l (f e) ms) (member l e (change k f ms))) ≡ false) [
        | Less ↦ both_false (has_float e) (members_have_float (change k f ms)) p (change_whole ms q)
        | Equal ↦ both_false (has_float (f e)) (members_have_float ms) (t.whole e p) q
        | Greater ↦ both_false (has_float e) (members_have_float (change k f ms)) p (change_whole ms q)
      ]

  pub tame_change : IsTameInside (change k f)
  tame_change = record { depth = change_depth; whole = change_whole }

module _ (g : Members → Members) (t : IsTameInside g) where
  object_depth : (d : Data) → depth (on_object g d) ≤ depth d
  object_depth null = omega arith
  object_depth (boolean b) = omega arith
  object_depth (number n) = omega arith
  object_depth (string s) = omega arith
  object_depth (array ds) = omega arith
  object_depth (object ms) = omega (arith, t.depth ms)

  object_whole : (d : Data) → has_float d ≡ false → has_float (on_object g d) ≡ false
  object_whole null h = h
  object_whole (boolean b) h = h
  object_whole (number n) h = h
  object_whole (string s) h = h
  object_whole (array ds) h = h
  object_whole (object ms) h = t.whole ms h

  pub tame_object : IsTame (on_object g)
  tame_object = record { depth = object_depth; whole = object_whole }

pub tame_both : (f g : Data → Data) → IsTame f → IsTame g → IsTame (λ d. f (g d))
tame_both f g s t = record { depth = λ d. omega (arith, s.depth (g d), t.depth d); whole = λ d h. s.whole (g d) (t.whole d h) }

pub tame_within : (f g : Members → Members) → IsTameInside f → IsTameInside g → IsTameInside (λ d. f (g d))
tame_within f g s t = record { depth = λ d. omega (arith, s.depth (g d), t.depth d); whole = λ d h. s.whole (g d) (t.whole d h) }

-- ---- what stands at a name

anti : IsAntisymmetric (slice_cmp nat_cmp)
anti = slice_cmp-IsAntisymmetric nat_cmp-IsAntisymmetric

-- names that the test tells apart
pub off : (k q : List ℕ) → bytes_eq k q ≡ false → k ≡ q → ⊥
off k q n e = true≢false (sym ((bytes_eq-Decides k q).1 e) ∙ n)

member_without : (k q : List ℕ) (ms : Members) → (k ≡ q → ⊥) → get_member k (without q ms) ≡ get_member k ms
member_without k q no_members n = refl
member_without k q (member l e ms) n =
    elim (slice_cmp nat_cmp q l) as (λ r. slice_cmp nat_cmp q l ≡ r → get_member k (match_ordering r (member l e (without q ms)) ms (member l e (without q ms))) ≡ get_member k (member l e ms)) [
      | Less ↦ λ i. ap (λ o. match_ordering (slice_cmp nat_cmp k l) o (Some e) o) (member_without k q ms n)
      | Equal ↦ λ i. elim (slice_cmp nat_cmp k l) as (λ r. slice_cmp nat_cmp k l ≡ r → get_member k ms ≡ match_ordering r (get_member k ms) (Some e) (get_member k ms)) [
        | Less ↦ λ j. refl
        | Equal ↦ λ j. absurd (n (anti k l j ∙ sym (anti q l i)))
        | Greater ↦ λ j. refl
      ] refl
      | Greater ↦ λ i. ap (λ o. match_ordering (slice_cmp nat_cmp k l) o (Some e) o) (member_without k q ms n)
    ] refl

pub get_without : (k q : List ℕ) (d : Data) → (k ≡ q → ⊥) → get k (on_object (without q) d) ≡ get k d
get_without k q null n = refl
get_without k q (boolean b) n = refl
get_without k q (number m) n = refl
get_without k q (string s) n = refl
get_without k q (array ds) n = refl
get_without k q (object ms) n = member_without k q ms n

pub get_put_other : (k q : List ℕ) (x : Data) (d : Data) → (k ≡ q → ⊥) → get k (on_object (put q x) d) ≡ get k d
get_put_other k q x null n = refl
get_put_other k q x (boolean b) n = refl
get_put_other k q x (number m) n = refl
get_put_other k q x (string s) n = refl
get_put_other k q x (array ds) n = refl
get_put_other k q x (object ms) n = get_member-put_other k q x ms n

-- in an object, which something stands in
pub get_put : (q k : List ℕ) (x y : Data) (d : Data) → get q d ≡ Some y → get k (on_object (put k x) d) ≡ Some x
get_put q k x y null e = cc
get_put q k x y (boolean b) e = cc
get_put q k x y (number m) e = cc
get_put q k x y (string s) e = cc
get_put q k x y (array ds) e = cc
get_put q k x y (object ms) e = get_member-put k x ms
