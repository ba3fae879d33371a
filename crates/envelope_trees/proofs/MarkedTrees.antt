-- Marks keep a tree sorted, and set twice they are as set once.
use Rattle.std.proofs.Common.{◌≡◌, ℕ, List, true, codes, Less, Equal, Greater, nat_cmp, refl, sym, ap, ◌∙◌}
use Rattle.std.specs.Ordering.{match_ordering}
use Rattle.std.specs.Cmp.Lexicographic.{slice_cmp}
use Rattle.std.specs.FinMap.{IsAntisymmetric, nat_cmp-IsAntisymmetric, slice_cmp-IsAntisymmetric}
use Rattle.std.proofs.lemmas.Cmp.{tied_itself}
use Rattle.serde_json.specs.Data.{Data, null, boolean, number, string, array, object, Members, no_members, member, put}
use Rattle.envelope_trees.specs.Marks.{change, on_object, with_member, marked_object, marked}
use Rattle.envelope_trees.specs.Sorted.{After, Sorted, SortedMembers}
use Rattle.envelope_trees.proofs.TextsBack.{order}
use Rattle.envelope_trees.proofs.SortedTrees.{sorted-put}

anti : IsAntisymmetric (slice_cmp nat_cmp)
anti = slice_cmp-IsAntisymmetric nat_cmp-IsAntisymmetric

-- ---- sorted

on_sorted : (f : Members → Members) → ((ms : Members) → SortedMembers ms → SortedMembers (f ms)) → (d : Data) → Sorted d → Sorted (on_object f d)
on_sorted f h null s = s
on_sorted f h (boolean b) s = s
on_sorted f h (number n) s = s
on_sorted f h (string t) s = s
on_sorted f h (array ds) s = s
on_sorted f h (object ms) s = h ms s

after-change : (q k : List ℕ) (f : Data → Data) (ms : Members) → After q ms → After q (change k f ms)
after-change q k f no_members a = tt
after-change q k f (member l e ms) a =
    elim (slice_cmp nat_cmp k l) as (λ r. After q (match_ordering r (member l e (change k f ms)) (member l (f e) ms) (member l e (change k f ms)))) [
      | Less ↦ (a.0, after-change q k f ms a.1)
      | Equal ↦ a
      | Greater ↦ (a.0, after-change q k f ms a.1)
    ]

sorted-change : (k : List ℕ) (f : Data → Data) → ((d : Data) → Sorted d → Sorted (f d)) → (ms : Members) → SortedMembers ms → SortedMembers (change k f ms)
sorted-change k f h no_members s = tt
sorted-change k f h (member l e ms) s =
    elim (slice_cmp nat_cmp k l) as (λ r. SortedMembers (match_ordering r (member l e (change k f ms)) (member l (f e) ms) (member l e (change k f ms)))) [
      | Less ↦ (s.0, after-change l k f ms s.1, sorted-change k f h ms s.2)
      | Equal ↦ (h e s.0, s.1, s.2)
      | Greater ↦ (s.0, after-change l k f ms s.1, sorted-change k f h ms s.2)
    ]

sorted-with : (k : List ℕ) (f : Data → Data) → ((d : Data) → Sorted d → Sorted (f d)) → (d : Data) → Sorted d → Sorted (with_member k f d)
sorted-with k f h d s = on_sorted (change k f) (sorted-change k f h) d s

sorted-marked_object : (d : Data) → Sorted d → Sorted (marked_object d)
sorted-marked_object d s = on_sorted (put (codes "redelivered") (boolean true)) (λ ms h. sorted-put (codes "redelivered") (boolean true) ms tt h) d s

pub sorted-marked : (d : Data) → Sorted d → Sorted (marked d)
sorted-marked d s =
    sorted-with (codes "properties") (with_member (codes "delivery_info") marked_object) (sorted-with (codes "delivery_info") marked_object sorted-marked_object) (with_member (codes "headers") marked_object d)
    (sorted-with (codes "headers") marked_object sorted-marked_object d s)

-- ---- twice

on_twice : (f : Members → Members) → ((ms : Members) → f (f ms) ≡ f ms) → (d : Data) → on_object f (on_object f d) ≡ on_object f d
on_twice f h null = refl
on_twice f h (boolean b) = refl
on_twice f h (number n) = refl
on_twice f h (string t) = refl
on_twice f h (array ds) = refl
on_twice f h (object ms) = ap object (h ms)

put_twice : (k : List ℕ) (d : Data) (ms : Members) → put k d (put k d ms) ≡ put k d ms
put_twice k d no_members = rw (tied_itself order k) refl
put_twice k d (member l e ms) =
    elim (slice_cmp nat_cmp k l) as (λ r. slice_cmp nat_cmp k l ≡ r → put k d (match_ordering r (member k d (member l e ms)) (member l d ms) (member l e (put k d ms))) ≡ match_ordering r (member k d (member l e ms)) (member l d ms) (member l e (put k d ms))) [
      | Less ↦ λ i. rw (tied_itself order k) refl
      | Equal ↦ λ i. rw i refl
      | Greater ↦ λ i. rw i (ap (member l e) (put_twice k d ms))
    ] refl

change_twice : (k : List ℕ) (f : Data → Data) → ((d : Data) → f (f d) ≡ f d) → (ms : Members) → change k f (change k f ms) ≡ change k f ms
change_twice k f h no_members = refl
change_twice k f h (member l e ms) =
    elim (slice_cmp nat_cmp k l) as (λ r. slice_cmp nat_cmp k l ≡ r → change k f (match_ordering r (member l e (change k f ms)) (member l (f e) ms) (member l e (change k f ms))) ≡ match_ordering r (member l e (change k f ms)) (member l (f e) ms) (member l e (change k f ms))) [
      | Less ↦ λ i. rw i (ap (member l e) (change_twice k f h ms))
      | Equal ↦ λ i. rw i (ap (λ x. member l x ms) (h e))
      | Greater ↦ λ i. rw i (ap (member l e) (change_twice k f h ms))
    ] refl

with_twice : (k : List ℕ) (f : Data → Data) → ((d : Data) → f (f d) ≡ f d) → (d : Data) → with_member k f (with_member k f d) ≡ with_member k f d
with_twice k f h d = on_twice (change k f) (change_twice k f h) d

-- changes at two names, either first
changes_swap : (k q : List ℕ) (f g : Data → Data) → (k ≡ q → ⊥) → (ms : Members) → change k f (change q g ms) ≡ change q g (change k f ms)
changes_swap k q f g n no_members = refl
changes_swap k q f g n (member l e ms) =
    elim (slice_cmp nat_cmp k l) as (λ r. slice_cmp nat_cmp k l ≡ r → change k f (change q g (member l e ms)) ≡ change q g (match_ordering r (member l e (change k f ms)) (member l (f e) ms) (member l e (change k f ms)))) [
      | Less ↦ λ i. elim (slice_cmp nat_cmp q l) as (λ r. slice_cmp nat_cmp q l ≡ r → change k f (match_ordering r (member l e (change q g ms)) (member l (g e) ms) (member l e (change q g ms))) ≡ match_ordering r (member l e (change q g (change k f ms))) (member l (g e) (change k f ms)) (member l e (change q g (change k f ms)))) [
        | Less ↦ λ j. rw i (ap (member l e) (changes_swap k q f g n ms))
        | Equal ↦ λ j. rw i refl
        | Greater ↦ λ j. rw i (ap (member l e) (changes_swap k q f g n ms))
      ] refl
      | Equal ↦ λ i. elim (slice_cmp nat_cmp q l) as (λ r. slice_cmp nat_cmp q l ≡ r → change k f (match_ordering r (member l e (change q g ms)) (member l (g e) ms) (member l e (change q g ms))) ≡ match_ordering r (member l (f e) (change q g ms)) (member l (g (f e)) ms) (member l (f e) (change q g ms))) [
        | Less ↦ λ j. rw i refl
        | Equal ↦ λ j. absurd (n (anti k l i ∙ sym (anti q l j)))
        | Greater ↦ λ j. rw i refl
      ] refl
      | Greater ↦ λ i. elim (slice_cmp nat_cmp q l) as (λ r. slice_cmp nat_cmp q l ≡ r → change k f (match_ordering r (member l e (change q g ms)) (member l (g e) ms) (member l e (change q g ms))) ≡ match_ordering r (member l e (change q g (change k f ms))) (member l (g e) (change k f ms)) (member l e (change q g (change k f ms)))) [
        | Less ↦ λ j. rw i (ap (member l e) (changes_swap k q f g n ms))
        | Equal ↦ λ j. rw i refl
        | Greater ↦ λ j. rw i (ap (member l e) (changes_swap k q f g n ms))
      ] refl
    ] refl

with_swap : (k q : List ℕ) (f g : Data → Data) → (k ≡ q → ⊥) → (d : Data) → with_member k f (with_member q g d) ≡ with_member q g (with_member k f d)
with_swap k q f g n null = refl
with_swap k q f g n (boolean b) = refl
with_swap k q f g n (number m) = refl
with_swap k q f g n (string t) = refl
with_swap k q f g n (array ds) = refl
with_swap k q f g n (object ms) = ap object (changes_swap k q f g n ms)

object_twice : (d : Data) → marked_object (marked_object d) ≡ marked_object d
object_twice d = on_twice (put (codes "redelivered") (boolean true)) (put_twice (codes "redelivered") (boolean true)) d

abbrev on_info : Data → Data
on_info d = with_member (codes "delivery_info") marked_object d

abbrev on_properties : Data → Data
on_properties d = with_member (codes "properties") on_info d

abbrev on_headers : Data → Data
on_headers d = with_member (codes "headers") marked_object d

names_off : codes "headers" ≡ codes "properties" → ⊥
names_off e = cc

-- marks that are set are set
pub marked_twice : (d : Data) → marked (marked d) ≡ marked d
marked_twice d =
    ap on_properties (with_swap (codes "headers") (codes "properties") marked_object on_info names_off (on_headers d))
    ∙ with_twice (codes "properties") on_info (with_twice (codes "delivery_info") marked_object object_twice) (on_headers (on_headers d))
    ∙ ap on_properties (with_twice (codes "headers") marked_object object_twice d)
