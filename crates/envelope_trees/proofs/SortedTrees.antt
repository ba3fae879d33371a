-- What reading gives is sorted.
use Rattle.std.proofs.Common.{◌≡◌, ℕ, zero, suc, ◌^◌, ◌<◌, ◌≤◌, List, drop, Bool, true, false, ◌&&◌, ◌==◌, nat_lt, nat_le, if◌then◌else◌, slice_index, Option, Some, None, option_map, option_and_then, Ordering, Less, Equal, Greater, nat_cmp, refl, ap, subst, ◌∙◌, arith}
use Rattle.std.specs.Float.{binary64, float_is_finite}
use Rattle.std.specs.Ordering.{ordering_reverse, match_ordering}
use Rattle.std.specs.Cmp.Lexicographic.{slice_cmp}
use Rattle.std.proofs.lemmas.Bool.Decides.{nat_tests}
use Rattle.fast_float.specs.Text.{minus, Parts, scan, digits_of, nearest, with_sign}
use Rattle.json.specs.Lex.{tokens}
use Rattle.json.specs.Json as json
use Rattle.serde_json.specs.Data.{unsigned, negative, float, Data, number, array, object, item, Members, no_members, member, put}
use Rattle.serde_json.specs.Read.{number_of, number_from, float_of, is_integer, of_json, of_items, of_members, max_depth, read}
use Rattle.envelope_trees.specs.Sorted.{IsNegative, IsRead, After, Sorted, SortedItems, SortedMembers}
use Rattle.envelope_trees.proofs.TextsBack.{order}

-- what holds of what is there
abbrev pub Holds : {A : Type 0} → (A → Type 0) → Option A → Type 0
Holds P None = Unit {0}
Holds P (Some a) = P a

pub holds : {A : Type 0} (P : A → Type 0) (o : Option A) (a : A) → Holds P o → o ≡ Some a → P a
holds P o a h e = subst (Holds P) e h

Holds-map : {A B : Type 0} (P : A → Type 0) (Q : B → Type 0) (f : A → B) → ((a : A) → P a → Q (f a)) → (o : Option A) → Holds P o → Holds Q (option_map f o)
Holds-map P Q f k None h = tt
Holds-map P Q f k (Some a) h = k a h

Holds-and_then : {A B : Type 0} (P : A → Type 0) (Q : B → Type 0) (f : A → Option B) → ((a : A) → P a → Holds Q (f a)) → (o : Option A) → Holds P o → Holds Q (option_and_then f o)
Holds-and_then P Q f k None h = tt
Holds-and_then P Q f k (Some a) h = k a h

-- ---- members

picked : (P : Members → Type 0) (o : Ordering) (a b c : Members) → (o ≡ Less → P a) → (o ≡ Equal → P b) → (o ≡ Greater → P c) → P (match_ordering o a b c)
picked P Less a b c x y z = x refl
picked P Equal a b c x y z = y refl
picked P Greater a b c x y z = z refl

after_less : (k l : List ℕ) (ms : Members) → slice_cmp nat_cmp k l ≡ Less → After l ms → After k ms
after_less k l no_members e a = tt
after_less k l (member q d ms) e a = (order.trans k l q e a.0, after_less k l ms e a.1)

after-put : (l k : List ℕ) (d : Data) (ms : Members) → slice_cmp nat_cmp l k ≡ Less → After l ms → After l (put k d ms)
after-put l k d no_members e a = (e, tt)
after-put l k d (member q x ms) e a =
    picked (After l) (slice_cmp nat_cmp k q) (member k d (member q x ms)) (member q d ms) (member q x (put k d ms)) (λ i. (e, a)) (λ i. a) (λ i. (a.0, after-put l k d ms e a.1))

under : (k l : List ℕ) → slice_cmp nat_cmp k l ≡ Greater → slice_cmp nat_cmp l k ≡ Less
under k l e = order.antisymm l k ∙ ap ordering_reverse e

pub sorted-put : (k : List ℕ) (d : Data) (ms : Members) → Sorted d → SortedMembers ms → SortedMembers (put k d ms)
sorted-put k d no_members s h = (s, tt, tt)
sorted-put k d (member l x ms) s h =
    picked SortedMembers (slice_cmp nat_cmp k l) (member k d (member l x ms)) (member l d ms) (member l x (put k d ms))
    (λ i. (s, (i, after_less k l ms i h.1), h))
    (λ i. (s, h.1, h.2))
    (λ i. (h.0, after-put l k d ms (under k l i) h.1, sorted-put k d ms s h.2))

-- ---- numbers

float_read : (sign : Bool) (p : Parts) → Holds IsRead (float_of sign p)
float_read sign p = elim (float_is_finite (nearest binary64 sign p)) as (λ b. Holds IsRead (if b then Some (float (nearest binary64 sign p)) else None)) [ true ↦ tt | false ↦ tt ]

and_true : (a b : Bool) → (a && b) ≡ true → (a ≡ true) × (b ≡ true)
and_true true b e = (refl, e)
and_true false b e = cc

negative_read : (n : ℕ) → 0 < n → n ≤ 2 ^ 63 → IsNegative (with_sign true n)
negative_read zero a b = absurd (omega arith)
negative_read (suc n) a b = omega arith

from_read : (sign : Bool) (p : Parts) → Holds IsRead (number_from sign p)
from_read false p = go (is_integer p && nat_lt (digits_of p) (2 ^ 64)) refl
  where
    go : (t : Bool) → (is_integer p && nat_lt (digits_of p) (2 ^ 64)) ≡ t → Holds IsRead (if t then Some (unsigned (digits_of p)) else float_of false p)
    go true e = let a = (and_true (is_integer p) (nat_lt (digits_of p) (2 ^ 64)) e).1 in grind (arith, nat_tests)
    go false e = float_read false p
from_read true p = go (is_integer p && nat_lt 0 (digits_of p) && nat_le (digits_of p) (2 ^ 63)) refl
  where
    go : (t : Bool) → (is_integer p && nat_lt 0 (digits_of p) && nat_le (digits_of p) (2 ^ 63)) ≡ t → Holds IsRead (if t then Some (negative (with_sign true (digits_of p))) else float_of true p)
    go true e =
        let a = and_true (is_integer p && nat_lt 0 (digits_of p)) (nat_le (digits_of p) (2 ^ 63)) e in
        let b = (and_true (is_integer p) (nat_lt 0 (digits_of p)) a.0).1 in
        let m : digits_of p ≤ 2 ^ 63 = let x = a.1 in grind (arith, nat_tests) in
        let n : 0 < digits_of p = grind (arith, nat_tests) in
        negative_read (digits_of p) n m
    go false e = float_read true p

number_read : (s : List ℕ) → Holds IsRead (number_of s)
unfolding number_of
number_read s = elim (slice_index s 0 == minus) as (λ b. Holds IsRead (if b then number_from true (scan (drop 1 s)) else number_from false (scan s))) [ true ↦ from_read true (scan (drop 1 s)) | false ↦ from_read false (scan s) ]

-- ---- trees

mutual
  of_json_sorted : (j : json.Json) → Holds Sorted (of_json j)
  of_json_sorted json.null = tt
  of_json_sorted (json.boolean b) = tt
  of_json_sorted (json.number s) = Holds-map IsRead Sorted number (λ n h. h) (number_of s) (number_read s)
  of_json_sorted (json.string s) = tt
  of_json_sorted (json.array js) = Holds-map SortedItems Sorted array (λ ds h. h) (of_items js) (of_items_sorted js)
  of_json_sorted (json.object ms) = Holds-map SortedMembers Sorted object (λ ns h. h) (of_members ms no_members) (of_members_sorted ms no_members tt)

  of_items_sorted : (js : json.Items) → Holds SortedItems (of_items js)
  of_items_sorted json.no_items = tt
  of_items_sorted (json.item j js) = Holds-and_then Sorted SortedItems (λ d. option_map (item d) (of_items js)) (λ d h. Holds-map SortedItems SortedItems (item d) (λ ds i. (h, i)) (of_items js) (of_items_sorted js)) (of_json j) (of_json_sorted j)

  of_members_sorted : (ms : json.Members) (found : Members) → SortedMembers found → Holds SortedMembers (of_members ms found)
  of_members_sorted json.no_members found h = h
  of_members_sorted (json.member k j ms) found h = Holds-and_then Sorted SortedMembers (λ d. of_members ms (put k d found)) (λ d s. of_members_sorted ms (put k d found) (sorted-put k d found s h)) (of_json j) (of_json_sorted j)

any : (o : Option json.Json) → Holds (λ j. Unit {0}) o
any None = tt
any (Some j) = tt

-- a tree that was read is sorted
pub read_sorted : (text : List ℕ) (d : Data) → read text ≡ Some d → Sorted d
read_sorted text d e =
    holds Sorted (read text) d (Holds-and_then (λ j. Unit {0}) Sorted of_json (λ j h. of_json_sorted j) (option_and_then (λ p. json.if_last p.0 p.1) (json.value max_depth (tokens text))) (any (option_and_then (λ p. json.if_last p.0 p.1) (json.value max_depth (tokens text))))) e
