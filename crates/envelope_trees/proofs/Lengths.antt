-- Marks make the compact text of a tree at most 38 bytes longer.
use Rattle.std.proofs.Common.{◌≡◌, ℕ, ◌+◌, ◌≤◌, List, length, Bool, true, false, codes, nat_cmp, refl, arith, length-append}
use Rattle.std.specs.Cmp.Lexicographic.{slice_cmp}
use Rattle.json.specs.Print.{quoted}
use Rattle.serde_json.proofs.OnLiterals.{serde_json_on_literals}
use Rattle.serde_json.specs.Data.{Data, null, boolean, number, string, array, object, Members, no_members, member, put}
use Rattle.serde_json.specs.Written.{comma_if, compact_text, members_text}
use Rattle.envelope_trees.specs.Marks.{change, on_object, with_member, marked_object, marked}
use Rattle.envelope_trees.proofs.Kept.{picks}

-- the bytes of a first or a later member and of those that follow
pub member_length : (b : Bool) (k : List ℕ) (d : Data) (ms : Members) → length (members_text b (member k d ms)) ≡ length (comma_if b) + (length (quoted k) + (1 + (length (compact_text d) + length (members_text true ms))))
member_length b k d ms = simp length-append (omega arith)

comma_length : (b : Bool) → length (comma_if b) ≤ 1
comma_length true = omega arith
comma_length false = omega arith

mark_length : length (quoted (codes "redelivered")) ≡ 13
unfolding serde_json_on_literals
mark_length = refl

put_length : (k : List ℕ) → length (quoted k) ≡ 13 → (b : Bool) (ms : Members) → length (members_text b (put k (boolean true) ms)) ≤ length (members_text b ms) + 19
put_length k h b no_members = omega (arith, member_length b k (boolean true) no_members, comma_length b)
put_length k h b (member l e ms) =
    let old = member_length b l e ms in
    picks (λ ns. length (members_text b ns) ≤ length (members_text b (member l e ms)) + 19) (slice_cmp nat_cmp k l) (member k (boolean true) (member l e ms)) (member l (boolean true) ms) (member l e (put k (boolean true) ms))
    (omega (arith, old, member_length b k (boolean true) (member l e ms), member_length true l e ms))
    (omega (arith, old, member_length b l (boolean true) ms))
    (omega (arith, old, member_length b l e (put k (boolean true) ms), put_length k h true ms))

change_length : (k : List ℕ) (f : Data → Data) (n : ℕ) → ((d : Data) → length (compact_text (f d)) ≤ length (compact_text d) + n) → (b : Bool) (ms : Members) → length (members_text b (change k f ms)) ≤ length (members_text b ms) + n
change_length k f n h b no_members = omega arith
change_length k f n h b (member l e ms) =
    let old = member_length b l e ms in
    let later : length (members_text b (member l e (change k f ms))) ≤ length (members_text b (member l e ms)) + n = omega (arith, old, member_length b l e (change k f ms), change_length k f n h true ms) in
    picks (λ ns. length (members_text b ns) ≤ length (members_text b (member l e ms)) + n) (slice_cmp nat_cmp k l) (member l e (change k f ms)) (member l (f e) ms) (member l e (change k f ms))
    later
    (omega (arith, old, member_length b l (f e) ms, h e))
    later

on_object_length : (g : Members → Members) (n : ℕ) → ((ms : Members) → length (members_text false (g ms)) ≤ length (members_text false ms) + n) → (d : Data) → length (compact_text (on_object g d)) ≤ length (compact_text d) + n
on_object_length g n h null = omega arith
on_object_length g n h (boolean b) = omega arith
on_object_length g n h (number m) = omega arith
on_object_length g n h (string s) = omega arith
on_object_length g n h (array ds) = omega arith
on_object_length g n h (object ms) = omega (arith, h ms)

marked_object_length : (d : Data) → length (compact_text (marked_object d)) ≤ length (compact_text d) + 19
marked_object_length d = on_object_length (put (codes "redelivered") (boolean true)) 19 (put_length (codes "redelivered") mark_length false) d

with_member_length : (k : List ℕ) (f : Data → Data) (n : ℕ) → ((d : Data) → length (compact_text (f d)) ≤ length (compact_text d) + n) → (d : Data) → length (compact_text (with_member k f d)) ≤ length (compact_text d) + n
with_member_length k f n h d = on_object_length (change k f) n (change_length k f n h false) d

-- a marked tree's text
pub marked_length : (d : Data) → length (compact_text (marked d)) ≤ length (compact_text d) + 38
marked_length d =
    let inner = with_member_length (codes "headers") marked_object 19 marked_object_length d in
    let outer = with_member_length (codes "properties") (with_member (codes "delivery_info") marked_object) 19 (with_member_length (codes "delivery_info") marked_object 19 marked_object_length) (with_member (codes "headers") marked_object d) in
    omega (arith, inner, outer)
