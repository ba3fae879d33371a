-- Marks add no depth and no float.
use Rattle.std.proofs.Common.{◌≡◌, ℕ, ◌≤◌, List, Bool, true, false, ◌||◌, Ordering, Less, Equal, Greater, nat_cmp, true≢false, codes, refl, arith}
use Rattle.std.specs.Cmp.Lexicographic.{slice_cmp}
use Rattle.std.specs.Ordering.{match_ordering}
use Rattle.serde_json.specs.Data.{Data, null, boolean, number, string, array, object, Members, no_members, member, put, depth, members_depth}
use Rattle.serde_json.specs.Written.{has_float, members_have_float}
use Rattle.envelope_trees.specs.Marks.{change, on_object, with_member, marked_object, marked}

-- ---- what holds of each of three holds of the one that an order picks
pub picks : (P : Members → Type 0) (o : Ordering) (a b c : Members) → P a → P b → P c → P (match_ordering o a b c)
picks P Less a b c x y z = x
picks P Equal a b c x y z = y
picks P Greater a b c x y z = z

-- ---- depth
depth-put : (k : List ℕ) (b : Bool) (ms : Members) → members_depth (put k (boolean b) ms) ≤ members_depth ms
depth-put k b no_members = omega arith
depth-put k b (member l e ms) =
    picks (λ ns. members_depth ns ≤ members_depth (member l e ms)) (slice_cmp nat_cmp k l) (member k (boolean b) (member l e ms)) (member l (boolean b) ms) (member l e (put k (boolean b) ms)) (omega arith) (omega arith) (omega (arith, depth-put k b ms))

depth-change : (k : List ℕ) (f : Data → Data) → ((d : Data) → depth (f d) ≤ depth d) → (ms : Members) → members_depth (change k f ms) ≤ members_depth ms
depth-change k f h no_members = omega arith
depth-change k f h (member l e ms) =
    let rest = depth-change k f h ms in
    let later : members_depth (member l e (change k f ms)) ≤ members_depth (member l e ms) = omega (arith, rest) in
    picks (λ ns. members_depth ns ≤ members_depth (member l e ms)) (slice_cmp nat_cmp k l) (member l e (change k f ms)) (member l (f e) ms) (member l e (change k f ms)) later (omega (arith, h e)) later

depth-on_object : (g : Members → Members) → ((ms : Members) → members_depth (g ms) ≤ members_depth ms) → (d : Data) → depth (on_object g d) ≤ depth d
depth-on_object g h null = omega arith
depth-on_object g h (boolean b) = omega arith
depth-on_object g h (number n) = omega arith
depth-on_object g h (string s) = omega arith
depth-on_object g h (array ds) = omega arith
depth-on_object g h (object ms) = omega (arith, h ms)

depth-marked_object : (d : Data) → depth (marked_object d) ≤ depth d
depth-marked_object d = depth-on_object (put (codes "redelivered") (boolean true)) (depth-put (codes "redelivered") true) d

depth-with_member : (k : List ℕ) (f : Data → Data) → ((d : Data) → depth (f d) ≤ depth d) → (d : Data) → depth (with_member k f d) ≤ depth d
depth-with_member k f h d = depth-on_object (change k f) (depth-change k f h) d

pub depth-marked : (d : Data) → depth (marked d) ≤ depth d
depth-marked d =
    let inner = depth-with_member (codes "headers") marked_object depth-marked_object d in
    let outer = depth-with_member (codes "properties") (with_member (codes "delivery_info") marked_object) (depth-with_member (codes "delivery_info") marked_object depth-marked_object) (with_member (codes "headers") marked_object d) in
    omega (arith, inner, outer)

-- ---- floats
either_false : (a b : Bool) → (a || b) ≡ false → (a ≡ false) × (b ≡ false)
either_false true b e = absurd (true≢false e)
either_false false b e = (refl, e)

both_false : (a b : Bool) → a ≡ false → b ≡ false → (a || b) ≡ false
both_false true b e f = absurd (true≢false e)
both_false false b e f = f

float-put : (k : List ℕ) (b : Bool) (ms : Members) → members_have_float ms ≡ false → members_have_float (put k (boolean b) ms) ≡ false
float-put k b no_members e = refl
float-put k b (member l d ms) e =
    let parts = either_false (has_float d) (members_have_float ms) e in
    picks (λ ns. members_have_float ns ≡ false) (slice_cmp nat_cmp k l) (member k (boolean b) (member l d ms)) (member l (boolean b) ms) (member l d (put k (boolean b) ms)) e parts.1 (both_false _ _ parts.0 (float-put k b ms parts.1))

float-change : (k : List ℕ) (f : Data → Data) → ((d : Data) → has_float d ≡ false → has_float (f d) ≡ false) → (ms : Members) → members_have_float ms ≡ false → members_have_float (change k f ms) ≡ false
float-change k f h no_members e = refl
float-change k f h (member l d ms) e =
    let parts = either_false (has_float d) (members_have_float ms) e in
    let later : members_have_float (member l d (change k f ms)) ≡ false = both_false _ _ parts.0 (float-change k f h ms parts.1) in
    picks (λ ns. members_have_float ns ≡ false) (slice_cmp nat_cmp k l) (member l d (change k f ms)) (member l (f d) ms) (member l d (change k f ms)) later (both_false _ _ (h d parts.0) parts.1) later

float-on_object : (g : Members → Members) → ((ms : Members) → members_have_float ms ≡ false → members_have_float (g ms) ≡ false) → (d : Data) → has_float d ≡ false → has_float (on_object g d) ≡ false
float-on_object g h null e = e
float-on_object g h (boolean b) e = e
float-on_object g h (number n) e = e
float-on_object g h (string s) e = e
float-on_object g h (array ds) e = e
float-on_object g h (object ms) e = h ms e

float-marked_object : (d : Data) → has_float d ≡ false → has_float (marked_object d) ≡ false
float-marked_object d e = float-on_object (put (codes "redelivered") (boolean true)) (float-put (codes "redelivered") true) d e

float-with_member : (k : List ℕ) (f : Data → Data) → ((d : Data) → has_float d ≡ false → has_float (f d) ≡ false) → (d : Data) → has_float d ≡ false → has_float (with_member k f d) ≡ false
float-with_member k f h d e = float-on_object (change k f) (float-change k f h) d e

pub float-marked : (d : Data) → has_float d ≡ false → has_float (marked d) ≡ false
float-marked d e =
    float-with_member (codes "properties") (with_member (codes "delivery_info") marked_object) (float-with_member (codes "delivery_info") marked_object float-marked_object) (with_member (codes "headers") marked_object d)
    (float-with_member (codes "headers") marked_object float-marked_object d e)
