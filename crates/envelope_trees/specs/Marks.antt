-- A tree with the two marks of a message that is delivered again, `redelivered` in its headers and in its delivery_info.
use Rattle.std.specs.Prelude.{List, ℕ, Bool, true, false, ◌&&◌, codes, option_and_then}
use Rattle.std.specs.Option.{option_map_or}
use Rattle.std.specs.Ordering.{nat_cmp, match_ordering}
use Rattle.std.specs.Cmp.Lexicographic.{slice_cmp}
use Rattle.serde_json.specs.Data.{Data, null, boolean, number, string, array, object, Members, no_members, member, put}
use Rattle.serde_json.specs.Find.{get}
use Rattle.envelope_trees.specs.Members.{is_true_at}

-- the members, with f of what stands at the name k
abbrev pub change : List ℕ → (Data → Data) → Members → Members
change k f no_members = no_members
change k f (member l e ms) = match_ordering (slice_cmp nat_cmp k l) (member l e (change k f ms)) (member l (f e) ms) (member l e (change k f ms))

-- an object with f of its members; another value stays
abbrev pub on_object : (Members → Members) → Data → Data
on_object f null = null
on_object f (boolean b) = boolean b
on_object f (number n) = number n
on_object f (string s) = string s
on_object f (array ds) = array ds
on_object f (object ms) = object (f ms)

-- an object with f of what stands at the name k; another value stays
abbrev pub with_member : List ℕ → (Data → Data) → Data → Data
with_member k f d = on_object (change k f) d

-- an object with its mark set to true; another value stays
abbrev pub marked_object : Data → Data
marked_object d = on_object (put (codes "redelivered") (boolean true)) d

-- a tree with both marks set, and nothing else changed
abbrev pub marked : Data → Data
marked d = with_member (codes "properties") (with_member (codes "delivery_info") marked_object) (with_member (codes "headers") marked_object d)

-- whether the mark in the headers is true
abbrev pub is_marked_in_headers : Data → Bool
is_marked_in_headers d = option_map_or (is_true_at (codes "redelivered")) (get (codes "headers") d) false

-- whether the mark in the delivery_info is true
abbrev pub is_marked_in_info : Data → Bool
is_marked_in_info d = option_map_or (is_true_at (codes "redelivered")) (option_and_then (get (codes "delivery_info")) (get (codes "properties") d)) false

-- whether both marks of a tree are true
abbrev pub is_marked : Data → Bool
is_marked d = is_marked_in_headers d && is_marked_in_info d
