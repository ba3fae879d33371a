-- What stands in a tree with texts has texts, and so has the tree with its marks.
use Rattle.std.proofs.Common.{◌≡◌, ℕ, List, codes, true, Some, IsUtf8, nat_cmp, refl, subst}
use Rattle.std.specs.Cmp.Lexicographic.{slice_cmp}
use Rattle.json.proofs.Printed.Utf8.{IsUtf8-are_ascii}
use Rattle.serde_json.specs.Data.{Data, null, boolean, number, string, array, object, Members, no_members, member, put}
use Rattle.serde_json.specs.Find.{as_str, get, get_member}
use Rattle.envelope_trees.specs.Marks.{change, marked, marked_object, on_object, with_member}
use Rattle.envelope_trees.specs.Members.{if_object, object_at, text_at}
use Rattle.json_texts.specs.Trees.{HasTexts, MembersHaveTexts}
use Rattle.json_texts.proofs.Trees.{Holds, Holds-and_then, picked, texts-put}

-- ---- what stands at a name

member_texts : (k : List ℕ) (ms : Members) → MembersHaveTexts ms → Holds HasTexts (get_member k ms)
member_texts k no_members h = tt
member_texts k (member l e ms) h =
    let rest = member_texts k ms h.2 in
    picked (Holds HasTexts) (slice_cmp nat_cmp k l) (get_member k ms) (Some e) (get_member k ms) rest h.1 rest

get_texts : (k : List ℕ) (d : Data) → HasTexts d → Holds HasTexts (get k d)
get_texts k null h = tt
get_texts k (boolean b) h = tt
get_texts k (number n) h = tt
get_texts k (string s) h = tt
get_texts k (array ds) h = tt
get_texts k (object ms) h = member_texts k ms h

string_texts : (d : Data) → HasTexts d → Holds IsUtf8 (as_str d)
string_texts null h = tt
string_texts (boolean b) h = tt
string_texts (number n) h = tt
string_texts (string s) h = h
string_texts (array ds) h = tt
string_texts (object ms) h = tt

object_texts : (d : Data) → HasTexts d → Holds HasTexts (if_object d)
object_texts null h = tt
object_texts (boolean b) h = tt
object_texts (number n) h = tt
object_texts (string s) h = tt
object_texts (array ds) h = tt
object_texts (object ms) h = h

pub text_at-texts : (k : List ℕ) (d : Data) (s : List ℕ) → HasTexts d → text_at k d ≡ Some s → IsUtf8 s
text_at-texts k d s h e = subst (Holds IsUtf8) e (Holds-and_then HasTexts IsUtf8 as_str string_texts (get k d) (get_texts k d h))

pub object_at-texts : (k : List ℕ) (d o : Data) → HasTexts d → object_at k d ≡ Some o → HasTexts o
object_at-texts k d o h e = subst (Holds HasTexts) e (Holds-and_then HasTexts HasTexts if_object object_texts (get k d) (get_texts k d h))

-- ---- marks

change-texts : (k : List ℕ) (f : Data → Data) → ((d : Data) → HasTexts d → HasTexts (f d)) → (ms : Members) → MembersHaveTexts ms → MembersHaveTexts (change k f ms)
change-texts k f keeps no_members h = tt
change-texts k f keeps (member l e ms) h =
    let rest = change-texts k f keeps ms h.2 in
    picked MembersHaveTexts (slice_cmp nat_cmp k l) (member l e (change k f ms)) (member l (f e) ms) (member l e (change k f ms)) (h.0, h.1, rest) (h.0, keeps e h.1, h.2) (h.0, h.1, rest)

on_object-texts : (g : Members → Members) → ((ms : Members) → MembersHaveTexts ms → MembersHaveTexts (g ms)) → (d : Data) → HasTexts d → HasTexts (on_object g d)
on_object-texts g keeps null h = h
on_object-texts g keeps (boolean b) h = h
on_object-texts g keeps (number n) h = h
on_object-texts g keeps (string s) h = h
on_object-texts g keeps (array ds) h = h
on_object-texts g keeps (object ms) h = keeps ms h

with_member-texts : (k : List ℕ) (f : Data → Data) → ((d : Data) → HasTexts d → HasTexts (f d)) → (d : Data) → HasTexts d → HasTexts (with_member k f d)
with_member-texts k f keeps d h = on_object-texts (change k f) (λ ms i. change-texts k f keeps ms i) d h

marked_object-texts : (d : Data) → HasTexts d → HasTexts (marked_object d)
marked_object-texts d h =
    on_object-texts (put (codes "redelivered") (boolean true)) (λ ms i. texts-put (codes "redelivered") (boolean true) ms (IsUtf8-are_ascii (codes "redelivered") refl) tt i) d h

pub marked-texts : (d : Data) → HasTexts d → HasTexts (marked d)
marked-texts d h =
    with_member-texts (codes "properties") (with_member (codes "delivery_info") marked_object) (λ e i. with_member-texts (codes "delivery_info") marked_object marked_object-texts e i)
    (with_member (codes "headers") marked_object d) (with_member-texts (codes "headers") marked_object marked_object-texts d h)
