-- Marks change two members of a tree and nothing else.
use Rattle.std.proofs.Common.{◌≡◌, ℕ, List, codes, true, false, Option, Some, None, option_map, option_and_then, bytes_eq, true≢false, refl, sym, ap, subst, ◌∙◌}
use Rattle.std.proofs.lemmas.Slice.Eq.{bytes_eq-Decides}
use Rattle.serde_json.specs.Data.{Data, null, boolean, number, string, array, object, Members, put}
use Rattle.serde_json.specs.Find.{get}
use Rattle.serde_json.proofs.Views.{get_member-put}
use Rattle.envelope_trees.specs.Marks.{change, marked_object, on_object, with_member}
use Rattle.envelope_trees.specs.Members.{if_object, object_at}
use Rattle.envelope.proofs.MarkedSaid.{get_marked, get_other, get_same}
use Rattle.envelope_laws.specs.Marks.{IsMarkedAlone}

-- names that the test tells apart
off : (k q : List ℕ) → bytes_eq k q ≡ false → k ≡ q → ⊥
off k q n e = true≢false (sym ((bytes_eq-Decides k q).1 e) ∙ n)

-- an object stays one
object_map : (g : Members → Members) (o : Option Data) → option_and_then if_object (option_map (on_object g) o) ≡ option_map (on_object g) (option_and_then if_object o)
object_map g None = refl
object_map g (Some null) = refl
object_map g (Some (boolean b)) = refl
object_map g (Some (number n)) = refl
object_map g (Some (string s)) = refl
object_map g (Some (array ds)) = refl
object_map g (Some (object ms)) = refl

mark_set : (o : Option Data) (h : Data) → option_and_then if_object o ≡ Some h → get (codes "redelivered") (marked_object h) ≡ Some (boolean true)
mark_set None h e = cc
mark_set (Some null) h e = cc
mark_set (Some (boolean b)) h e = cc
mark_set (Some (number n)) h e = cc
mark_set (Some (string s)) h e = cc
mark_set (Some (array ds)) h e = cc
mark_set (Some (object ms)) h e =
    let same : object ms ≡ h = cc in
    subst (λ (x : Data). get (codes "redelivered") (marked_object x) ≡ Some (boolean true)) same (get_member-put (codes "redelivered") (boolean true) ms)

-- the delivery_info of properties, marked
abbrev in_info : Data → Data
in_info p = with_member (codes "delivery_info") marked_object p

pub marks_alone : (d h p i : Data) → object_at (codes "headers") d ≡ Some h → object_at (codes "properties") d ≡ Some p → object_at (codes "delivery_info") p ≡ Some i → IsMarkedAlone d h p i
marks_alone d h p i a b c =
    let headed : Data = with_member (codes "headers") marked_object d in
    record {
      headers = marked_object h;
      properties = in_info p;
      info = marked_object i;
      headers_is =
          ap (option_and_then if_object) (get_other (codes "headers") (codes "properties") in_info headed (off (codes "headers") (codes "properties") refl) ∙ get_same (codes "headers") marked_object d)
          ∙ object_map (put (codes "redelivered") (boolean true)) (get (codes "headers") d) ∙ ap (option_map marked_object) a;
      properties_is =
          ap (option_and_then if_object) (get_same (codes "properties") in_info headed ∙ ap (option_map in_info) (get_other (codes "properties") (codes "headers") marked_object d (off (codes "properties") (codes "headers") refl)))
          ∙ object_map (change (codes "delivery_info") marked_object) (get (codes "properties") d) ∙ ap (option_map in_info) b;
      info_is =
          ap (option_and_then if_object) (get_same (codes "delivery_info") marked_object p)
          ∙ object_map (put (codes "redelivered") (boolean true)) (get (codes "delivery_info") p) ∙ ap (option_map marked_object) c;
      header_mark = mark_set (get (codes "headers") d) h a;
      info_mark = mark_set (get (codes "delivery_info") p) i c;
      in_headers = λ q n. get_marked q h n;
      in_info = λ q n. get_marked q i n;
      in_properties = λ q n. get_other q (codes "delivery_info") marked_object p n;
      elsewhere = λ q m n. get_other q (codes "properties") in_info headed n ∙ get_other q (codes "headers") marked_object d m;
    }
