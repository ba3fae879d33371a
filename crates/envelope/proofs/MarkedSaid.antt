-- A marked tree says what the tree says, and is marked.
use Rattle.std.proofs.Common.{◌≡◌, ℕ, ◌≤◌, List, length, true, false, codes, Less, Equal, Greater, nat_cmp, Option, Some, None, option_map, option_and_then, Ok, refl, sym, ap, subst, ◌∙◌, arith, bytes_eq, true≢false}
use Rattle.std.specs.Option.{option_map_or}
use Rattle.std.specs.Ordering.{match_ordering}
use Rattle.std.specs.Cmp.Lexicographic.{slice_cmp}
use Rattle.std.specs.FinMap.{IsAntisymmetric, nat_cmp-IsAntisymmetric, slice_cmp-IsAntisymmetric}
use Rattle.std.proofs.lemmas.Slice.Eq.{bytes_eq-Decides}
use Rattle.serde_json.specs.Data.{Data, null, boolean, number, string, array, object, Members, no_members, member, put, depth}
use Rattle.serde_json.specs.Find.{get, get_member, as_str, as_number, as_bool}
use Rattle.serde_json.specs.Written.{compact_text}
use Rattle.serde_json.proofs.Views.{get_member-put, get_member-put_other}
use Rattle.envelope_trees.specs.Marks.{change, on_object, with_member, marked_object, marked, is_marked, is_marked_in_headers, is_marked_in_info}
use Rattle.envelope_trees.specs.Members.{text_at, object_at, if_object, says_word, is_word_any_case, is_nothing, is_true_at}
use Rattle.envelope.specs.Envelopes.{Parts, said_by, priority_of, held_number, max_bytes, max_text}
use Rattle.delivery_tags.specs.Tags.{tag_of_text}
use Rattle.envelope_trees.proofs.Kept.{depth-marked, float-marked}
use Rattle.envelope_trees.proofs.MarkedTrees.{marked_twice}
use Rattle.envelope.proofs.Said.{said_is, said_from}
use Rattle.envelope.proofs.Told.{IsTold, IsPropertiesTold, told_by, told_from}

anti : IsAntisymmetric (slice_cmp nat_cmp)
anti = slice_cmp-IsAntisymmetric nat_cmp-IsAntisymmetric

-- ---- what stands at a name after a change

member_same : (k : List ℕ) (f : Data → Data) (ms : Members) → get_member k (change k f ms) ≡ option_map f (get_member k ms)
member_same k f no_members = refl
member_same k f (member l e ms) =
    elim (slice_cmp nat_cmp k l) as (λ r. slice_cmp nat_cmp k l ≡ r → get_member k (match_ordering r (member l e (change k f ms)) (member l (f e) ms) (member l e (change k f ms))) ≡ option_map f (match_ordering r (get_member k ms) (Some e) (get_member k ms))) [
      | Less ↦ λ i. rw i (member_same k f ms)
      | Equal ↦ λ i. rw i refl
      | Greater ↦ λ i. rw i (member_same k f ms)
    ] refl

member_other : (k q : List ℕ) (f : Data → Data) (ms : Members) → (k ≡ q → ⊥) → get_member k (change q f ms) ≡ get_member k ms
member_other k q f no_members n = refl
member_other k q f (member l e ms) n =
    elim (slice_cmp nat_cmp q l) as (λ r. slice_cmp nat_cmp q l ≡ r → get_member k (match_ordering r (member l e (change q f ms)) (member l (f e) ms) (member l e (change q f ms))) ≡ get_member k (member l e ms)) [
      | Less ↦ λ i. ap (λ o. match_ordering (slice_cmp nat_cmp k l) o (Some e) o) (member_other k q f ms n)
      | Equal ↦ λ i. elim (slice_cmp nat_cmp k l) as (λ r. slice_cmp nat_cmp k l ≡ r → match_ordering r (get_member k ms) (Some (f e)) (get_member k ms) ≡ match_ordering r (get_member k ms) (Some e) (get_member k ms)) [
        | Less ↦ λ j. refl
        | Equal ↦ λ j. absurd (n (anti k l j ∙ sym (anti q l i)))
        | Greater ↦ λ j. refl
      ] refl
      | Greater ↦ λ i. ap (λ o. match_ordering (slice_cmp nat_cmp k l) o (Some e) o) (member_other k q f ms n)
    ] refl

pub get_same : (k : List ℕ) (f : Data → Data) (d : Data) → get k (with_member k f d) ≡ option_map f (get k d)
get_same k f null = refl
get_same k f (boolean b) = refl
get_same k f (number n) = refl
get_same k f (string s) = refl
get_same k f (array ds) = refl
get_same k f (object ms) = member_same k f ms

pub get_other : (k q : List ℕ) (f : Data → Data) (d : Data) → (k ≡ q → ⊥) → get k (with_member q f d) ≡ get k d
get_other k q f null n = refl
get_other k q f (boolean b) n = refl
get_other k q f (number m) n = refl
get_other k q f (string s) n = refl
get_other k q f (array ds) n = refl
get_other k q f (object ms) n = member_other k q f ms n

-- ---- what stands at a name in a marked object

pub get_marked : (k : List ℕ) (d : Data) → (k ≡ codes "redelivered" → ⊥) → get k (marked_object d) ≡ get k d
get_marked k null n = refl
get_marked k (boolean b) n = refl
get_marked k (number m) n = refl
get_marked k (string s) n = refl
get_marked k (array ds) n = refl
get_marked k (object ms) n = get_member-put_other k (codes "redelivered") (boolean true) ms n

object_map : (g : Members → Members) (o : Option Data) → option_and_then if_object (option_map (on_object g) o) ≡ option_map (on_object g) (option_and_then if_object o)
object_map g None = refl
object_map g (Some null) = refl
object_map g (Some (boolean b)) = refl
object_map g (Some (number n)) = refl
object_map g (Some (string s)) = refl
object_map g (Some (array ds)) = refl
object_map g (Some (object ms)) = refl

on_info : Data → Data
on_info d = with_member (codes "delivery_info") marked_object d

on_headers : Data → Data
on_headers d = with_member (codes "headers") marked_object d

-- names that the test tells apart
off : (k q : List ℕ) → bytes_eq k q ≡ false → k ≡ q → ⊥
off k q n e = true≢false (sym ((bytes_eq-Decides k q).1 e) ∙ n)

text_kept : (k : List ℕ) (d : Data) → (k ≡ codes "headers" → ⊥) → (k ≡ codes "properties" → ⊥) → text_at k (marked d) ≡ text_at k d
unfolding on_info on_headers
text_kept k d a b = ap (option_and_then as_str) (get_other k (codes "properties") on_info (on_headers d) b ∙ get_other k (codes "headers") marked_object d a)

headers_marked : (d : Data) → get (codes "headers") (marked d) ≡ option_map marked_object (get (codes "headers") d)
unfolding on_info on_headers
headers_marked d = get_other (codes "headers") (codes "properties") on_info (on_headers d) (off (codes "headers") (codes "properties") refl) ∙ get_same (codes "headers") marked_object d

properties_marked : (d : Data) → get (codes "properties") (marked d) ≡ option_map on_info (get (codes "properties") d)
unfolding on_info on_headers
properties_marked d = get_same (codes "properties") on_info (on_headers d) ∙ ap (option_map on_info) (get_other (codes "properties") (codes "headers") marked_object d (off (codes "properties") (codes "headers") refl))

pub object_headers : (d h : Data) → object_at (codes "headers") d ≡ Some h → object_at (codes "headers") (marked d) ≡ Some (marked_object h)
object_headers d h e = ap (option_and_then if_object) (headers_marked d) ∙ object_map (put (codes "redelivered") (boolean true)) (get (codes "headers") d) ∙ ap (option_map marked_object) e

object_properties : (d q : Data) → object_at (codes "properties") d ≡ Some q → object_at (codes "properties") (marked d) ≡ Some (on_info q)
unfolding on_info
object_properties d q e = ap (option_and_then if_object) (properties_marked d) ∙ object_map (change (codes "delivery_info") marked_object) (get (codes "properties") d) ∙ ap (option_map on_info) e

object_info : (q i : Data) → object_at (codes "delivery_info") q ≡ Some i → object_at (codes "delivery_info") (on_info q) ≡ Some (marked_object i)
unfolding on_info
object_info q i e = ap (option_and_then if_object) (get_same (codes "delivery_info") marked_object q) ∙ object_map (put (codes "redelivered") (boolean true)) (get (codes "delivery_info") q) ∙ ap (option_map marked_object) e

-- ---- what it says

properties_told : (body : List ℕ) (q : Data) (p : Parts) → IsPropertiesTold body q p → IsPropertiesTold body (on_info q) p
unfolding on_info
properties_told body q p h = record {
  info = marked_object h.info;
  encoded = ap (λ o. says_word (codes "base64") (option_and_then as_str o)) (get_other (codes "body_encoding") (codes "delivery_info") marked_object q (off (codes "body_encoding") (codes "delivery_info") refl)) ∙ h.encoded;
  tag_is = ap (λ o. option_and_then tag_of_text (option_and_then as_str o)) (get_other (codes "delivery_tag") (codes "delivery_info") marked_object q (off (codes "delivery_tag") (codes "delivery_info") refl)) ∙ h.tag_is;
  info_is = object_info q h.info h.info_is;
  exchange_is = ap (option_and_then as_str) (get_marked (codes "exchange") h.info (off (codes "exchange") (codes "redelivered") refl)) ∙ h.exchange_is;
  routing_key_is = ap (option_and_then as_str) (get_marked (codes "routing_key") h.info (off (codes "routing_key") (codes "redelivered") refl)) ∙ h.routing_key_is;
  body_is = h.body_is;
}

told_marked : (d : Data) (p : Parts) → IsTold d p → IsTold (marked d) p
told_marked d p h = record {
  body = h.body;
  headers = marked_object h.headers;
  properties = on_info h.properties;
  said = h.said;
  body_is = text_kept (codes "body") d (off (codes "body") (codes "headers") refl) (off (codes "body") (codes "properties") refl) ∙ h.body_is;
  encoding = ap (is_word_any_case (codes "utf-8")) (text_kept (codes "content-encoding") d (off (codes "content-encoding") (codes "headers") refl) (off (codes "content-encoding") (codes "properties") refl)) ∙ h.encoding;
  kind = ap (says_word (codes "application/json")) (text_kept (codes "content-type") d (off (codes "content-type") (codes "headers") refl) (off (codes "content-type") (codes "properties") refl)) ∙ h.kind;
  headers_is = object_headers d h.headers h.headers_is;
  properties_is = object_properties d h.properties h.properties_is;
  inner = properties_told h.body h.properties h.said h.inner;
  plain = ap is_nothing (get_marked (codes "compression") h.headers (off (codes "compression") (codes "redelivered") refl)) ∙ h.plain;
  content_is = h.content_is;
  tag_is = h.tag_is;
  exchange_is = h.exchange_is;
  routing_key_is = h.routing_key_is;
  short = h.short;
}

-- a marked tree says what the tree says
pub said_marked : (d : Data) (p : Parts) → said_by d ≡ Ok p → said_by (marked d) ≡ Ok p
said_marked d p e =
    let s = said_is d p e in
    let deep : depth (marked d) ≤ 100 = let x = s.plain.shallow in omega (arith, depth-marked d) in
    let text : length (compact_text (marked d)) ≤ max_bytes = let x = s.marks in omega arith in
    said_from (marked d) p (record {
      plain = record { shallow = deep; whole = float-marked d s.plain.whole };
      parts = told_from (marked d) p (told_marked d p (told_by d p s.parts));
      text = text;
      marks = subst (λ (x : Data). length (compact_text x) ≤ max_text) (sym (marked_twice d)) s.marks;
    })

-- ---- it is marked

pub object_is : (o : Option Data) (h : Data) → option_and_then if_object o ≡ Some h → o ≡ Some h
object_is None h e = cc
object_is (Some null) h e = cc
object_is (Some (boolean b)) h e = cc
object_is (Some (number n)) h e = cc
object_is (Some (string s)) h e = cc
object_is (Some (array ds)) h e = cc
object_is (Some (object ms)) h e = e

mark_is_set : (o : Option Data) (h : Data) → option_and_then if_object o ≡ Some h → is_true_at (codes "redelivered") (marked_object h) ≡ true
mark_is_set None h e = cc
mark_is_set (Some null) h e = cc
mark_is_set (Some (boolean b)) h e = cc
mark_is_set (Some (number n)) h e = cc
mark_is_set (Some (string s)) h e = cc
mark_is_set (Some (array ds)) h e = cc
mark_is_set (Some (object ms)) h e =
    let same : object ms ≡ h = cc in
    subst (λ (x : Data). is_true_at (codes "redelivered") (marked_object x) ≡ true) same
    (ap (λ (o : Option Data). option_map_or (λ b. b) (option_and_then as_bool o) false) (get_member-put (codes "redelivered") (boolean true) ms))

marked_headers : (d p : Data) → object_at (codes "headers") d ≡ Some p → is_marked_in_headers (marked d) ≡ true
marked_headers d h e =
    ap (λ (o : Option Data). option_map_or (is_true_at (codes "redelivered")) o false) (object_is (get (codes "headers") (marked d)) (marked_object h) (object_headers d h e))
    ∙ mark_is_set (get (codes "headers") d) h e

marked_info : (d q i : Data) → object_at (codes "properties") d ≡ Some q → object_at (codes "delivery_info") q ≡ Some i → is_marked_in_info (marked d) ≡ true
marked_info d q i e f =
    ap (λ (o : Option Data). option_map_or (is_true_at (codes "redelivered")) (option_and_then (get (codes "delivery_info")) o) false) (object_is (get (codes "properties") (marked d)) (on_info q) (object_properties d q e))
    ∙ ap (λ (o : Option Data). option_map_or (is_true_at (codes "redelivered")) o false) (object_is (get (codes "delivery_info") (on_info q)) (marked_object i) (object_info q i f))
    ∙ mark_is_set (get (codes "delivery_info") q) i f

-- a marked envelope is marked
pub is_marked-marked : (d : Data) (p : Parts) → said_by d ≡ Ok p → is_marked (marked d) ≡ true
is_marked-marked d p e =
    let h = told_by d p (said_is d p e).parts in
    rw (marked_headers d h.headers h.headers_is) (marked_info d h.properties h.inner.info h.properties_is h.inner.info_is)

-- ---- and keeps its priority

number_kept : (o : Option Data) → option_and_then (get (codes "priority")) (option_map on_info o) ≡ option_and_then (get (codes "priority")) o
unfolding on_info
number_kept None = refl
number_kept (Some q) = get_other (codes "priority") (codes "delivery_info") marked_object q (off (codes "priority") (codes "delivery_info") refl)

pub priority-marked : (d : Data) → priority_of (marked d) ≡ priority_of d
priority-marked d = ap (λ (o : Option Data). held_number (option_and_then as_number o)) (ap (option_and_then (get (codes "priority"))) (properties_marked d) ∙ number_kept (get (codes "properties") d))
