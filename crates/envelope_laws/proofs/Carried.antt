-- What an entry carries is its envelope again, marked.
use Rattle.std.proofs.Common.{◌≡◌, ℕ, ◌≤◌, List, length, Bool, true, false, Option, Some, None, option_map, option_and_then, if◌then◌else◌, Result, Ok, IsUtf8, refl, sym, ap, subst, ◌∙◌, arith}
use Rattle.std.specs.Prelude.{nat_le}
use Rattle.std.specs.Result.{result_ok}
use Rattle.std.specs.Str.{is_utf8}
use Rattle.std.proofs.lemmas.Str.{IsUtf8-from_is_utf8}
use Rattle.serde_json.specs.Data.{Data, null, boolean, number, string, array, object, Items, no_items, item, depth}
use Rattle.serde_json.specs.Find.{as_str}
use Rattle.serde_json.specs.Read.{read, max_depth}
use Rattle.serde_json.specs.Written.{compact_text}
use Rattle.envelope.specs.Bodies.{carried}
use Rattle.envelope.specs.Entries.{EntryParts, entry_at, entry_in, of_items, max_entry}
use Rattle.envelope.specs.Envelopes.{Parts, are_short, envelope_of, json_at, max_bytes, parts_in, parts_or_none, said_by}
use Rattle.envelope_trees.specs.Marks.{marked}
use Rattle.envelope_trees.specs.Reading.{needed, wanted}
use Rattle.envelope_trees.specs.Sorted.{Sorted}
use Rattle.delivery_tags.specs.Tags.{tag_text}
use Rattle.envelope_trees.specs.declared.fault.EnvelopeFault.{EnvelopeFault}
use Rattle.envelope_trees.specs.declared.fault.EnvelopeFault.TheVariants.{TooLong, NotJson}
use Rattle.envelope.proofs.EnvelopeTags.{envelope_said, ok_is}
use Rattle.envelope_trees.proofs.Kept.{depth-marked, float-marked}
use Rattle.envelope.proofs.MarkedSaid.{is_marked-marked, priority-marked, said_marked}
use Rattle.envelope_trees.proofs.MarkedTrees.{sorted-marked}
use Rattle.envelope.proofs.Said.{bind_ok, envelope_is, needed_is, said_is}
use Rattle.envelope_trees.proofs.SortedTrees.{read_sorted}
use Rattle.envelope_trees.proofs.TextsBack.{read-compact_text}
use Rattle.json_texts.specs.Trees.{HasTexts}
use Rattle.json_texts.proofs.Trees.{reads_texts}
use Rattle.envelope_laws.specs.Carried.{IsCarried}
use Rattle.envelope.proofs.Members.{marked-texts}
use Rattle.envelope_laws.proofs.Written.{compact_utf8}

-- ---- the tree of an entry

some_entry : (e f : EntryParts) → ◌≡◌ {A = Option EntryParts} (Some e) (Some f) → e.tree ≡ f.tree
some_entry e f h = let s : e ≡ f = cc in ap (λ x. x.tree) s

three_tree : (t : Data) (a b : Option (List ℕ)) (f : EntryParts) → option_and_then (λ x. option_map (λ k. record { tree = t; exchange = x; routing_key = k }) b) a ≡ Some f → t ≡ f.tree
three_tree t None b f e = cc
three_tree t (Some x) None f e = cc
three_tree t (Some x) (Some k) f e = some_entry (record { tree = t; exchange = x; routing_key = k }) f e

-- an array of three, of which the tree is the first
record IsArray (d t : Data) : Type 0 where
  exchange : Data
  routing_key : Data
  is : d ≡ array (item t (item exchange (item routing_key no_items)))

items_array : (ds : Items) (f : EntryParts) → of_items ds ≡ Some f → IsArray (array ds) f.tree
items_array no_items f e = cc
items_array (item t no_items) f e = cc
items_array (item t (item x no_items)) f e = cc
items_array (item t (item x (item r no_items))) f e = record { exchange = x; routing_key = r; is = ap (λ y. array (item y (item x (item r no_items)))) (three_tree t (as_str x) (as_str r) f e) }
items_array (item t (item x (item r (item y ys)))) f e = cc

entry_array : (d : Data) (f : EntryParts) → entry_in d ≡ Some f → IsArray d f.tree
entry_array null f e = cc
entry_array (boolean b) f e = cc
entry_array (number n) f e = cc
entry_array (string s) f e = cc
entry_array (array ds) f e = items_array ds f e
entry_array (object ms) f e = cc

-- what is known of an entry's tree
record IsTold (f : EntryParts) : Type 0 where
  texts : HasTexts f.tree
  sorted : Sorted f.tree
  parts : Parts
  said : said_by f.tree ≡ Ok parts

json_is : (b : List ℕ) (d : Data) → json_at b ≡ Some d → IsUtf8 b × (read b ≡ Some d)
json_is b d e = go (is_utf8 b) refl e
  where
    go : (t : Bool) → is_utf8 b ≡ t → (if t then read b else None) ≡ Some d → IsUtf8 b × (read b ≡ Some d)
    go true i f = (IsUtf8-from_is_utf8 b i, f)
    go false i f = cc

same_entry : (e f : EntryParts) → ◌≡◌ {A = Result EntryParts EnvelopeFault} (Ok e) (Ok f) → e ≡ f
same_entry e f h = cc

tree_told : (u : List ℕ) (d : Data) (f : EntryParts) (p : Parts) → IsUtf8 u → read u ≡ Some d → entry_in d ≡ Some f → said_by f.tree ≡ Ok p → IsTold f
tree_told u d f p utf8 text is said =
    let a = entry_array d f is in
    let t = subst HasTexts a.is (reads_texts u d utf8 text) in
    let s = subst Sorted a.is (read_sorted u d text) in
    record { texts = t.0; sorted = s.0; parts = p; said = said }

told : (u : List ℕ) (f : EntryParts) → entry_at u ≡ Ok f → IsTold f
unfolding entry_at
told u f h =
    let a = bind_ok (wanted TooLong (nat_le (length u) max_entry)) _ f h in
    let b = bind_ok (needed NotJson (json_at u)) _ f a.2 in
    let c = bind_ok (needed NotJson (entry_in b.0)) _ f b.2 in
    let t = bind_ok (envelope_of c.0.tree) _ f c.2 in
    let w = bind_ok (wanted TooLong (are_short c.0.exchange c.0.routing_key)) _ f t.2 in
    done b.0 c.0 t.0 (json_is u b.0 (needed_is NotJson _ b.0 b.1)) (needed_is NotJson _ c.0 c.1) (envelope_said c.0.tree t.0 t.1) (same_entry (record { tree = t.0; exchange = c.0.exchange; routing_key = c.0.routing_key }) f w.2)
  where
    done : (d : Data) (e : EntryParts) (t : Data) → IsUtf8 u × (read u ≡ Some d) → entry_in d ≡ Some e → (e.tree ≡ t) × ((p : Parts) × (said_by e.tree ≡ Ok p)) → ◌≡◌ {A = EntryParts} (record { tree = t; exchange = e.exchange; routing_key = e.routing_key }) f → IsTold f
    done d e t r i s same =
        let whole : e ≡ f = ap (λ (x : Data). record { tree = x; exchange = e.exchange; routing_key = e.routing_key }) s.0 ∙ same in
        tree_told u d f s.1.0 r.0 r.1 (i ∙ ap (λ x. Some x) whole) (ap (λ (x : EntryParts). said_by x.tree) (sym whole) ∙ s.1.1)

-- ---- the envelope

out : (f : EntryParts) → IsTold f → IsCarried f (compact_text (marked f.tree))
out f k =
    let d = f.tree in
    let known = said_is d k.parts k.said in
    let said = said_marked d k.parts k.said in
    let sorted = sorted-marked d k.sorted in
    let shallow : depth (marked d) ≤ max_depth = let x = known.plain.shallow in omega (arith, depth-marked d) in
    let reads = read-compact_text (marked d) sorted (float-marked d known.plain.whole) shallow in
    let fits : length (compact_text (marked d)) ≤ max_bytes = let x = known.marks in omega arith in
    let same : parts_in (marked d) ≡ parts_in d = ap parts_or_none (said ∙ sym k.said) in
    let envelope = envelope_is (marked d) k.parts (compact_text (marked d)) said (compact_utf8 (marked d) (marked-texts d k.texts) sorted) reads fits in
    record {
      envelope = envelope;
      marks = is_marked-marked d k.parts k.said;
      parts = same;
      priority = priority-marked d;
      tag = ap (λ r. option_map (λ p. tag_text p.tag) (option_map parts_in (result_ok r))) envelope ∙ ap (λ (p : Parts). Some (tag_text p.tag)) same;
    }

pub carries : (u v : List ℕ) → carried u ≡ Some v → (e : EntryParts) × (entry_at u ≡ Ok e) × IsCarried e v
carries u v h = go (result_ok (entry_at u)) refl h
  where
    go : (o : Option EntryParts) → result_ok (entry_at u) ≡ o → option_map (λ f. compact_text (marked f.tree)) o ≡ Some v → (e : EntryParts) × (entry_at u ≡ Ok e) × IsCarried e v
    go None i g = cc
    go (Some f) i g =
        let is : compact_text (marked f.tree) ≡ v = cc in
        let k = ok_is (entry_at u) f i in
        (f, k, subst (IsCarried f) is (out f (told u f k)))
