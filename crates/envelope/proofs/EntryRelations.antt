-- What is read as an entry is one, and each one is read.
use Rattle.std.proofs.Common.{◌≡◌, ◌≤◌, ℕ, List, length, Bool, true, false, if◌then◌else◌, Option, Some, None, option_map, option_and_then, Result, Ok, IsUtf8, refl, sym, ap, subst, ◌∙◌, arith}
use Rattle.std.specs.Prelude.{nat_le}
use Rattle.std.specs.Str.{is_utf8}
use Rattle.std.proofs.lemmas.Bool.{and_from, and_parts}
use Rattle.std.proofs.lemmas.Bool.Decides.{nat_tests}
use Rattle.std.proofs.lemmas.Str.{IsUtf8-from_is_utf8}
use Rattle.serde_json.specs.Data.{Data, null, boolean, number, string, array, object, Items, no_items, item}
use Rattle.serde_json.specs.Find.{as_str}
use Rattle.serde_json.specs.Read.{read}
use Rattle.envelope.specs.Entries.{EntryParts, entry_at, entry_data, entry_in, max_entry, of_items}
use Rattle.envelope.specs.Envelopes.{Parts, are_short, envelope_of, json_at, said_by}
use Rattle.envelope_trees.specs.Reading.{needed, wanted}
use Rattle.envelope.specs.Relations.{IsEntry}
use Rattle.envelope_trees.specs.declared.fault.EnvelopeFault.{EnvelopeFault}
use Rattle.envelope_trees.specs.declared.fault.EnvelopeFault.TheVariants.{NotJson, TooLong}
use Rattle.envelope.proofs.EnvelopeTags.{envelope_said}
use Rattle.envelope.proofs.Said.{bind_ok, needed_is, wanted_is}
use Rattle.envelope.proofs.Texts.{json_some}
use Rattle.json_texts.specs.Trees.{HasTexts}
use Rattle.json_texts.proofs.Trees.{reads_texts}
use Rattle.envelope.proofs.Relations.{is_short, short_is, tree_from, tree_said}

-- ---- the array of an entry

some_entry : (e f : EntryParts) → ◌≡◌ {A = Option EntryParts} (Some e) (Some f) → e ≡ f
some_entry e f h = cc

str_is : (d : Data) (s : List ℕ) → as_str d ≡ Some s → d ≡ string s
str_is null s e = cc
str_is (boolean b) s e = cc
str_is (number n) s e = cc
str_is (string t) s e = let i : t ≡ s = cc in ap (λ (x : List ℕ). string x) i
str_is (array ds) s e = cc
str_is (object ms) s e = cc

three_is : (t x r : Data) (a b : Option (List ℕ)) (f : EntryParts) → as_str x ≡ a → as_str r ≡ b → option_and_then (λ y. option_map (λ k. record { tree = t; exchange = y; routing_key = k }) b) a ≡ Some f
    → array (item t (item x (item r no_items))) ≡ entry_data f
three_is t x r None b f i j e = cc
three_is t x r (Some y) None f i j e = cc
three_is t x r (Some y) (Some k) f i j e =
    (λ l. array (item t (item (str_is x y i l) (item (str_is r k j l) no_items))))
    ∙ ap entry_data (some_entry (record { tree = t; exchange = y; routing_key = k }) f e)

items_are : (ds : Items) (f : EntryParts) → of_items ds ≡ Some f → array ds ≡ entry_data f
items_are no_items f e = cc
items_are (item t no_items) f e = cc
items_are (item t (item x no_items)) f e = cc
items_are (item t (item x (item r no_items))) f e = three_is t x r (as_str x) (as_str r) f refl refl e
items_are (item t (item x (item r (item y ys)))) f e = cc

array_is : (d : Data) (f : EntryParts) → entry_in d ≡ Some f → d ≡ entry_data f
array_is null f e = cc
array_is (boolean b) f e = cc
array_is (number n) f e = cc
array_is (string s) f e = cc
array_is (array ds) f e = items_are ds f e
array_is (object ms) f e = cc

json_is : (b : List ℕ) (d : Data) → json_at b ≡ Some d → IsUtf8 b × (read b ≡ Some d)
json_is b d e = go (is_utf8 b) refl e
  where
    go : (t : Bool) → is_utf8 b ≡ t → (if t then read b else None) ≡ Some d → IsUtf8 b × (read b ≡ Some d)
    go true i f = (IsUtf8-from_is_utf8 b i, f)
    go false i f = cc

same_entry : (e f : EntryParts) → ◌≡◌ {A = Result EntryParts EnvelopeFault} (Ok e) (Ok f) → e ≡ f
same_entry e f h = cc

-- ---- both ways

entry_told : (f : EntryParts) (b : List ℕ) (d : Data) (p : Parts) → length b ≤ max_entry → IsUtf8 b × (read b ≡ Some d) → d ≡ entry_data f → said_by f.tree ≡ Ok p → are_short f.exchange f.routing_key ≡ true → IsEntry f b
entry_told f b d p short r is said names =
    let texts = subst HasTexts is (reads_texts b d r.0 r.1) in
    let s = and_parts _ _ names in
    record {
      short = short;
      utf8 = r.0;
      text = r.1 ∙ ap (λ (x : Data). Some x) is;
      parts = p;
      tree = tree_from f.tree p texts.0 said;
      exchange_short = short_is f.exchange s.0;
      routing_key_short = short_is f.routing_key s.1;
    }

pub entry_from : (f : EntryParts) (b : List ℕ) → entry_at b ≡ Ok f → IsEntry f b
unfolding entry_at
entry_from f b h =
    let a = bind_ok (wanted TooLong (nat_le (length b) max_entry)) _ f h in
    let j = bind_ok (needed NotJson (json_at b)) _ f a.2 in
    let c = bind_ok (needed NotJson (entry_in j.0)) _ f j.2 in
    let t = bind_ok (envelope_of c.0.tree) _ f c.2 in
    let w = bind_ok (wanted TooLong (are_short c.0.exchange c.0.routing_key)) _ f t.2 in
    let short : length b ≤ max_entry = let x = wanted_is TooLong _ a.0 a.1 in grind (arith, nat_tests) in
    let s = envelope_said c.0.tree t.0 t.1 in
    let whole : c.0 ≡ f = ap (λ (x : Data). record { tree = x; exchange = c.0.exchange; routing_key = c.0.routing_key }) s.0 ∙ same_entry (record { tree = t.0; exchange = c.0.exchange; routing_key = c.0.routing_key }) f w.2 in
    entry_told f b j.0 s.1.0 short (json_is b j.0 (needed_is NotJson _ j.0 j.1)) (array_is j.0 c.0 (needed_is NotJson _ c.0 c.1) ∙ ap entry_data whole)
    (ap (λ (x : EntryParts). said_by x.tree) (sym whole) ∙ s.1.1) (ap (λ (x : EntryParts). are_short x.exchange x.routing_key) (sym whole) ∙ wanted_is TooLong _ w.0 w.1)

pub entry_read : (f : EntryParts) (b : List ℕ) → IsEntry f b → entry_at b ≡ Ok f
unfolding entry_at envelope_of
entry_read f b h =
    let short : nat_le (length b) max_entry ≡ true = let x = h.short in grind (arith, nat_tests) in
    let names : are_short f.exchange f.routing_key ≡ true = and_from _ _ (is_short f.exchange h.exchange_short) (is_short f.routing_key h.routing_key_short) in
    rw (short, json_some b _ h.utf8 h.text, tree_said f.tree h.parts h.tree, names) refl
