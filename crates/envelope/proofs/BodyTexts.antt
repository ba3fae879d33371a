-- A body goes into an entry and comes out of it whole.
use Rattle.std.proofs.Common.{◌≡◌, suc, ◌≤◌, ℕ, List, [], length, Bool, true, false, ◌&&◌, if◌then◌else◌, Option, Some, None, option_map, option_and_then, Result, Ok, refl, sym, ap, subst, ◌∙◌, arith}
use Rattle.std.specs.Prelude.{IsUtf8, nat_le, not}
use Rattle.std.specs.Str.{is_utf8}
use Rattle.std.specs.Result.{result_ok}
use Rattle.std.proofs.lemmas.Bool.Decides.{nat_tests}
use Rattle.std.proofs.lemmas.Str.{IsUtf8-from_is_utf8}
use Rattle.serde_json.specs.Data.{Data, null, boolean, number, string, array, object, Items, no_items, item, depth, items_depth}
use Rattle.serde_json.specs.Find.{as_str}
use Rattle.serde_json.specs.Read.{read, max_depth}
use Rattle.serde_json.specs.Written.{has_float, items_have_float, compact_text}
use Rattle.serde_json.proofs.OnLiterals.{serde_json_on_literals}
use Rattle.envelope.specs.Bodies.{if_plain, marked_text, body_of, entry_text, entry_of, exchange_or, routing_key_or, parts_at, tree_in, body_in, carried}
use Rattle.envelope.specs.Entries.{EntryParts, entry_at, entry_data, entry_in, of_items, max_entry}
use Rattle.envelope.specs.Envelopes.{Parts, said_by, parts_or_none, parts_in, json_at, envelope_of, envelope_at, tree_at, are_short, max_levels, max_bytes}
use Rattle.envelope_trees.specs.Marks.{marked}
use Rattle.envelope_trees.specs.Reading.{needed, wanted}
use Rattle.envelope_trees.specs.Sorted.{Sorted, SortedItems}
use Rattle.envelope_trees.specs.declared.fault.EnvelopeFault.{EnvelopeFault}
use Rattle.envelope_trees.specs.declared.fault.EnvelopeFault.TheVariants.{TooLong, NotJson}
use Rattle.envelope.proofs.EnvelopeTags.{ok_is, envelope_said, read_said}
use Rattle.envelope_trees.proofs.Kept.{depth-marked, float-marked}
use Rattle.envelope_trees.proofs.MarkedTrees.{sorted-marked, marked_twice}
use Rattle.envelope.proofs.Said.{IsPlain, bind_ok, wanted_is, needed_is, said_is}
use Rattle.envelope_trees.proofs.SortedTrees.{read_sorted}
use Rattle.envelope_trees.proofs.TextsBack.{read-compact_text}

plain_ok : (d : Data) → IsPlain d → if_plain d ≡ Some d
plain_ok d h = let s : nat_le (depth d) max_levels ≡ true = let x = h.shallow in grind (arith, nat_tests) in rw (s, h.whole) refl

plain_is : (d e : Data) → if_plain d ≡ Some e → IsPlain d × (d ≡ e)
plain_is d e is = go (nat_le (depth d) max_levels) (has_float d) refl refl is
  where
    go : (s f : Bool) → nat_le (depth d) max_levels ≡ s → has_float d ≡ f → (if s && not f then Some d else None) ≡ Some e → IsPlain d × (d ≡ e)
    go true false a b i = let m : depth d ≤ 100 = grind (arith, nat_tests) in let n : d ≡ e = cc in (record { shallow = m; whole = b }, n)
    go true true a b i = cc
    go false f a b i = cc

-- what a text's tree is known to be
tree_is : (o : Option Data) (d : Data) → option_and_then if_plain o ≡ Some d → (o ≡ Some d) × IsPlain d
tree_is None d e = cc
tree_is (Some x) d e =
    let h = plain_is x d e in
    (ap (λ y. Some y) h.1, subst IsPlain h.1 h.0)

-- ---- into an entry

pub entry_read : (d : Data) (e r : List ℕ) → Sorted d → IsPlain d → read (entry_text e r (Some d)) ≡ Some (entry_data (record { tree = d; exchange = e; routing_key = r }))
entry_read d e r s h = read-compact_text (entry_data (record { tree = d; exchange = e; routing_key = r })) (s, (tt, (tt, tt))) flat shallow
  where
    flat : items_have_float (item d (item (string e) (item (string r) no_items))) ≡ false
    flat = rw (h.whole) refl

    shallow : suc (items_depth (item d (item (string e) (item (string r) no_items)))) ≤ max_depth
    shallow = let x = h.shallow in omega arith

nothing_read : tree_in [] ≡ None
unfolding serde_json_on_literals
nothing_read = refl

-- an entry's body is its envelope's
pub entry_body : (v : List ℕ) → body_in (entry_of v) ≡ body_of v
entry_body v = ap marked_text (go (option_and_then if_plain (read v)) refl)
  where
    go : (o : Option Data) → option_and_then if_plain (read v) ≡ o → tree_in (entry_text (exchange_or (parts_at v)) (routing_key_or (parts_at v)) o) ≡ o
    go None e = nothing_read
    go (Some d) e =
        let h = tree_is (read v) d e in
        let s = read_sorted v d h.0 in
        ap (λ x. option_and_then if_plain (option_map (λ y. y.tree) (option_and_then entry_in x))) (entry_read d (exchange_or (parts_at v)) (routing_key_or (parts_at v)) s h.1)
        ∙ plain_ok d h.1

-- ---- and out of it

json_is : (b : List ℕ) (d : Data) → json_at b ≡ Some d → IsUtf8 b × (read b ≡ Some d)
json_is b d e = go (is_utf8 b) refl e
  where
    go : (t : Bool) → is_utf8 b ≡ t → (if t then read b else None) ≡ Some d → IsUtf8 b × (read b ≡ Some d)
    go true i f = (IsUtf8-from_is_utf8 b i, f)
    go false i f = cc

-- what an entry's bytes are read as
pub record IsEntryRead (u : List ℕ) (f : EntryParts) : Type 0 where
  pub value : Data
  pub text : read u ≡ Some value
  pub items : entry_in value ≡ Some f
  pub plain : IsPlain f.tree

same_entry : (e f : EntryParts) → ◌≡◌ {A = Result EntryParts EnvelopeFault} (Ok e) (Ok f) → e ≡ f
same_entry e f h = cc

pub entry_is_read : (u : List ℕ) (f : EntryParts) → entry_at u ≡ Ok f → IsEntryRead u f
unfolding entry_at
entry_is_read u f h =
    let a = bind_ok (wanted TooLong (nat_le (length u) max_entry)) _ f h in
    let b = bind_ok (needed NotJson (json_at u)) _ f a.2 in
    let c = bind_ok (needed NotJson (entry_in b.0)) _ f b.2 in
    let t = bind_ok (envelope_of c.0.tree) _ f c.2 in
    let w = bind_ok (wanted TooLong (are_short c.0.exchange c.0.routing_key)) _ f t.2 in
    done b.0 c.0 t.0 (json_is u b.0 (needed_is NotJson _ b.0 b.1)).1 (needed_is NotJson _ c.0 c.1) (envelope_said c.0.tree t.0 t.1) (same_entry (record { tree = t.0; exchange = c.0.exchange; routing_key = c.0.routing_key }) f w.2)
  where
    done : (d : Data) (e : EntryParts) (t : Data) → read u ≡ Some d → entry_in d ≡ Some e → (e.tree ≡ t) × ((p : Parts) × (said_by e.tree ≡ Ok p)) → ◌≡◌ {A = EntryParts} (record { tree = t; exchange = e.exchange; routing_key = e.routing_key }) f → IsEntryRead u f
    done d e t r i s same =
        let whole : e ≡ f = ap (λ (x : Data). record { tree = x; exchange = e.exchange; routing_key = e.routing_key }) s.0 ∙ same in
        record { value = d; text = r; items = i ∙ ap (λ x. Some x) whole; plain = subst (λ (x : EntryParts). IsPlain x.tree) whole (said_is e.tree s.1.0 s.1.1).plain }

-- the tree of an entry that was read is sorted
some_tree : (e f : EntryParts) → ◌≡◌ {A = Option EntryParts} (Some e) (Some f) → e.tree ≡ f.tree
some_tree e f h = let s : e ≡ f = cc in ap (λ x. x.tree) s

three_tree : (t : Data) (a b : Option (List ℕ)) (f : EntryParts) → option_and_then (λ x. option_map (λ k. record { tree = t; exchange = x; routing_key = k }) b) a ≡ Some f → t ≡ f.tree
three_tree t None b f e = cc
three_tree t (Some x) None f e = cc
three_tree t (Some x) (Some k) f e = some_tree (record { tree = t; exchange = x; routing_key = k }) f e

sorted_items : (ds : Items) (f : EntryParts) → SortedItems ds → of_items ds ≡ Some f → Sorted f.tree
sorted_items no_items f s e = cc
sorted_items (item t no_items) f s e = cc
sorted_items (item t (item x no_items)) f s e = cc
sorted_items (item t (item x (item r no_items))) f s e = subst Sorted (three_tree t (as_str x) (as_str r) f e) s.0
sorted_items (item t (item x (item r (item y ys)))) f s e = cc

sorted_tree : (d : Data) (f : EntryParts) → Sorted d → entry_in d ≡ Some f → Sorted f.tree
sorted_tree null f s e = cc
sorted_tree (boolean b) f s e = cc
sorted_tree (number n) f s e = cc
sorted_tree (string t) f s e = cc
sorted_tree (array ds) f s e = sorted_items ds f s e
sorted_tree (object ms) f s e = cc

marked_body : (d : Data) → Sorted d → IsPlain d → body_of (compact_text (marked d)) ≡ marked_text (Some d)
marked_body d s h =
    let deep : depth (marked d) ≤ 100 = let x = h.shallow in omega (arith, depth-marked d) in
    let flat = float-marked d h.whole in
    let near : depth (marked d) ≤ max_depth = omega arith in
    ap (λ o. marked_text (option_and_then if_plain o)) (read-compact_text (marked d) (sorted-marked d s) flat near)
    ∙ ap marked_text (plain_ok (marked d) (record { shallow = deep; whole = flat }))
    ∙ ap compact_text (marked_twice d)

-- the envelope that an entry carries has the entry's body
pub carried_body : (u v : List ℕ) → carried u ≡ Some v → body_of v ≡ body_in u
carried_body u v e = go (result_ok (entry_at u)) refl e
  where
    go : (o : Option EntryParts) → result_ok (entry_at u) ≡ o → option_map (λ f. compact_text (marked f.tree)) o ≡ Some v → body_of v ≡ body_in u
    go None i g = cc
    go (Some f) i g =
        let k = entry_is_read u f (ok_is (entry_at u) f i) in
        let s = sorted_tree k.value f (read_sorted u k.value k.text) k.items in
        let is : compact_text (marked f.tree) ≡ v = cc in
        ap body_of (sym is) ∙ marked_body f.tree s k.plain
        ∙ sym (ap (λ o. marked_text (option_and_then if_plain (option_map (λ y. y.tree) o))) (ap (option_and_then entry_in) k.text ∙ k.items) ∙ ap marked_text (plain_ok f.tree k.plain))

-- ---- the relation of envelopes and bytes

tree_known : (b : List ℕ) (d : Data) → tree_at b ≡ Ok d → (length b ≤ max_bytes) × IsUtf8 b × (read b ≡ Some d)
unfolding tree_at
tree_known b d e =
    let a = bind_ok (wanted TooLong (nat_le (length b) max_bytes)) _ d e in
    let j = json_is b d (needed_is NotJson _ d a.2) in
    let short : length b ≤ max_bytes = let x = wanted_is TooLong _ a.0 a.1 in grind (arith, nat_tests) in
    (short, j.0, j.1)

-- the bytes are read as a tree that says something
pub record IsEnvelopeRead (d : Data) (b : List ℕ) : Type 0 where
  pub short : length b ≤ max_bytes
  pub utf8 : IsUtf8 b
  pub text : read b ≡ Some d
  pub said : said_by d ≡ Ok (parts_in d)

pub envelope_from_read : (d : Data) (b : List ℕ) → envelope_at b ≡ Ok d → IsEnvelopeRead d b
envelope_from_read d b e =
    let s = read_said b d e in
    let t = tree_known b d s.0 in
    record { short = t.0; utf8 = t.1; text = t.2; said = s.1.1 ∙ ap (λ r. Ok (parts_or_none r)) (sym s.1.1) }
