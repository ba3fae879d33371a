-- A tree after a write into its map.
use Rattle.std.proofs.Common.{◌≡◌, ℕ, List, [], ◌∷◌, Option, Some, None, String, BTreeMap, Global, Ordering, Less, Equal, Greater, string_bytes, string_cmp, nat_cmp, is_eq, cond, is_some, true, true≢false, codes, refl, sym, ap, ◌∙◌}
use Rattle.std.specs.Cmp.Lexicographic.{slice_cmp}
use Rattle.std.specs.Ordering.{match_ordering}
use Rattle.std.specs.Map.{lookup, set_value}
use Rattle.std.specs.BTreeMap.{insert_entry, is_at}
use Rattle.serde_json.specs.Data.{Data, null, boolean, number, string, array, object, Members, no_members, member, put}
use Rattle.serde_json.specs.Find.{as_object}
use Rattle.serde_json.specs.View.{view, members_view}
use Rattle.serde_json.specs.declared.value.Value.{Value, Object}
use Rattle.serde_json.proofs.Views.{Entry, view-Object, members_view-insert_entry}
use Rattle.envelope_trees.specs.Marks.{change, with_member, marked_object}

members_or : Option Members → Members
members_or None = no_members
members_or (Some ms) = ms

pub is_object : (d : Data) (ms : Members) → Some ms ≡ as_object d → d ≡ object ms
unfolding members_or
is_object null ms e = absurd (true≢false (ap is_some e))
is_object (boolean b) ms e = absurd (true≢false (ap is_some e))
is_object (number n) ms e = absurd (true≢false (ap is_some e))
is_object (string s) ms e = absurd (true≢false (ap is_some e))
is_object (array ds) ms e = absurd (true≢false (ap is_some e))
is_object (object ns) ms e = ap object (sym (ap members_or e))

pub mark_put : (m : BTreeMap (String Global) Value) (es : List Entry) (k : String Global) (v : Value) (d : Data)
    → m.entries ≡ insert_entry string_cmp es k v → string_bytes k ≡ codes "redelivered" → view v ≡ boolean true → Some (members_view es) ≡ as_object d
    → view (Object m) ≡ marked_object d
mark_put m es k v d written key value was =
    view-Object m ∙ ap (λ (xs : List Entry). object (members_view xs)) written ∙ ap object (members_view-insert_entry es k v)
    ∙ ap (λ (n : List ℕ). object (put n (view v) (members_view es))) key ∙ ap (λ (x : Data). object (put (codes "redelivered") x (members_view es))) value
    ∙ ap marked_object (sym (is_object d (members_view es) was))

value_or : Value → Option Value → Value
value_or v None = v
value_or v (Some x) = x

module _ (name : List ℕ) where
  abbrev pub at_name : String Global → Ordering
  at_name k = slice_cmp nat_cmp name (string_bytes k)

  module _ (f : Data → Data) where
    changed_by : (o : Ordering) (x : Entry) (es fs : List Entry) (rest : Option Value) (e w : Value) → view w ≡ f (view e) → cond (is_eq o) (Some x.1) rest ≡ Some e
        → (rest ≡ Some e → members_view fs ≡ change name f (members_view es))
        → members_view (cond (is_eq o) ((x.0, w) ∷ es) (x ∷ fs))
        ≡ match_ordering o (member (string_bytes x.0) (view x.1) (change name f (members_view es))) (member (string_bytes x.0) (f (view x.1)) (members_view es)) (member (string_bytes x.0) (view x.1) (change name f (members_view es)))
    unfolding value_or
    changed_by Less x es fs rest e w is found later = ap (member (string_bytes x.0) (view x.1)) (later found)
    changed_by Equal x es fs rest e w is found later = ap (λ (d : Data). member (string_bytes x.0) d (members_view es)) (is ∙ ap (λ (o : Option Value). f (view (value_or x.1 o))) (sym found))
    changed_by Greater x es fs rest e w is found later = ap (member (string_bytes x.0) (view x.1)) (later found)

    changed : (es : List Entry) (e w : Value) → view w ≡ f (view e) → lookup (is_at at_name) es ≡ Some e → members_view (set_value (is_at at_name) es w) ≡ change name f (members_view es)
    changed [] e w is found = absurd (true≢false (sym (ap is_some found)))
    changed (x ∷ es) e w is found = changed_by (at_name x.0) x es (set_value (is_at at_name) es w) (lookup (is_at at_name) es) e w is found (changed es e w is)

    same_by : (o : Ordering) (x : Entry) (es : List Entry) (rest : Option Value) → cond (is_eq o) (Some x.1) rest ≡ None
        → (rest ≡ None → members_view es ≡ change name f (members_view es))
        → members_view (x ∷ es)
        ≡ match_ordering o (member (string_bytes x.0) (view x.1) (change name f (members_view es))) (member (string_bytes x.0) (f (view x.1)) (members_view es)) (member (string_bytes x.0) (view x.1) (change name f (members_view es)))
    same_by Less x es rest none later = ap (member (string_bytes x.0) (view x.1)) (later none)
    same_by Equal x es rest none later = absurd (true≢false (ap is_some none))
    same_by Greater x es rest none later = ap (member (string_bytes x.0) (view x.1)) (later none)

    same : (es : List Entry) → lookup (is_at at_name) es ≡ None → members_view es ≡ change name f (members_view es)
    same [] none = refl
    same (x ∷ es) none = same_by (at_name x.0) x es (lookup (is_at at_name) es) none (same es)

    -- after a write through `get_mut`
    pub member_changed : (m : BTreeMap (String Global) Value) (es : List Entry) (e w : Value) (d : Data) → m.entries ≡ set_value (is_at at_name) es w → Some e ≡ lookup (is_at at_name) es
        → view w ≡ f (view e) → Some (members_view es) ≡ as_object d → view (Object m) ≡ with_member name f d
    member_changed m es e w d written found is was =
        view-Object m ∙ ap (λ (xs : List Entry). object (members_view xs)) written ∙ ap object (changed es e w is (sym found)) ∙ ap (with_member name f) (sym (is_object d (members_view es) was))

    -- where there is no such member
    pub member_absent : (m : BTreeMap (String Global) Value) (es : List Entry) (d : Data) → m.entries ≡ es → None ≡ lookup (is_at at_name) es
        → Some (members_view es) ≡ as_object d → view (Object m) ≡ with_member name f d
    member_absent m es d kept none was =
        view-Object m ∙ ap (λ (xs : List Entry). object (members_view xs)) kept ∙ ap object (same es (sym none)) ∙ ap (with_member name f) (sym (is_object d (members_view es) was))
