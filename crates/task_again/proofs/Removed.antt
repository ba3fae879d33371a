-- An object after a member was taken out of its map. This serves the proofs of code.
use Rattle.std.proofs.Common.{◌≡◌, ℕ, List, [], ◌∷◌, Some, String, BTreeMap, Global, Ordering, Less, Equal, Greater, string_bytes, nat_cmp, is_eq, cond, codes, refl, sym, ap, ◌∙◌}
use Rattle.std.specs.Cmp.Lexicographic.{slice_cmp}
use Rattle.std.specs.Ordering.{match_ordering}
use Rattle.std.specs.Map.{remove_entry}
use Rattle.std.specs.BTreeMap.{is_at}
use Rattle.serde_json.specs.Data.{Data, object, member}
use Rattle.serde_json.specs.Find.{as_object}
use Rattle.serde_json.specs.View.{view, members_view}
use Rattle.serde_json.specs.declared.value.Value.{Value, Object}
use Rattle.serde_json.proofs.Views.{Entry, view-Object}
use Rattle.envelope_trees.proofs.Changes.{is_object}
use Rattle.task_message.specs.Again.{unmarked, without}

at_name : List ℕ → String Global → Ordering
at_name name k = slice_cmp nat_cmp name (string_bytes k)

by_order : (name : List ℕ) (o : Ordering) (x : Entry) (es fs : List Entry) → members_view fs ≡ without name (members_view es)
    → members_view (cond (is_eq o) es (x ∷ fs)) ≡ match_ordering o (member (string_bytes x.0) (view x.1) (without name (members_view es))) (members_view es) (member (string_bytes x.0) (view x.1) (without name (members_view es)))
by_order name Less x es fs later = ap (member (string_bytes x.0) (view x.1)) later
by_order name Equal x es fs later = refl
by_order name Greater x es fs later = ap (member (string_bytes x.0) (view x.1)) later

removed : (name : List ℕ) (es : List Entry) → members_view (remove_entry (is_at (λ k. slice_cmp nat_cmp name (string_bytes k))) es) ≡ without name (members_view es)
removed name [] = refl
removed name (x ∷ es) = by_order name (slice_cmp nat_cmp name (string_bytes x.0)) x es (remove_entry (is_at (λ k. slice_cmp nat_cmp name (string_bytes k))) es) (removed name es)

-- after the mark was taken out
pub mark_removed : (m : BTreeMap (String Global) Value) (es : List Entry) (d : Data) → m.entries ≡ remove_entry (is_at (λ k. slice_cmp nat_cmp (codes "redelivered") (string_bytes k))) es → Some (members_view es) ≡ as_object d
    → view (Object m) ≡ unmarked d
mark_removed m es d written was =
    view-Object m ∙ ap (λ (xs : List Entry). object (members_view xs)) written ∙ ap object (removed (codes "redelivered") es) ∙ ap unmarked (sym (is_object d (members_view es) was))
