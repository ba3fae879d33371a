-- The entry of an envelope is read as its entry, and carries the envelope.
use Rattle.std.proofs.Common.{◌≡◌, suc, ◌≤◌, ℕ, List, true, false, Some, option_map, option_and_then, Ok, refl, ap, ◌∙◌, arith}
use Rattle.std.specs.Prelude.{nat_le}
use Rattle.std.specs.Result.{result_ok}
use Rattle.std.proofs.lemmas.Bool.Decides.{nat_tests}
use Rattle.serde_json.specs.Data.{Data, string, no_items, item, items_depth, depth}
use Rattle.serde_json.specs.Read.{read, max_depth}
use Rattle.serde_json.specs.Written.{compact_text, items_have_float}
use Rattle.envelope.specs.Bodies.{carried, entry_of, entry_text, exchange_or, if_plain, parts_at, routing_key_or}
use Rattle.envelope.specs.Entries.{EntryParts, entry_at, entry_data, entry_for}
use Rattle.envelope.specs.Envelopes.{envelope_at, max_levels, parts_in}
use Rattle.envelope_trees.specs.Marks.{marked}
use Rattle.envelope.proofs.BodyTexts.{envelope_from_read}
use Rattle.envelope.proofs.EntryTexts.{entry_fits, entry_is}
use Rattle.envelope.proofs.Said.{IsPlain, said_is}
use Rattle.envelope_trees.proofs.SortedTrees.{read_sorted}
use Rattle.envelope_trees.proofs.TextsBack.{read-compact_text}
use Rattle.json_texts.proofs.Trees.{reads_texts}
use Rattle.envelope_laws.proofs.Names.{names_utf8}
use Rattle.envelope_laws.proofs.Written.{compact_utf8}

plain_is : (d : Data) → IsPlain d → if_plain d ≡ Some d
plain_is d h = let s : nat_le (depth d) max_levels ≡ true = let x = h.shallow in grind (arith, nat_tests) in rw (s, h.whole) refl

-- the text of an envelope's entry
entry_written : (v : List ℕ) (d : Data) → envelope_at v ≡ Ok d → entry_of v ≡ compact_text (entry_data (entry_for d))
entry_written v d e =
    let is = envelope_from_read d v e in
    let parts : parts_at v ≡ Some (parts_in d) = ap (λ r. option_map parts_in (result_ok r)) e in
    ap (λ o. entry_text (exchange_or o) (routing_key_or o) (option_and_then if_plain (read v))) parts
    ∙ ap (λ o. entry_text (parts_in d).exchange (parts_in d).routing_key (option_and_then if_plain o)) is.text
    ∙ ap (λ o. entry_text (parts_in d).exchange (parts_in d).routing_key o) (plain_is d (said_is d (parts_in d) is.said).plain)

-- and it is read
written_read : (v : List ℕ) (d : Data) → envelope_at v ≡ Ok d → entry_at (compact_text (entry_data (entry_for d))) ≡ Ok (entry_for d)
written_read v d e =
    let is = envelope_from_read d v e in
    let p = parts_in d in
    let texts = reads_texts v d is.utf8 is.text in
    let sorted = read_sorted v d is.text in
    let plain = (said_is d p is.said).plain in
    let names = names_utf8 d p texts is.said in
    let flat : items_have_float (item d (item (string p.exchange) (item (string p.routing_key) no_items))) ≡ false = rw (plain.whole) refl in
    let shallow : suc (items_depth (item d (item (string p.exchange) (item (string p.routing_key) no_items)))) ≤ max_depth = let x = plain.shallow in omega arith in
    entry_is d p (compact_text (entry_data (entry_for d))) is.said
    (compact_utf8 (entry_data (entry_for d)) (texts, (names.0, (names.1, tt))) (sorted, (tt, (tt, tt))))
    (read-compact_text (entry_data (entry_for d)) (sorted, (tt, (tt, tt))) flat shallow)
    (entry_fits d p is.said)

pub entered : (v : List ℕ) (d : Data) → envelope_at v ≡ Ok d
    → (entry_of v ≡ compact_text (entry_data (entry_for d))) × (entry_at (entry_of v) ≡ Ok (entry_for d)) × (carried (entry_of v) ≡ Some (compact_text (marked d)))
entered v d e =
    let w = entry_written v d e in
    let a : entry_at (entry_of v) ≡ Ok (entry_for d) = ap entry_at w ∙ written_read v d e in
    (w, a, ap (λ r. option_map (λ (f : EntryParts). compact_text (marked f.tree)) (result_ok r)) a)
