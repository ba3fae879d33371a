-- The entry of an envelope, as it is put together from texts, is read again.
use Rattle.std.proofs.Common.{◌≡◌, ℕ, List, [], ◌∷◌, ◌++◌, Ok, refl, sym, ap, subst, ◌∙◌}
use Rattle.std.specs.Prelude.{IsUtf8}
use Rattle.std.proofs.lemmas.Str.{IsUtf8-append}
use Rattle.json.specs.Print.{quoted}
use Rattle.json.proofs.Printed.Utf8.{IsUtf8-are_ascii}
use Rattle.serde_json.specs.Data.{Data, string}
use Rattle.serde_json.specs.Written.{compact_text}
use Rattle.envelope.specs.Entries.{entry_at, entry_data, entry_for}
use Rattle.envelope.specs.Envelopes.{Parts, envelope_at, said_by}
use Rattle.envelope.proofs.BodyTexts.{entry_read, envelope_from_read}
use Rattle.envelope.proofs.EntryTexts.{entry_fits, entry_is}
use Rattle.envelope.proofs.Said.{said_is}
use Rattle.envelope_trees.proofs.SortedTrees.{read_sorted}

-- the array of an envelope's tree and its two names
abbrev pub array_of : Data → Parts → Data
array_of d p = entry_data (record { tree = d; exchange = p.exchange; routing_key = p.routing_key })

-- an envelope's own array is the one of what it says
pub own_array : (d : Data) (p : Parts) → said_by d ≡ Ok p → array_of d p ≡ entry_data (entry_for d)
own_array d p e = rw e refl

-- one byte of ASCII before a text
byte_then : (b : ℕ) (t : List ℕ) → IsUtf8 (b ∷ []) → IsUtf8 t → IsUtf8 (b ∷ t)
byte_then b t x y = IsUtf8-append (b ∷ []) t x y

-- brackets, commas and texts are a text
array_utf8 : (t e r : List ℕ) → IsUtf8 t → IsUtf8 (quoted e) → IsUtf8 (quoted r) → IsUtf8 (91 ∷ (t ++ 44 ∷ (quoted e ++ 44 ∷ (quoted r ++ 93 ∷ []))))
array_utf8 t e r x y z =
    byte_then 91 _ (IsUtf8-are_ascii (91 ∷ []) refl) (IsUtf8-append t _ x
    (byte_then 44 _ (IsUtf8-are_ascii (44 ∷ []) refl) (IsUtf8-append (quoted e) _ y
    (byte_then 44 _ (IsUtf8-are_ascii (44 ∷ []) refl) (IsUtf8-append (quoted r) _ z (IsUtf8-are_ascii (93 ∷ []) refl))))))

-- the text of an envelope's entry is read again as the entry
pub entry_again : (d : Data) (p : Parts) (t : List ℕ) → said_by d ≡ Ok p → t ≡ compact_text d → envelope_at t ≡ Ok d → IsUtf8 (quoted p.exchange) → IsUtf8 (quoted p.routing_key)
    → entry_at (compact_text (array_of d p)) ≡ Ok (entry_for d)
entry_again d p t said written again x k =
    let e = envelope_from_read d t again in
    let text : IsUtf8 (compact_text d) = subst IsUtf8 written e.utf8 in
    entry_is d p (compact_text (array_of d p)) said (array_utf8 (compact_text d) p.exchange p.routing_key text x k)
    (entry_read d p.exchange p.routing_key (read_sorted t d e.text) (said_is d p said).plain) (entry_fits d p said)

-- the texts of an envelope's tree and of its two names make the text of its entry
pub array_joined : (d : Data) (p : Parts) (f s t : List ℕ) → said_by d ≡ Ok p → f ≡ compact_text d → s ≡ compact_text (string p.exchange) → t ≡ compact_text (string p.routing_key)
    → 91 ∷ (f ++ 44 ∷ (s ++ 44 ∷ (t ++ 93 ∷ []))) ≡ compact_text (entry_data (entry_for d))
array_joined d p f s t said a b c =
    let joined : 91 ∷ (f ++ 44 ∷ (s ++ 44 ∷ (t ++ 93 ∷ []))) ≡ compact_text (array_of d p) = λ i. 91 ∷ (a i ++ 44 ∷ (b i ++ 44 ∷ (c i ++ 93 ∷ []))) in
    joined ∙ ap compact_text (own_array d p said)

-- and that text is read again as the entry
pub joined_again : (d : Data) (p : Parts) (f s t b : List ℕ) → said_by d ≡ Ok p → f ≡ compact_text d → envelope_at f ≡ Ok d → s ≡ compact_text (string p.exchange) → IsUtf8 s
    → t ≡ compact_text (string p.routing_key) → IsUtf8 t → b ≡ compact_text (entry_data (entry_for d)) → entry_at b ≡ Ok (entry_for d)
joined_again d p f s t b said written again e x r k is =
    ap entry_at is ∙ ap (λ q. entry_at (compact_text q)) (sym (own_array d p said)) ∙ entry_again d p f said written again (subst IsUtf8 e x) (subst IsUtf8 r k)
