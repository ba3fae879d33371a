-- The names of an envelope are short texts.
use Rattle.std.proofs.Common.{◌≡◌, ℕ, List, true, codes, Ok, IsUtf8, subst}
use Rattle.std.proofs.lemmas.Bool.{and_from, and_parts}
use Rattle.std.proofs.lemmas.Str.{is_utf8-from_IsUtf8}
use Rattle.serde_json.specs.Data.{Data}
use Rattle.envelope.specs.Envelopes.{Parts, envelope_at, parts_in, said_by}
use Rattle.envelope.proofs.BodyTexts.{envelope_from_read}
use Rattle.envelope.proofs.EntryTexts.{short_names}
use Rattle.envelope.proofs.Said.{said_is}
use Rattle.envelope.proofs.Told.{told_by}
use Rattle.json_texts.specs.Trees.{HasTexts}
use Rattle.json_texts.proofs.Trees.{reads_texts}
use Rattle.envelope_laws.specs.Names.{is_short_text}
use Rattle.envelope.proofs.Members.{object_at-texts, text_at-texts}

pub names_utf8 : (d : Data) (p : Parts) → HasTexts d → said_by d ≡ Ok p → IsUtf8 p.exchange × IsUtf8 p.routing_key
names_utf8 d p h e =
    let t = told_by d p (said_is d p e).parts in
    let properties = object_at-texts (codes "properties") d t.properties h t.properties_is in
    let info = object_at-texts (codes "delivery_info") t.properties t.inner.info properties t.inner.info_is in (
      subst IsUtf8 t.exchange_is (text_at-texts (codes "exchange") t.inner.info t.said.exchange info t.inner.exchange_is),
      subst IsUtf8 t.routing_key_is (text_at-texts (codes "routing_key") t.inner.info t.said.routing_key info t.inner.routing_key_is),
    )

pub names_are : (v : List ℕ) (d : Data) → envelope_at v ≡ Ok d → (is_short_text (parts_in d).exchange ≡ true) × (is_short_text (parts_in d).routing_key ≡ true)
names_are v d e =
    let k = envelope_from_read d v e in
    let u = names_utf8 d (parts_in d) (reads_texts v d k.utf8 k.text) k.said in
    let s = and_parts _ _ (short_names d (parts_in d) k.said) in
    (and_from _ _ s.0 (is_utf8-from_IsUtf8 (parts_in d).exchange u.0), and_from _ _ s.1 (is_utf8-from_IsUtf8 (parts_in d).routing_key u.1))
