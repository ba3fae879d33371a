-- What was sealed says what the draft says.
use Rattle.std.proofs.Common.{◌≡◌, ℕ, ◌<◌, ◌^◌, List, Bool, true, false, codes, if◌then◌else◌, Option, Some, None, option_and_then, Ok, refl, sym, ap, ◌∙◌}
use Rattle.std.specs.Prelude.{nat_le, not}
use Rattle.std.specs.Str.{is_utf8}
use Rattle.std.proofs.lemmas.Str.{IsUtf8-from_is_utf8}
use Rattle.base64.specs.Engines.{standard}
use Rattle.base64.specs.GeneralPurpose.{encode_of}
use Rattle.base64.proofs.EngineFacts.{decode_of-encode_of}
use Rattle.serde_json.specs.Data.{Data, depth}
use Rattle.serde_json.specs.Find.{get}
use Rattle.serde_json.specs.View.{view as data_of}
use Rattle.serde_json.specs.Written.{has_float}
use Rattle.envelope.specs.Envelopes.{Parts, content_of, said_by}
use Rattle.envelope_trees.specs.Members.{if_object, is_nothing, object_at, text_at}
use Rattle.envelope_trees.specs.Reading.{needed, wanted}
use Rattle.envelope.specs.SealedTrees.{sealed_info, sealed_properties}
use Rattle.sealed_drafts.specs.Sealed.{seal_of, sealed}
use Rattle.delivery_tags.specs.Tags.{tag_of_text, tag_text}
use Rattle.envelope_trees.specs.declared.fault.Field.TheVariants as field
use Rattle.envelope_trees.specs.declared.fault.EnvelopeFault.TheVariants.{BadBody, Compressed, Float, Missing, TooDeep}
use Rattle.sealed_drafts.specs.declared.sealing.Draft.{Draft}
use Rattle.envelope.proofs.EnvelopeTags.{envelope_said}
use Rattle.envelope.proofs.Said.{bind_ok, said_is, wanted_is}
use Rattle.envelope.proofs.Contents.{content_back}
use Rattle.sealed_drafts.proofs.SealedTrees.{sealed_is}
use Rattle.delivery_tags.proofs.TagTexts.{tag_of_text-tag_text}
use Rattle.envelope.proofs.Told.{told_by}
use Rattle.envelope.proofs.Octets.{utf8_bytes}

-- the content of a draft that was sealed is UTF-8
sealed_text : (draft : Draft) (n : ℕ) (d : Data) → seal_of draft n ≡ Ok d → is_utf8 draft.content ≡ true
unfolding seal_of
sealed_text draft n d e =
    let a = bind_ok (wanted TooDeep (nat_le (depth (data_of draft.headers)) 99)) _ d e in
    let b = bind_ok (wanted Float (not (has_float (data_of draft.headers)))) _ d a.2 in
    let c = bind_ok (needed (Missing field.Headers) (if_object (data_of draft.headers))) _ d b.2 in
    let f = bind_ok (wanted Compressed (is_nothing (get (codes "compression") c.0))) _ d c.2 in
    let g = bind_ok (wanted BadBody (is_utf8 draft.content)) _ d f.2 in
    wanted_is BadBody _ g.0 g.1

some_text : (a b : List ℕ) → Some a ≡ Some b → a ≡ b
some_text a b e = cc

some_data : (a b : Data) → ◌≡◌ {A = Option Data} (Some a) (Some b) → a ≡ b
some_data a b e = cc

some_number : (m n : ℕ) → ◌≡◌ {A = Option ℕ} (Some m) (Some n) → m ≡ n
some_number m n e = cc

-- an envelope's parts, from those of the draft
parts_drafted : (draft : Draft) (n : ℕ) (p : Parts) → tag_of_text (tag_text n) ≡ Some n → content_of (encode_of standard draft.content) ≡ Some draft.content → said_by (sealed draft n) ≡ Ok p
    → p ≡ record { content = draft.content; tag = n; exchange = draft.exchange; routing_key = draft.routing_key }
parts_drafted draft n p reads back e =
    let h = told_by (sealed draft n) p (said_is (sealed draft n) p e).parts in
    let body : encode_of standard draft.content ≡ h.body = some_text _ _ h.body_is in
    let content : p.content ≡ draft.content = some_text _ _ (sym h.content_is ∙ ap content_of (sym body) ∙ back) in
    let q : sealed_properties (sealed_info draft.exchange draft.routing_key) draft.id draft.priority (tag_text n) ≡ h.properties = some_data _ _ h.properties_is in
    let tag : n ≡ h.said.tag = some_number _ _ (sym reads ∙ ap (λ x. option_and_then tag_of_text (text_at (codes "delivery_tag") x)) q ∙ h.inner.tag_is) in
    let i : sealed_info draft.exchange draft.routing_key ≡ h.inner.info = some_data _ _ (ap (object_at (codes "delivery_info")) q ∙ h.inner.info_is) in
    let x : draft.exchange ≡ h.said.exchange = some_text _ _ (ap (text_at (codes "exchange")) i ∙ h.inner.exchange_is) in
    let r : draft.routing_key ≡ h.said.routing_key = some_text _ _ (ap (text_at (codes "routing_key")) i ∙ h.inner.routing_key_is) in
    λ l. record { content = content l; tag = sym (tag ∙ h.tag_is) l; exchange = sym (x ∙ h.exchange_is) l; routing_key = sym (r ∙ h.routing_key_is) l }

pub seals_say : (draft : Draft) (n : ℕ) (d : Data) → n < 2 ^ 128 → seal_of draft n ≡ Ok d
    → (d ≡ sealed draft n) × (said_by d ≡ Ok (record { content = draft.content; tag = n; exchange = draft.exchange; routing_key = draft.routing_key }))
seals_say draft n d fits e =
    let reads = tag_of_text-tag_text n fits in
    let text = sealed_text draft n d e in
    let utf8 = IsUtf8-from_is_utf8 draft.content text in
    let back = content_back draft.content (decode_of-encode_of standard draft.content refl (utf8_bytes draft.content utf8)) in
    let s = envelope_said (sealed draft n) d (sealed_is draft n back reads ∙ e) in
    let content : content_of (encode_of standard draft.content) ≡ Some draft.content = back ∙ by (is_utf8 draft.content) text in
    let is = parts_drafted draft n s.1.0 reads content s.1.1 in
    (sym s.0, ap said_by (sym s.0) ∙ s.1.1 ∙ ap (λ (p : Parts). Ok p) is)
  where
    by : (b : Bool) → b ≡ true → (if b then Some draft.content else None) ≡ Some draft.content
    by true i = refl
    by false i = cc
