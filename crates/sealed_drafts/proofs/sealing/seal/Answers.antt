use Rattle.std.proofs.Common.{◌≡◌, List, ℕ, Some, sym, ap, subst, ◌∙◌}
use Rattle.std.specs.Prelude.{IsUtf8}
use Rattle.base64.specs.Engines.{standard}
use Rattle.base64.specs.GeneralPurpose.{encode_of}
use Rattle.serde_json.specs.View.{view as data_of}
use Rattle.envelope.specs.Envelopes.{content_of, envelope_of, if_text}
use Rattle.envelope_trees.specs.Reading.{Gives}
use Rattle.envelope.specs.SealedTrees.{sealed_tree, sealed_properties, sealed_info}
use Rattle.sealed_drafts.specs.Sealed.{sealed}
use Rattle.delivery_tags.specs.Tags.{tag_text, tag_of_text}
use Rattle.sealed_drafts.specs.declared.sealing.Draft.{Draft}
use Rattle.sealed_drafts.proofs.SealedTrees.{sealed_is}
use Rattle.delivery_tags.proofs.TagTexts.{tag_ascii}
use Rattle.sealed_drafts.proofs.sealing.seal.Goals as goal

-- the tree around a body and a tag's text is the draft's
made : (draft : Draft) (n : ℕ) (body tag : List ℕ) → body ≡ encode_of standard draft.content → tag ≡ tag_text n
    → sealed_tree body (data_of draft.headers) (sealed_properties (sealed_info draft.exchange draft.routing_key) draft.id draft.priority tag) ≡ sealed draft n
made draft n body tag b t =
    ap (λ (x : List ℕ). sealed_tree x (data_of draft.headers) (sealed_properties (sealed_info draft.exchange draft.routing_key) draft.id draft.priority tag)) b
    ∙ ap (λ (x : List ℕ). sealed_tree (encode_of standard draft.content) (data_of draft.headers) (sealed_properties (sealed_info draft.exchange draft.routing_key) draft.id draft.priority x)) t

pub text_of-requires : goal.text_of-requires
text_of-requires c = subst IsUtf8 (sym c.text-text.ensures.value) (tag_ascii c.args.tag.0)

pub returns : goal.returns
returns c =
    let content : List ℕ = c.args.draft.now.content in
    let same : c.as_slice.result.now ≡ content = c.as_slice.ensures in
    let body : c.as_str.result.now ≡ encode_of standard content = c.as_str.ensures.value ∙ c.in_ok-body.ensures.text ∙ ap (encode_of standard) same in
    let back : content_of (encode_of standard content) ≡ if_text content = ap (λ (x : List ℕ). content_of (encode_of standard x)) (sym same) ∙ c.in_ok-body.ensures.back ∙ ap if_text same in
    let is : data_of c.in_ok-tree.tree ≡ sealed c.args.draft.now c.args.tag.0 = c.in_ok-tree.ensures ∙ made c.args.draft.now c.args.tag.0 c.as_str.result.now c.text_of.result.now body (c.text_of.ensures ∙ c.text-text.ensures.value) in
    let reads : tag_of_text (tag_text c.args.tag.0) ≡ Some c.args.tag.0 = ap tag_of_text (sym c.text-text.ensures.value) ∙ c.text-text.ensures.read in
    subst (λ r. Gives data_of c.of_tree.result r) (ap envelope_of is ∙ sealed_is c.args.draft.now c.args.tag.0 back reads) c.of_tree.ensures
