use Rattle.std.proofs.Common.{◌≡◌, is_some, true≢false, false, bytes_eq, sym, ap, ◌∙◌, subst}
use Rattle.std.specs.Prelude.{IsUtf8}
use Rattle.std.specs.Int.{w128, to_be_bytes}
use Rattle.std.proofs.lemmas.Slice.Eq.{bytes_eq-Decides}
use Rattle.uuid.specs.Text.{parsed}
use Rattle.delivery_tags.specs.Tags.{tag_text}
use Rattle.delivery_tags.proofs.TagTexts.{tag_parses, tag_ascii, tag_again, same_tag, tag_is, no_tag, not_parsed, spelled, misspelled}
use Rattle.delivery_tags.proofs.tag.Tag.read.Goals as goal

pub returns-in_default-clause-exact : goal.returns-in_default-clause-exact
returns-in_default-clause-exact c = λ t fits. (λ e. absurd (true≢false (sym (ap is_some e))), λ e. absurd (c.in_default.ensures.cases.0 (subst IsUtf8 (sym e) (tag_ascii t.0))))

pub returns-in_default-parse_str-clause-exact : goal.returns-in_default-parse_str-clause-exact
returns-in_default-parse_str-clause-exact c = λ t fits. (
  λ e. absurd (true≢false (sym (ap is_some e))),
  λ e. absurd (true≢false (sym (c.in_default-parse_str.ensures.ok.1 (to_be_bytes w128 t.0, ap parsed (c.in-Ok.ensures.cases.0 ∙ e) ∙ tag_parses t.0)))),
)

pub returns-then-eq-clause-exact : goal.returns-then-eq-clause-exact
returns-then-eq-clause-exact c = λ t fits.
    let same : c.args.bytes.now ≡ tag_text c.as_u128.result = (bytes_eq-Decides c.args.bytes.now c.as_slice.result.now).0 (sym c.eq.ensures ∙ c.if-eq.true) ∙ c.as_slice.ensures ∙ c.text.ensures.value in (
      λ e. same ∙ ap tag_text (tag_is c.as_u128.result t.0 e),
      λ e. same_tag _ t.0 (c.as_u128.ensures ∙ tag_again t.0 c.in-Ok-parse_str.id c.in-Ok.text.now fits (c.in-Ok.ensures.cases.0 ∙ e) c.in-Ok-parse_str.ensures.bytes),
    )

pub returns-else-eq-clause-exact : goal.returns-else-eq-clause-exact
returns-else-eq-clause-exact c = λ t fits. (
  λ e. absurd (true≢false (sym (ap is_some e))),
  λ e.
      let again : c.as_u128.result ≡ t.0 = c.as_u128.ensures ∙ tag_again t.0 c.in-Ok-parse_str.id c.in-Ok.text.now fits (c.in-Ok.ensures.cases.0 ∙ e) c.in-Ok-parse_str.ensures.bytes in
      let same : c.args.bytes.now ≡ c.as_slice.result.now = e ∙ sym (c.as_slice.ensures ∙ c.text.ensures.value ∙ ap tag_text again) in
      absurd (true≢false (sym ((bytes_eq-Decides c.args.bytes.now c.as_slice.result.now).1 same) ∙ sym c.eq.ensures ∙ c.if-eq.false)),
)

pub returns-in_default-clause-value : goal.returns-in_default-clause-value
returns-in_default-clause-value c = sym (no_tag c.args.bytes.now c.in_default.ensures.cases.0)

pub returns-in_default-parse_str-clause-value : goal.returns-in_default-parse_str-clause-value
returns-in_default-parse_str-clause-value c = sym (not_parsed c.args.bytes.now (λ u e. absurd (true≢false (sym (c.in_default-parse_str.ensures.ok.1 (u, ap parsed c.in-Ok.ensures.cases.0 ∙ e))))))

pub returns-then-eq-clause-value : goal.returns-then-eq-clause-value
returns-then-eq-clause-value c =
    let same : c.args.bytes.now ≡ tag_text c.as_u128.result = (bytes_eq-Decides c.args.bytes.now c.as_slice.result.now).0 (sym c.eq.ensures ∙ c.if-eq.true) ∙ c.as_slice.ensures ∙ c.text.ensures.value in
    sym (spelled c.args.bytes.now c.in-Ok-parse_str.id c.as_u128.result c.as_u128.ensures (c.in-Ok-parse_str.ensures.bytes ∙ ap parsed c.in-Ok.ensures.cases.0) same)

pub returns-else-eq-clause-value : goal.returns-else-eq-clause-value
returns-else-eq-clause-value c =
    let differ : bytes_eq c.args.bytes.now (tag_text c.as_u128.result) ≡ false = ap (bytes_eq c.args.bytes.now) (sym (c.as_slice.ensures ∙ c.text.ensures.value)) ∙ sym c.eq.ensures ∙ c.if-eq.false in
    sym (misspelled c.args.bytes.now c.in-Ok-parse_str.id c.as_u128.result c.as_u128.ensures (c.in-Ok-parse_str.ensures.bytes ∙ ap parsed c.in-Ok.ensures.cases.0) differ)
