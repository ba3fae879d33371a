use Rattle.std.proofs.Common.{◌≡◌, ◌<◌, ◌^◌, length, sym, ap, ◌∙◌, arith}
use Rattle.uuid.specs.Text.{hyphenated_text, lower}
use Rattle.uuid.proofs.TextLemmas.{by_index_length}
use Rattle.delivery_tags.specs.Tags.{tag_text, tag_of_text}
use Rattle.delivery_tags.proofs.TagTexts.{tag_of_text-tag_text}
use Rattle.delivery_tags.proofs.tag.text_of_number.Goals as goal

pub copy_from_slice-requires : goal.copy_from_slice-requires
copy_from_slice-requires c =
    sym (ap length (c.as_bytes.ensures.value ∙ c.encode_lower-text.ensures.text) ∙ by_index_length 36 _)

pub returns-clause-value : goal.returns-clause-value
returns-clause-value c =
    c.copy_from_slice.ensures.after ∙ c.as_bytes.ensures.value ∙ c.encode_lower-text.ensures.text
    ∙ ap (hyphenated_text lower) (c.hyphenated.ensures ∙ c.from_u128.ensures)

pub returns-clause-read : goal.returns-clause-read
returns-clause-read c =
    let text : c.copy_from_slice.new.self ≡ tag_text c.args.number = c.copy_from_slice.ensures.after ∙ c.as_bytes.ensures.value ∙ c.encode_lower-text.ensures.text
    ∙ ap (hyphenated_text lower) (c.hyphenated.ensures ∙ c.from_u128.ensures) in
    let fits : c.args.number < 2 ^ 128 = omega arith in
    ap tag_of_text text ∙ tag_of_text-tag_text c.args.number fits
