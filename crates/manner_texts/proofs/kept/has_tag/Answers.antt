use Rattle.std.proofs.Common.{ap, ◌∙◌}
use Rattle.std.specs.Prelude.{bytes_eq}
use Rattle.delivery_tags.specs.Tags.{tag_text}
use Rattle.manner_texts.proofs.kept.has_tag.Goals as goal

pub returns : goal.returns
returns c = c.are_equal.ensures ∙ ap (bytes_eq c.args.tag.now) (c.as_slice.ensures ∙ c.text.ensures.value ∙ ap tag_text c.tag.ensures)
