use Rattle.std.proofs.Common.{ap, ◌∙◌}
use Rattle.delivery_tags.specs.Tags.{tag_text}
use Rattle.queue_keys.specs.Names.{same}
use Rattle.returns.proofs.read.is_of.Goals as goal

pub returns : goal.returns
returns c = c.are_same.ensures ∙ (λ i. same ((c.as_slice.ensures ∙ c.text.ensures.value ∙ ap tag_text c.tag.ensures) i) ((c.as_slice-2.ensures ∙ c.text-2.ensures.value) i))
