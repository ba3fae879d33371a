use Rattle.delivery_tags.proofs.SeedTags.{tag_is, tag_parts}
use Rattle.envelope.proofs.EnvelopeTags.{tag_text_is}
use Rattle.envelope_laws.proofs.laws.tags_tell.Goals as goal

pub returns-clause-spelled : goal.returns-clause-spelled
returns-clause-spelled c = tag_is

pub returns-clause-told : goal.returns-clause-told
returns-clause-told c = tag_parts

pub returns-clause-of_envelopes : goal.returns-clause-of_envelopes
returns-clause-of_envelopes c = tag_text_is
