-- What `tags_are_short` ensures.
use Rattle.envelope_laws.proofs.Tags.{tag_length}
use Rattle.envelope_laws.proofs.tags_are_short.Goals as goal

pub returns : goal.returns
returns c = tag_length
