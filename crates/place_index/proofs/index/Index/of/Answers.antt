use Rattle.std.proofs.Common.{ap, ◌∙◌}
use Rattle.std.specs.FinMap.{entries}
use Rattle.command_blocks.specs.EnvelopeTexts.{plain_setting}
use Rattle.place_index.specs.Places.{first_of}
use Rattle.place_index.specs.Standing.{standing_in}
use Rattle.place_index.proofs.index.Index.of.Goals as goal

pub returns : goal.returns
returns c = record {
  walked = c.in_ok-walked.ensures;
  standing = λ t. c.in_ok-standing.ensures t ∙ ap (λ m. first_of t (standing_in plain_setting (entries m))) c.requires;
}
