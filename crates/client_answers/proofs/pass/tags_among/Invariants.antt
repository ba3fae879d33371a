use Rattle.std.proofs.Common.{◌≡◌, ◌++◌, drop}
use Rattle.command_blocks.specs.EnvelopeTexts.{plain_setting}
use Rattle.command_blocks.specs.PassBlocks.{tags_among}
use Rattle.client_answers.proofs.pass.tags_among.Given as goal

-- the tags so far, before those that are to be found
abbrev pub invariant-loop-text : goal.invariant-loop-text
invariant-loop-text l = l.tags ++ tags_among plain_setting (drop l.text-index l.texts) ≡ tags_among plain_setting l.texts
