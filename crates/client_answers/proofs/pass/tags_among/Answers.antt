use Rattle.std.proofs.Common.{◌∙◌, ◌∷◌, ◌++◌, [], ap}
use Rattle.command_blocks.specs.EnvelopeTexts.{plain_setting}
use Rattle.command_blocks.specs.PassBlocks.{tags_among}
use Rattle.client_answers.proofs.Texts.{tags_more}
use Rattle.client_answers.proofs.pass.tags_among.Goals as goal

pub loop-text-preserved : goal.loop-text-preserved
loop-text-preserved c =
    tags_more c.loop-text.tags c.add_tag.new.tags (tags_among plain_setting c.args.texts.now) c.args.texts.now c.loop-text.text-index c.text-item.result c.loop-text-test.true c.text-item.is
    (c.in_ok-add_tag.ensures ∙ ap (λ m. c.loop-text.tags ++ tags_among plain_setting (m ∷ [])) c.as_slice.ensures) c.loop-text.invariant
