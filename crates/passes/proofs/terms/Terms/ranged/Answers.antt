use Rattle.std.proofs.Common.{◌∙◌, ◌++◌, ◌∷◌, [], ap, subst, sym}
use Rattle.command_blocks.specs.EnvelopeTexts.{plain_setting}
use Rattle.command_blocks.specs.PassBlocks.{tags_among}
use Rattle.passes.specs.Told.{HasReturned}
use Rattle.passes.proofs.Telling.{none_returned}
use Rattle.passes.proofs.terms.Terms.ranged.Goals as goal

pub returns-in_ok-tags-in-Some-clause-tells : goal.returns-in_ok-tags-in-Some-clause-tells
returns-in_ok-tags-in-Some-clause-tells c calls last e had =
    c.turn.ensures.had (calls ++ last ∷ []) (subst (λ k. HasReturned c.in_ok-tags-in-Some.tags k [] (calls ++ last ∷ [])) (sym c.none.ensures)
    (none_returned c.in-Some.members c.in_ok-tags-in-Some.tags calls last c.args.answer.now e had (sym c.in-Some.is ∙ c.in_ok-members.ensures) (c.in_ok-tags-in-Some.ensures ∙ ap (tags_among plain_setting) c.as_slice.ensures)))
