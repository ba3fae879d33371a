use Rattle.std.proofs.Common.{◌≡◌, ℕ, ap, ◌∙◌}
use Rattle.std.proofs.lemmas.Result.{IfOk-weaker}
use Rattle.std.specs.FinMap.{entries, get}
use Rattle.command_blocks.specs.EnvelopeTexts.{plain_setting}
use Rattle.place_index.specs.Places.{first_of}
use Rattle.place_index.specs.Standing.{standing_in}
use Rattle.place_index.proofs.standing.standing.Goals as goal

pub returns : goal.returns
returns c =
    IfOk-weaker c.first_told.result _ (λ first. (t : ℕ) → get first t ≡ first_of t (standing_in plain_setting (entries c.args.keys.now)))
    (λ first told t. told t ∙ ap (first_of t) c.in_ok-told_by.ensures)
    c.first_told.ensures
