use Rattle.std.proofs.Common.{◌≡◌, ap, ◌∙◌}
use Rattle.std.proofs.lemmas.Result.{IfOk-weaker}
use Rattle.std.specs.FinMap.{empty}
use Rattle.place_model.specs.Accepted.{places}
use Rattle.place_model.specs.Histories.{History, after}
use Rattle.place_model.specs.declared.heard.Heard.{Heard}
use Rattle.command_blocks.specs.EnvelopeTexts.{plain_setting}
use Rattle.place_model.specs.Placed.{all_placed}
use Rattle.place_index.specs.Indexed.{IsIndexOf}
use Rattle.place_index.specs.Tallies.{first_numbers}
use Rattle.place_index.proofs.Acceptance.{places_known}
use Rattle.place_index.proofs.placing.placed_once.Goals as goal

pub returns : goal.returns
returns c =
    IfOk-weaker c.placed.result _
    (λ found. (h : History Heard) → IsIndexOf h c.args.index.now → c.args.keys.now ≡ (after h).store.keys → h.start ≡ empty → all_placed found.items ≡ places plain_setting h)
    (λ found told h i same e. told h i same e
    ∙ places_known h i.walked.0.accepted c.as_slice-2.result.now i.walked.1.numbers i.walked.1.accepted (c.as_slice-2.ensures ∙ c.in_ok-numbers.ensures ∙ ap first_numbers (c.as_slice.ensures ∙ i.walked.2.accepted)))
    c.placed.ensures
