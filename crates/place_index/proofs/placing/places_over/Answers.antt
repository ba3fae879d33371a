use Rattle.std.proofs.Common.{◌≡◌, refl}
use Rattle.std.proofs.lemmas.Result.{IfOk-weaker}
use Rattle.place_model.specs.Accepted.{places}
use Rattle.command_blocks.specs.EnvelopeTexts.{plain_setting}
use Rattle.place_model.specs.Placed.{all_placed}
use Rattle.place_model.specs.Shown.{history_of}
use Rattle.place_index.proofs.placing.places_over.Goals as goal

pub returns : goal.returns
returns c =
    let h = history_of c.args.history.now in
    IfOk-weaker c.placed_once.result _ (λ found. all_placed found.items ≡ places plain_setting h) (λ found told. told h c.in_ok-index.ensures c.requires refl) c.placed_once.ensures
