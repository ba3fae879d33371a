use Rattle.std.proofs.Common.{◌≡◌, ℕ, ap, ◌∙◌, option_map}
use Rattle.std.proofs.lemmas.Result.{IfOk-weaker}
use Rattle.std.specs.FinMap.{get}
use Rattle.command_blocks.specs.EnvelopeTexts.{plain_setting}
use Rattle.place_model.specs.Histories.{table}
use Rattle.place_walk.specs.Seats.{seat_of}
use Rattle.place_walk.proofs.Starts.{seats_told}
use Rattle.place_walk.proofs.seats.seated.Goals as goal

pub returns : goal.returns
returns c =
    IfOk-weaker c.seats_of.result _ (λ seats. (q : ℕ) → get seats q ≡ option_map (seat_of plain_setting) (get (table c.args.clients.now) q))
    (λ seats is q. ap (λ m. get m q) is ∙ seats_told plain_setting c.args.clients.now q)
    c.seats_of.ensures
