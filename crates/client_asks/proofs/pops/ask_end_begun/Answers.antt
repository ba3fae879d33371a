use Rattle.std.proofs.Common.{Some, ap, refl, sym, ◌∙◌}
use Rattle.manner_laws.specs.Cursor.{third}
use Rattle.manner_laws.specs.Spots.{End_removed, Queueing}
use Rattle.client_asks.proofs.pops.ask_end_begun.Goals as goal

pub returns : goal.returns
returns c = λ at.
    let s = c.args.spot.now in
    (c.in-Some.ensures.0 (Queueing (End_removed s.drawn s.passes (third c.args.words.now))) ∙ ap (λ t. Some (Queueing (End_removed s.drawn s.passes t))) (sym (c.in_ok-spot.ensures ∙ c.in-Some.ensures.1)), refl)
