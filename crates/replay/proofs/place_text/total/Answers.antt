use Rattle.std.proofs.Common.{◌∙◌, sym}
use Rattle.replay.specs.Kinds.{is_of}
use Rattle.place_model.specs.Placed.{placed}
use Rattle.replay.proofs.Reported.{count_by-map}
use Rattle.replay.proofs.place_text.total.Goals as goal

pub returns : goal.returns
returns c = c.count.ensures ∙ sym (count_by-map (λ p. is_of c.args.kind p.1) placed c.args.places.now)
