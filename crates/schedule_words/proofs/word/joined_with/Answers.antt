use Rattle.std.proofs.Common.{arith, ◌∷◌, ◌++◌, ◌∙◌, ap}
use Rattle.std.proofs.lemmas.List.{take_all}
use Rattle.std.specs.List.{flat_map}
use Rattle.schedule_words.proofs.Joins.{joined_onto}
use Rattle.schedule_words.proofs.word.joined_with.Goals as goal

pub returns : goal.returns
returns c =
    c.loop-word.invariant
    ∙ (ap (λ words. c.args.first.now ++ flat_map (λ word. 32 ∷ word.now) words) (take_all c.loop-word.word-index c.args.rest.now (omega arith))
    ∙ joined_onto 32 (λ word. word.now) c.args.first.now c.args.rest.now)
