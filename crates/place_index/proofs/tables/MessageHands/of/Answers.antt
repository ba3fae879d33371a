use Rattle.std.proofs.Common.{ap, ◌∙◌}
use Rattle.place_index.specs.Places.{first_of}
use Rattle.place_index.proofs.tables.MessageHands.of.Goals as goal

pub returns : goal.returns
returns c = record {
  there = λ t. c.in_ok-there.ensures t ∙ ap (first_of t) c.in_ok-hands.ensures;
  gone = λ t. c.in_ok-gone.ensures t ∙ ap (first_of t) c.in_ok-hands-2.ensures;
}
