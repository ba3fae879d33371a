use Rattle.std.proofs.Common.{ap, ◌∙◌}
use Rattle.message_acts.specs.Numbers.{times}
use Rattle.place_index.specs.Tallies.{tally}
use Rattle.place_index.proofs.tables.MessageTallies.of.Goals as goal

pub returns : goal.returns
returns c = record {
  pushes = λ t. c.in_ok-pushes.ensures t ∙ ap (λ ns. tally (times t ns)) c.as_slice.ensures;
  ended = λ t. c.in_ok-ended.ensures t ∙ ap (λ ns. tally (times t ns)) c.as_slice-2.ensures;
  copied = λ t. c.in_ok-copied.ensures t ∙ ap (λ ns. tally (times t ns)) c.as_slice-3.ensures;
}
