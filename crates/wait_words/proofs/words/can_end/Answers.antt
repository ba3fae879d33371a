use Rattle.std.proofs.Common.{arith, ◌∙◌}
use Rattle.wait_words.proofs.BadWords.{ends_fourth}
use Rattle.wait_words.proofs.words.can_end.Goals as goal

pub returns-in-len4 : goal.returns-in-len4
returns-in-len4 c = c.is_needed.ensures ∙ ends_fourth (λ w. w.now) c.args.words.now _ (omega (arith, c.in-len4.len_at_least)) (omega (arith, c.in-len4.len_below))
