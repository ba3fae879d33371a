use Rattle.std.proofs.Common.{ap, arith, ◌∙◌}
use Rattle.wait_words.specs.Words.{is_address}
use Rattle.wait_words.proofs.BadWords.{stands_fifth, stands_last, stands_second, stands_third}
use Rattle.wait_words.proofs.words.can_stand.Goals as goal

pub returns-in-len4 : goal.returns-in-len4
returns-in-len4 c = c.is_other.ensures ∙ stands_fifth (λ w. w.now) c.args.before.now _ c.args.word.now (omega (arith, c.in-len4.len_at_least)) (omega (arith, c.in-len4.len_below))

pub returns-in-len1 : goal.returns-in-len1
returns-in-len1 c = c.is_address.ensures ∙ ap is_address c.as_bytes.ensures.value ∙ stands_second (λ w. w.now) c.args.before.now c.args.word.now (omega (arith, c.in-len1.len_at_least)) (omega (arith, c.in-len1.len_below))

pub returns-in-len2 : goal.returns-in-len2
returns-in-len2 c = c.is_option.ensures ∙ stands_third (λ w. w.now) c.args.before.now _ c.args.word.now (omega (arith, c.in-len2.len_at_least)) (omega (arith, c.in-len2.len_below))

pub returns-in-len6-up : goal.returns-in-len6-up
returns-in-len6-up c = stands_last (λ w. w.now) c.args.before.now c.args.word.now (omega (arith, c.in-len6-up.len_at_least))
