use Rattle.std.proofs.Common.{arith, codes, subst, sym, ◌∙◌}
use Rattle.wire_grammar.specs.Fits.{IsShort}
use Rattle.returns.proofs.Limits.{one_made, tag_short, three_made}
use Rattle.returns.proofs.words.take_words.Goals as goal

pub returns-in-Begin-clause-limits : goal.returns-in-Begin-clause-limits
returns-in-Begin-clause-limits c = one_made c.one_word.result (codes "MULTI") c.one_word.ensures (omega arith)

pub returns-in-Index-clause-limits : goal.returns-in-Index-clause-limits
returns-in-Index-clause-limits c =
    three_made c.three_words.result (codes "ZREM") (codes "unacked_index") c.as_slice.result.now c.three_words.ensures (omega arith) (omega arith)
    (subst IsShort (sym (c.as_slice.ensures ∙ c.text.ensures.value)) (tag_short c.args.aim.tag.0))

pub returns-in-Table-clause-limits : goal.returns-in-Table-clause-limits
returns-in-Table-clause-limits c =
    three_made c.three_words-in-Table.result (codes "HDEL") (codes "unacked") c.as_slice-in-Table.result.now c.three_words-in-Table.ensures (omega arith) (omega arith)
    (subst IsShort (sym (c.as_slice-in-Table.ensures ∙ c.text-in-Table.ensures.value)) (tag_short c.args.aim.tag.0))
