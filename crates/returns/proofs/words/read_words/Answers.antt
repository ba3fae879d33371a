use Rattle.std.proofs.Common.{arith, codes, subst, sym, ◌∙◌}
use Rattle.wire_grammar.specs.Fits.{IsShort}
use Rattle.returns.proofs.Limits.{tag_short, three_made}
use Rattle.returns.proofs.words.read_words.Goals as goal

pub returns-clause-limits : goal.returns-clause-limits
returns-clause-limits c =
    three_made c.three_words.result (codes "HGET") (codes "unacked") c.as_slice.result.now c.three_words.ensures (omega arith) (omega arith)
    (subst IsShort (sym (c.as_slice.ensures ∙ c.text.ensures.value)) (tag_short c.args.aim.tag.0))
