use Rattle.std.proofs.Common.{◌∙◌, ap, arith, subst, sym}
use Rattle.wire_grammar.specs.Fits.{IsShort}
use Rattle.queue_keys.specs.Texts.{difference}
use Rattle.passes.proofs.Limits.{difference_short, range_made}
use Rattle.passes.proofs.words.due_words.Goals as goal

pub returns-clause-limits : goal.returns-clause-limits
returns-clause-limits c =
    let few = c.args.terms.now.few in
    range_made c.range_words.result c.as_bytes.result.now c.range_words.ensures
    (subst IsShort (sym (c.as_bytes.ensures.value ∙ c.in_ok-bound.ensures ∙ ap (difference c.args.at) c.from.ensures)) (difference_short c.args.at c.args.terms.now.visibility c.ranges.at.fits (omega (arith, few))))
