use Rattle.std.proofs.Common.{◌≡◌, subst, sym, true}
use Rattle.wire_grammar.specs.Fits.{IsShort}
use Rattle.returns.specs.Keys.{are_few}
use Rattle.returns.proofs.Limits.{push_made}
use Rattle.returns.proofs.words.push_words.Goals as goal

pub returns-clause-limits : goal.returns-clause-limits
returns-clause-limits c =
    push_made c.pushed_words.result c.args.side c.as_slice.result.now c.as_slice-2.result.now c.args.count c.pushed_words.ensures
    (subst (λ ks. are_few ks ≡ true) (sym c.as_slice-2.ensures) c.args.keys.now.few) (subst IsShort (sym c.as_slice.ensures) c.args.carried.now.short)
