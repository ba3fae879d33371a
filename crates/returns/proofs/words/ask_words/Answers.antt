use Rattle.std.proofs.Common.{ap, arith, codes, subst, sym, ◌∙◌}
use Rattle.wire_grammar.specs.Fits.{IsShort}
use Rattle.queue_keys.specs.Layouts.{plain}
use Rattle.queue_keys.specs.QueueKeys.{binding_key}
use Rattle.returns.proofs.Limits.{binding_short, two_made}
use Rattle.returns.proofs.words.ask_words.Goals as goal

pub returns-clause-limits : goal.returns-clause-limits
returns-clause-limits c =
    two_made c.two_words.result (codes "SMEMBERS") c.as_slice-2.result.now c.two_words.ensures (omega arith)
    (subst IsShort (sym (c.as_slice-2.ensures ∙ c.in_ok-key.ensures ∙ ap (binding_key plain) c.as_slice.ensures)) (binding_short c.args.carried.now.exchange c.args.carried.now.named))
