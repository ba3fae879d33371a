use Rattle.std.proofs.Common.{subst, sym}
use Rattle.wire_grammar.specs.Fits.{IsWithinLimits}
use Rattle.client_core.proofs.aside.AsideCore.next.Goals as goal

pub returns-in_ok-copy_words-in-Saying-clause-limits : goal.returns-in_ok-copy_words-in-Saying-clause-limits
returns-in_ok-copy_words-in-Saying-clause-limits c = subst IsWithinLimits (sym c.in_ok-copy_words-in-Saying.ensures) c.in-Saying.command.limits
