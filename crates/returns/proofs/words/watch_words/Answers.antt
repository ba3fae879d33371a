use Rattle.std.proofs.Common.{arith, codes}
use Rattle.returns.proofs.Limits.{two_made}
use Rattle.returns.proofs.words.watch_words.Goals as goal

pub returns-clause-limits : goal.returns-clause-limits
returns-clause-limits c = two_made c.two_words.result (codes "WATCH") (codes "unacked") c.two_words.ensures (omega arith) (omega arith)
