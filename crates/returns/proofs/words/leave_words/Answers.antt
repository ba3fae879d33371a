use Rattle.std.proofs.Common.{arith, codes}
use Rattle.returns.proofs.Limits.{one_made}
use Rattle.returns.proofs.words.leave_words.Goals as goal

pub returns-clause-limits : goal.returns-clause-limits
returns-clause-limits c = one_made c.one_word.result (codes "UNWATCH") c.one_word.ensures (omega arith)
