use Rattle.std.proofs.Common.{arith, codes}
use Rattle.returns.proofs.Limits.{one_made, two_made}
use Rattle.passes.proofs.words.release_words.Goals as goal

pub returns-in-Watch-clause-limits : goal.returns-in-Watch-clause-limits
returns-in-Watch-clause-limits c = two_made c.two_words.result (codes "WATCH") (codes "unacked_mutex") c.two_words.ensures (omega arith) (omega arith)

pub returns-in-Read-clause-limits : goal.returns-in-Read-clause-limits
returns-in-Read-clause-limits c = two_made c.two_words-in-Read.result (codes "GET") (codes "unacked_mutex") c.two_words-in-Read.ensures (omega arith) (omega arith)

pub returns-in-Begin-clause-limits : goal.returns-in-Begin-clause-limits
returns-in-Begin-clause-limits c = one_made c.one_word.result (codes "MULTI") c.one_word.ensures (omega arith)

pub returns-in-Remove-clause-limits : goal.returns-in-Remove-clause-limits
returns-in-Remove-clause-limits c = two_made c.two_words-in-Remove.result (codes "DEL") (codes "unacked_mutex") c.two_words-in-Remove.ensures (omega arith) (omega arith)

pub returns-in-Run-clause-limits : goal.returns-in-Run-clause-limits
returns-in-Run-clause-limits c = one_made c.one_word-in-Run.result (codes "EXEC") c.one_word-in-Run.ensures (omega arith)

pub returns-in-Leave-clause-limits : goal.returns-in-Leave-clause-limits
returns-in-Leave-clause-limits c = one_made c.one_word-in-Leave.result (codes "UNWATCH") c.one_word-in-Leave.ensures (omega arith)
