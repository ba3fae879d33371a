use Rattle.passes.proofs.Limits.{lock_made, lock_said}
use Rattle.passes.proofs.words.lock_words.Goals as goal

pub returns-clause-limits : goal.returns-clause-limits
returns-clause-limits c =
    lock_made c.with_three.result c.args.terms.now.token (lock_said c.with_three.result c.in_ok-words.words c.args.terms.now.token c.as_slice.result.now c.with_three.ensures c.in_ok-words.ensures c.as_slice.ensures) c.args.terms.now.short
