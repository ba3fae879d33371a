-- The words are BRPOP, the keys of all the queues, and how long to wait.
use Rattle.std.proofs.Common.{◌≡◌, ◌∙◌, ◌∷◌, ◌++◌, [], sym, subst, ap, codes, Some}
use Rattle.store_model.specs.Words.{Words}
use Rattle.wire_grammar.specs.Fits.{IsWithinLimits}
use Rattle.queue_keys.specs.Layouts.{plain}
use Rattle.queue_keys.specs.QueueKeys.{pop_keys}
use Rattle.unacked.proofs.Kept.{asked_words, asks}
use Rattle.unacked.proofs.Limits.{pop_within}
use Rattle.unacked.proofs.pop.pop_words.Goals as goal

made : (c : goal.After-from_vec) → c.from_vec.result ≡ codes "BRPOP" ∷ pop_keys plain c.args.queues.now.names ++ codes "1" ∷ []
made c =
    asked_words c.args.queues.now.names c.from_vec.result c.push.new.self.items c.insert.new.self.items c.into_vec-words.result.items c.in_ok-keys.keys c.as_slice.result.now c.in_ok-from_slice.field-0 c.in_ok-from_slice-2.field-0
    c.from_vec.ensures c.in_ok-push.ensures.items c.in_ok-insert.ensures.items c.in_ok-from_slice.ensures c.in_ok-from_slice-2.ensures c.into_vec-words.ensures c.in_ok-keys.ensures c.as_slice.ensures

pub returns-clause-words : goal.returns-clause-words
returns-clause-words c at = ap (λ (w : Words). Some w) (made c) ∙ sym (asks c.args.queues.now.names at c.args.queues.now.some)

pub returns-clause-limits : goal.returns-clause-limits
returns-clause-limits c = subst IsWithinLimits (sym (made c)) (pop_within c.args.queues.now.names c.args.queues.now.lawful c.args.queues.now.few)
