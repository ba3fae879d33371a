use Rattle.std.proofs.Common.{sym, ◌∙◌}
use Rattle.sessions.proofs.Contents.{on_err, some_items}
use Rattle.sessions.proofs.received.words_in.Goals as goal

pub returns-in_err-copy-clause-err : goal.returns-in_err-copy-clause-err
returns-in_err-copy-clause-err c = on_err c.from_residual.result
    (some_items c.args.values.now (sym c.is_empty.ensures ∙ c.if-is_empty.false) (sym c.are_bulks.ensures ∙ c.if-not-are_bulks.false))

pub returns-in_err-push-clause-err : goal.returns-in_err-push-clause-err
returns-in_err-push-clause-err c = on_err c.from_residual-in_err-push.result
    (some_items c.args.values.now (sym c.is_empty.ensures ∙ c.if-is_empty.false) (sym c.are_bulks.ensures ∙ c.if-not-are_bulks.false))
