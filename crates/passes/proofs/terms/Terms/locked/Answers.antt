use Rattle.std.proofs.Common.{◌∙◌, ◌++◌, ◌∷◌, [], codes, subst, sym}
use Rattle.block_laws.proofs.Values.{null_bulk_is, status_is}
use Rattle.passes.specs.Passes.{PassHad}
use Rattle.passes.proofs.Telling.{held_tells, locked_had}
use Rattle.passes.proofs.terms.Terms.locked.Goals as goal

pub returns-then-is_null_bulk-clause-tells : goal.returns-then-is_null_bulk-clause-tells
returns-then-is_null_bulk-clause-tells c calls last e had = held_tells calls last c.args.answer.now e had (null_bulk_is c.args.answer.now (sym c.is_null_bulk.ensures ∙ c.if-is_null_bulk.true))

pub returns-then-is_status-clause-tells : goal.returns-then-is_status-clause-tells
returns-then-is_status-clause-tells c calls last e had =
    subst (λ s. PassHad (calls ++ last ∷ []) s) (sym c.at.ensures) (locked_had calls last c.args.answer.now e had (status_is (codes "OK") c.args.answer.now (sym c.is_status.ensures ∙ c.if-is_status.true)))
