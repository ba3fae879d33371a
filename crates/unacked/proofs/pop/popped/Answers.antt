use Rattle.std.proofs.Common.{◌∙◌, sym, subst}
use Rattle.std.specs.Prelude.{IfOk}
use Rattle.block_laws.proofs.Values.{null_array_is, pair_is}
use Rattle.unacked.specs.Pops.{FoundTells}
use Rattle.unacked.proofs.pop.popped.Goals as goal

pub returns-then-is_null_array-clause-tells : goal.returns-then-is_null_array-clause-tells
returns-then-is_null_array-clause-tells c = null_array_is c.args.answer.now (sym c.is_null_array.ensures ∙ c.if-is_null_array.true)

pub returns-in-Some-clause-tells : goal.returns-in-Some-clause-tells
returns-in-Some-clause-tells c =
    subst (λ v. IfOk c.delivered.result (λ p. FoundTells p v)) (sym (pair_is c.args.answer.now (c.in-Some.key.now, c.in-Some.element.now) c.in-Some.ensures)) c.delivered.ensures.tells
