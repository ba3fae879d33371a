use Rattle.std.proofs.Common.{sym, subst, ◌∙◌}
use Rattle.block_laws.proofs.Values.{null_array_is}
use Rattle.returns.specs.Returns.{AnswerTells}
use Rattle.returns.proofs.Told.{integers_of}
use Rattle.returns.proofs.spot.Aim.ran.Goals as goal

pub returns-then-is_null_array-clause-tells : goal.returns-then-is_null_array-clause-tells
returns-then-is_null_array-clause-tells c = subst (λ v. AnswerTells c.args.self v c.failed.result) (sym (null_array_is c.args.answer.now (sym c.is_null_array.ensures ∙ c.if-is_null_array.true))) c.failed.ensures.tells

pub returns-then-are_integers-clause-tells : goal.returns-then-are_integers-clause-tells
returns-then-are_integers-clause-tells c = integers_of c.args.answer.now c.are_integers.result c.are_integers.ensures c.if-are_integers.true
