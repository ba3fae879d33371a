use Rattle.returns.proofs.Numbers.{array_told}
use Rattle.returns.proofs.answers.are_integers.Goals as goal

pub returns-in-Some : goal.returns-in-Some
returns-in-Some c = array_told c.args.answer.now c.in-Some.values.now c.are_numbers.result c.in-Some.ensures c.are_numbers.ensures
