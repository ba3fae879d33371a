use Rattle.std.proofs.Common.{arith}
use Rattle.task_message.proofs.ReadTexts.{not_three}
use Rattle.task_message.proofs.reading.three_of.Goals as goal

pub returns-in-empty : goal.returns-in-empty
returns-in-empty c = not_three c.args.items.now (λ e. omega arith)

pub returns-in-len4-up : goal.returns-in-len4-up
returns-in-len4-up c = not_three c.args.items.now (λ e. omega arith)
