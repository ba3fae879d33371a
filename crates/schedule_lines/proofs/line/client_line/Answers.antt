use Rattle.std.proofs.Common.{arith}
use Rattle.schedule_lines.proofs.Sizes.{not_three}
use Rattle.schedule_lines.proofs.line.client_line.Goals as goal

pub returns-in-empty : goal.returns-in-empty
returns-in-empty c = not_three (λ word. word.now) c.args.words.now (λ e. omega arith)

pub returns-in-len4-up : goal.returns-in-len4-up
returns-in-len4-up c = not_three (λ word. word.now) c.args.words.now (λ e. omega arith)
