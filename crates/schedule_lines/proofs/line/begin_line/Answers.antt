use Rattle.schedule_lines.proofs.Sizes.{few_begin}
use Rattle.schedule_lines.proofs.line.begin_line.Goals as goal

pub returns-in-empty : goal.returns-in-empty
returns-in-empty c = few_begin (λ word. word.now) c.args.words.now c.in-empty.len_below
