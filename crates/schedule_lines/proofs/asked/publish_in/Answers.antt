use Rattle.schedule_lines.proofs.Sizes.{few_publish}
use Rattle.schedule_lines.proofs.asked.publish_in.Goals as goal

pub returns-in-empty : goal.returns-in-empty
returns-in-empty c = few_publish (λ word. word.now) c.args.words.now c.in-empty.len_below
