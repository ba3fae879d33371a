use Rattle.schedule_lines.proofs.Sizes.{few_more}
use Rattle.schedule_lines.proofs.asked.publish_to.Goals as goal

pub returns-in-empty : goal.returns-in-empty
returns-in-empty c = few_more (λ word. word.now) c.args.exchange.now c.args.routing_key.now c.args.words.now c.in-empty.len_below
