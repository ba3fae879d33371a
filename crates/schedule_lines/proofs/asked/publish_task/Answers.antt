use Rattle.std.proofs.Common.{IfOk, ◌≡◌, subst}
use Rattle.schedule_lines.proofs.Sizes.{publish_whole}
use Rattle.schedule_lines.proofs.asked.publish_task.Goals as goal

pub returns-in_ok-arguments-in-len1-up : goal.returns-in_ok-arguments-in-len1-up
returns-in_ok-arguments-in-len1-up c =
    subst (λ made. IfOk c.publication.result (λ found. found ≡ made))
    (publish_whole (λ word. word.now) c.args.words.now c.args.exchange.now c.args.routing_key.now c.args.priority.now c.args.task.now c.in_ok-arguments-in-len1-up.arguments c.in-len1-up.len_at_least c.in_ok-arguments-in-len1-up.ensures)
    c.publication.ensures
