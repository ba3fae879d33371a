use Rattle.std.proofs.Common.{rules, ap, ◌∙◌}
use Rattle.serde_json.specs.View.{view as data_of}
use Rattle.delivery_tags.specs.Tags.{tag_text}
use Rattle.task_message.specs.Drafted.{can_draft}
use Rattle.client_plans.proofs.Drafted.{can_publish, draft_made}
use Rattle.client_plans.proofs.task.draft_of.Goals as goal

pub draft-requires : goal.draft-requires
draft-requires c = ap can_draft c.in_ok-task.ensures ∙ can_publish c.args.tag.0 c.args.asked.now.task.now (data_of c.args.arguments) c.requires.text c.requires.named c.requires.lawful

pub returns : goal.returns
returns c =
    let a = c.args.asked.now in
    draft_made c.draft.result _ a.exchange.now a.routing_key.now _ (tag_text c.args.tag.0) a.priority a.task.now (data_of c.args.arguments) c.draft.ensures c.in_ok-task.ensures (search rules) (search rules)
