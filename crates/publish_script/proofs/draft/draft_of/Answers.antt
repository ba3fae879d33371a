use Rattle.std.proofs.Common.{rules, ap, ◌∙◌}
use Rattle.serde_json.specs.View.{view as data_of}
use Rattle.task_message.specs.Drafted.{can_draft}
use Rattle.publish_script.specs.Readings.{times_of}
use Rattle.publish_script.proofs.Sealing.{can_publish, draft_made}
use Rattle.publish_script.proofs.draft.draft_of.Goals as goal

pub draft-requires : goal.draft-requires
draft-requires c =
    let a = c.args.asked.now in
    ap can_draft c.in_ok-task.ensures ∙ can_publish c.args.tag.0 a.task.now (data_of c.args.arguments) (times_of a) c.requires.text c.requires.named c.requires.lawful c.requires.eta c.requires.expires

pub returns : goal.returns
returns c =
    let a = c.args.asked.now in
    draft_made c.draft.result _ _ a.exchange.now a.routing_key.now _ a.priority c.draft.ensures c.in_ok-task.ensures (search rules) (search rules)
