use Rattle.std.proofs.Common.{ap, ◌∙◌}
use Rattle.serde_json.specs.View.{view as data_of}
use Rattle.envelope.specs.Envelopes.{json_at}
use Rattle.task_message.specs.Shown.{task_view}
use Rattle.task_again.proofs.Texts.{content_known}
use Rattle.task_again.proofs.sending.renew_body.Goals as goal

pub new_body-requires : goal.new_body-requires
new_body-requires c =
    let k = content_known (data_of c.args.e.now) (task_view c.args.t.now) c.requires in
    (k.0, ap json_at c.content.ensures.value ∙ k.1, k.2)
