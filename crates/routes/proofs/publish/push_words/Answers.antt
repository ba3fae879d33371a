use Rattle.std.proofs.Common.{◌∙◌, ap}
use Rattle.serde_json.specs.View.{view as data_of}
use Rattle.envelope.specs.Envelopes.{priority_of}
use Rattle.queue_keys.specs.Layouts.{plain, step_of}
use Rattle.queue_keys.specs.QueueKeys.{queue_key}
use Rattle.routes.proofs.Limits.{all_within, push_within, text_short}
use Rattle.routes.proofs.publish.push_words.Goals as goal

pub returns-clause-limits : goal.returns-clause-limits
returns-clause-limits c = all_within c.three_words.result _ c.three_words.ensures (push_within _ _ c.args.queue.now (step_of plain (priority_of (data_of c.args.e.now)))
    (c.as_slice.ensures ∙ c.in_ok-key.ensures ∙ ap (queue_key plain c.args.queue.now) (c.step_of.ensures.step ∙ ap (step_of plain) c.priority.ensures))
    c.bytes-name.ensures.lawful
    (text_short (data_of c.args.e.now) _ c.text.ensures.again c.text.ensures.value))
