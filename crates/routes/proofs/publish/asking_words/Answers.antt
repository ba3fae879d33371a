use Rattle.std.proofs.Common.{◌∙◌, ap}
use Rattle.serde_json.specs.View.{view as data_of}
use Rattle.queue_keys.specs.Layouts.{plain}
use Rattle.queue_keys.specs.QueueKeys.{binding_key}
use Rattle.routes.proofs.Limits.{all_within, asking_within}
use Rattle.routes.proofs.publish.asking_words.Goals as goal

pub returns-clause-limits : goal.returns-clause-limits
returns-clause-limits c = all_within c.two_words.result _ c.two_words.ensures (asking_within (data_of c.args.e.now) _ c.tree-tree.ensures.said
    (c.as_slice.ensures ∙ c.in_ok-key.ensures ∙ ap (binding_key plain) c.exchange.ensures.value))
