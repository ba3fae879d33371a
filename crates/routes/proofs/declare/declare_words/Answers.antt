use Rattle.std.proofs.Common.{◌∙◌, ap}
use Rattle.queue_keys.specs.Bindings.{member}
use Rattle.queue_keys.specs.Layouts.{plain}
use Rattle.queue_keys.specs.QueueKeys.{binding_key}
use Rattle.routes.proofs.Limits.{all_within, declaration_within}
use Rattle.routes.proofs.declare.declare_words.Goals as goal

pub returns-clause-limits : goal.returns-clause-limits
returns-clause-limits c = all_within c.three_words.result _ c.three_words.ensures (declaration_within c.args.declaration.now _ _ _
    c.change_word-name.ensures
    (c.as_slice-2.ensures ∙ c.in_ok-key.ensures ∙ ap (binding_key plain) c.as_slice.ensures)
    (c.as_slice-3.ensures ∙ c.in_ok-text.ensures ∙ (λ i. member (c.as_slice-routing_key.ensures i) (c.as_slice-pattern.ensures i) (c.bytes.ensures.bytes i)))
    c.bytes.ensures.lawful)
