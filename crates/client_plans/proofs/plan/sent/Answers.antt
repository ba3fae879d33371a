use Rattle.std.proofs.Common.{◌≡◌, Ok, Some, subst, sym}
use Rattle.serde_json.specs.View.{view as data_of}
use Rattle.envelope.specs.Envelopes.{parts_in}
use Rattle.envelope.specs.declared.envelope.Envelope.{Envelope}
use Rattle.steps.specs.Begins.{again_errand, publish_errand}
use Rattle.steps.specs.Clients.{next_tag_of}
use Rattle.client_plans.proofs.plan.sent.Goals as goal

pub returns : goal.returns
returns c = λ w tag. record {
  lawful = subst (λ (e : Envelope). next_tag_of w ≡ Some (parts_in (data_of e)).tag) (sym c.in_ok-new.ensures.ok) tag;
  errand_is = subst (λ (e : Envelope). again_errand (data_of e) ≡ Ok (publish_errand (data_of c.args.envelope))) (sym c.in_ok-new.ensures.ok) c.requires;
}
