use Rattle.std.proofs.Common.{rules, ◌≡◌, ◌<◌, ◌^◌, suc, Some, option_map, sym, ap, ◌∙◌}
use Rattle.serde_json.specs.View.{view as data_of}
use Rattle.delivery_tags.specs.Tags.{tag_number}
use Rattle.envelope.specs.Envelopes.{parts_in}
use Rattle.client_plans.specs.Tasks.{envelope_text}
use Rattle.schedule_model.specs.Drafts.{sealed_task}
use Rattle.client_plans.proofs.Preparing.{again_is, bad_task, next_is, published}
use Rattle.client_plans.proofs.plan.sealing.Goals as goal

pub returns-in_default-2 : goal.returns-in_default-2
returns-in_default-2 c = λ j spells.
    let a = c.args.asked.now in
    let more : c.in-Some.counter ≡ suc c.args.counts.drawn = search rules in
    bad_task c.args.counts.seed (suc c.args.counts.drawn) a.exchange.now a.routing_key.now a.priority a.task.now j _ c.requires.way (sym spells)
    (ap (option_map envelope_text) (sym c.in_default-2.is) ∙ c.in_ok-envelope.ensures.text j spells ∙ ap (λ n. sealed_task c.args.counts.seed n a.exchange.now a.routing_key.now a.priority a.task.now j) more)

pub returns : goal.returns
returns c = λ j spells.
    let a = c.args.asked.now in
    let more : c.in-Some.counter ≡ suc c.args.counts.drawn = search rules in
    let sealed_so : Some (envelope_text c.in-Some-2.envelope) ≡ sealed_task c.args.counts.seed (suc c.args.counts.drawn) a.exchange.now a.routing_key.now a.priority a.task.now j =
    ap (option_map envelope_text) (sym c.in-Some-2.is) ∙ c.in_ok-envelope.ensures.text j spells ∙ ap (λ n. sealed_task c.args.counts.seed n a.exchange.now a.routing_key.now a.priority a.task.now j) more in
    let low : c.in-Some.counter < 2 ^ 64 = search rules in
    let tag : (parts_in (data_of c.in-Some-2.envelope)).tag ≡ tag_number c.args.counts.seed c.in-Some.counter = search rules in
    published c.args.counts a.exchange.now a.routing_key.now a.priority a.task.now j _ (envelope_text c.in-Some-2.envelope) c.in_ok-block.block
    c.requires.way (sym spells) sealed_so (c.in_ok-block.ensures c.args.counts (next_is c.args.counts c.in-Some.counter _ more low tag))

pub sent-requires : goal.sent-requires
sent-requires c = let a = c.args.asked.now in again_is a.exchange.now a.routing_key.now (data_of c.in-Some-2.envelope) c.requires.way (search rules)
