use Rattle.std.proofs.Common.{◌≡◌, suc, Some, option_map, sym, ap, ◌∙◌}
use Rattle.serde_json.specs.View.{view as data_of}
use Rattle.schedule_model.specs.Drafts.{arguments_of}
use Rattle.client_plans.proofs.Drafted.{may_be}
use Rattle.client_plans.proofs.Preparing.{bad_json, bad_way, same_prepared}
use Rattle.client_plans.proofs.plan.publication.Goals as goal

pub returns-in-Some : goal.returns-in-Some
returns-in-Some c = let a = c.args in bad_way a.counts.seed (suc a.counts.drawn) a.exchange.now a.routing_key.now a.priority a.task.now a.text.now c.in-Some.reason (sym c.way_fault.ensures ∙ c.in-Some.is)

pub returns-in_default-2 : goal.returns-in_default-2
returns-in_default-2 c =
    let a = c.args in
    bad_json a.counts.seed (suc a.counts.drawn) a.exchange.now a.routing_key.now a.priority a.task.now a.text.now (sym c.way_fault.ensures ∙ c.in_default.is)
    (sym (ap (option_map data_of) c.in_default-2.is) ∙ c.in_ok-arguments.ensures ∙ ap arguments_of c.as_slice.ensures)

pub sealing-requires-clause-lawful : goal.sealing-requires-clause-lawful
sealing-requires-clause-lawful c =
    let spells : arguments_of c.args.text.now ≡ Some (data_of c.in-Some-2.arguments) = ap arguments_of (sym c.as_slice.ensures) ∙ sym c.in_ok-arguments.ensures ∙ ap (option_map data_of) c.in-Some-2.is in
    may_be c.args.text.now (data_of c.in-Some-2.arguments) spells

pub returns : goal.returns
returns c =
    let a = c.args in
    let spells : arguments_of a.text.now ≡ Some (data_of c.in-Some-2.arguments) = ap arguments_of (sym c.as_slice.ensures) ∙ sym c.in_ok-arguments.ensures ∙ ap (option_map data_of) c.in-Some-2.is in
    same_prepared a.counts c.as_slice-2.result.now a.exchange.now c.as_slice-3.result.now a.routing_key.now a.priority c.as_slice-4.result.now a.task.now a.text.now c.sealing.result
    c.as_slice-2.ensures c.as_slice-3.ensures c.as_slice-4.ensures (c.sealing.ensures a.text.now spells)
