use Rattle.std.proofs.Common.{◌≡◌, Some, option_map, sym, ap, ◌∙◌}
use Rattle.serde_json.specs.View.{view as data_of}
use Rattle.schedule_model.specs.Drafts.{arguments_of}
use Rattle.client_plans.proofs.Drafted.{may_be}
use Rattle.publish_script.specs.Readings.{reader_of}
use Rattle.publish_script.proofs.Begun.{wrong_json, wrong_way}
use Rattle.publish_script.proofs.reader.PublishReader.publication.Goals as goal

pub returns-in-Some-clause-read : goal.returns-in-Some-clause-read
returns-in-Some-clause-read c =
    let a = c.args in
    wrong_way a.self.now.seed (reader_of a.self.now) a.exchange.now a.routing_key.now a.priority a.task.now a.text.now c.in-Some.reason (sym c.way_fault.ensures ∙ c.in-Some.is)

pub returns-in_default-2-clause-read : goal.returns-in_default-2-clause-read
returns-in_default-2-clause-read c =
    let a = c.args in
    wrong_json a.self.now.seed (reader_of a.self.now) a.exchange.now a.routing_key.now a.priority a.task.now a.text.now (sym c.way_fault.ensures ∙ c.in_default.is)
    (sym (ap (option_map data_of) c.in_default-2.is) ∙ c.in_ok-arguments.ensures ∙ ap arguments_of c.as_slice.ensures)

pub sealing-requires-clause-lawful : goal.sealing-requires-clause-lawful
sealing-requires-clause-lawful c =
    let spells : arguments_of c.args.text.now ≡ Some (data_of c.in-Some-2.arguments) = ap arguments_of (sym c.as_slice.ensures) ∙ sym c.in_ok-arguments.ensures ∙ ap (option_map data_of) c.in-Some-2.is in
    may_be c.args.text.now (data_of c.in-Some-2.arguments) spells
