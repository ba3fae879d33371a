use Rattle.std.proofs.Common.{is_none, sym, ap, ◌∙◌}
use Rattle.queue_keys.specs.Names.{is_name}
use Rattle.queue_keys.proofs.NameFaults.{lawful_none, fault_told}
use Rattle.queue_keys.proofs.queue_name.QueueName.new.Goals as goal

pub returns-in-Some-clause-err : goal.returns-in-Some-clause-err
returns-in-Some-clause-err c = fault_told c.args.bytes.now c.in-Some.fault (sym c.in-Some.ensures)

pub returns-in-Some-clause-lawful : goal.returns-in-Some-clause-lawful
returns-in-Some-clause-lawful c = lawful_none c.args.bytes.now

pub returns-in_err-name-clause-lawful : goal.returns-in_err-name-clause-lawful
returns-in_err-name-clause-lawful c = lawful_none c.args.bytes.now

pub returns-clause-lawful : goal.returns-clause-lawful
returns-clause-lawful c = lawful_none c.args.bytes.now

pub invariant_of-result : goal.invariant_of-result
invariant_of-result c = ap is_name c.in_ok-name.ensures ∙ lawful_none c.args.bytes.now ∙ ap is_none (sym c.in_default.ensures)
