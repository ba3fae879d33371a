use Rattle.std.proofs.Common.{sym, subst}
use Rattle.serde_json.specs.View.{view as data_of}
use Rattle.task_message.specs.Again.{if_short}
use Rattle.task_message.specs.Reading.{Fails}
use Rattle.task_again.proofs.WholeAgain.{length_only, ok_again, refused_again}
use Rattle.task_again.proofs.sending.short_tree.Goals as goal

pub refused-requires : goal.refused-requires
refused-requires c = length_only (data_of c.args.tree) c.in-Err.fault c.requires c.in-Err.ensures

pub returns-in-Ok : goal.returns-in-Ok
returns-in-Ok c = ok_again (data_of c.args.tree) (data_of c.in-Ok.envelope) c.requires c.in-Ok.ensures

pub returns-in-Err : goal.returns-in-Err
returns-in-Err c =
    subst (λ f. Fails f (if_short (data_of c.args.tree))) (sym c.refused.ensures) (refused_again (data_of c.args.tree) c.in-Err.fault c.requires c.in-Err.ensures)
