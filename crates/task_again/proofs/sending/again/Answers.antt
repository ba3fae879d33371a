use Rattle.std.proofs.Common.{subst}
use Rattle.serde_json.specs.View.{view as data_of}
use Rattle.task_message.specs.Again.{again_of, if_short}
use Rattle.task_message.specs.Reading.{GivesTask}
use Rattle.task_again.proofs.sending.again.Goals as goal

pub returns : goal.returns
unfolding again_of
returns c = subst (λ x. GivesTask data_of c.short_tree.result (if_short x)) c.in_ok-tree.ensures.tree c.short_tree.ensures
