use Rattle.task_message.proofs.Draftable.{draftable}
use Rattle.task_message.specs.Shown.{task_view}
use Rattle.task_message.proofs.members.put_settings.Goals as goal

pub moment_tree-requires : goal.moment_tree-requires
moment_tree-requires c = (draftable (task_view c.args.t.now) c.requires).eta

pub moment_tree-requires-2 : goal.moment_tree-requires-2
moment_tree-requires-2 c = (draftable (task_view c.args.t.now) c.requires).expires
