use Rattle.task_message.proofs.Draftable.{draftable}
use Rattle.task_message.specs.Shown.{task_view}
use Rattle.task_message.proofs.headers.put_spellings.Goals as goal

pub put_spelling-requires : goal.put_spelling-requires
put_spelling-requires c = (draftable (task_view c.args.t.now) c.requires).args_whole

pub put_spelling-requires-2 : goal.put_spelling-requires-2
put_spelling-requires-2 c = (draftable (task_view c.args.t.now) c.requires).kwargs_whole
