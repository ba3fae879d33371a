use Rattle.task_again.proofs.Removed.{mark_removed}
use Rattle.task_again.proofs.change.unmark.Goals as goal

pub returns-in-Some : goal.returns-in-Some
returns-in-Some c = mark_removed c.remove.new.self _ _ c.remove.ensures.entries c.in-Some.ensures.value
