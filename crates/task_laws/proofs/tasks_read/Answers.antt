use Rattle.task_laws.proofs.TasksRead.{task_from, task_to}
use Rattle.task_laws.proofs.tasks_read.Goals as goal

pub returns : goal.returns
returns c = λ d t. (task_from d t, task_to d t)
