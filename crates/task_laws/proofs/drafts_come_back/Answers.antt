use Rattle.task_laws.proofs.DraftsBack.{drafts_back}
use Rattle.task_laws.proofs.drafts_come_back.Goals as goal

pub returns : goal.returns
returns c = drafts_back
