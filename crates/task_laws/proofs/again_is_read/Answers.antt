use Rattle.task_laws.proofs.AgainReads.{again_reads}
use Rattle.task_laws.proofs.again_is_read.Goals as goal

pub returns : goal.returns
returns c = again_reads
