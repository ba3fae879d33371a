use Rattle.schedule_laws.proofs.Asks.{said_blocks}
use Rattle.schedule_laws.proofs.begun_blocks.Goals as goal

pub returns : goal.returns
returns c = said_blocks
