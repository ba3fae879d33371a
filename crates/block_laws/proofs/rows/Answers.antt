use Rattle.block_laws.proofs.PlanRows.{plan_row}
use Rattle.block_laws.proofs.Parts.{goes_on, put_off}
use Rattle.block_laws.proofs.rows.Goals as goal

pub returns-clause-whole : goal.returns-clause-whole
returns-clause-whole c = plan_row

pub returns-clause-listed : goal.returns-clause-listed
returns-clause-listed c = goes_on

pub returns-clause-unlisted : goal.returns-clause-unlisted
returns-clause-unlisted c = put_off
