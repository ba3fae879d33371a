use Rattle.block_laws.proofs.Said.{plan_said, plan_off}
use Rattle.block_laws.proofs.blocks_are_said.Goals as goal

pub returns-clause-said : goal.returns-clause-said
returns-clause-said c σ lawful s n p plan l b = let g = plan_said σ lawful s n p plan l b in (g.said, g.rest)

pub returns-clause-unlisted : goal.returns-clause-unlisted
returns-clause-unlisted c = plan_off
