use Rattle.command_blocks.specs.EnvelopeTexts.{plain_setting}
use Rattle.block_laws.proofs.Traces.{trace_front}
use Rattle.block_core.proofs.laws.blocks_begin.Goals as goal

pub returns : goal.returns
returns c s n p plan calls left lawful t = trace_front plain_setting s n p plan lawful calls left t
