-- The end of a return's core, as the grammar of blocks has it.
use Rattle.std.specs.Prelude.{◌≡◌, List}
use Rattle.queue_keys.specs.Names.{Bytes}
use Rattle.command_blocks.specs.Calls.{Call}
use Rattle.command_blocks.specs.EnvelopeTexts.{plain_setting}
use Rattle.command_blocks.specs.ReturnBlocks.{ReturnEnd, Moved, Gone, Stayed, Contended, IsReturnBlock}
use Rattle.command_blocks.specs.declared.side.Side.{Side}
use Rattle.returns.specs.Returns.{TellsReturned}
use Rattle.returns.specs.declared.returned.Returned.{Returned}
use Rattle.returns.specs.declared.returned.Returned.TheVariants as returned

-- the end that is told
abbrev pub end_told : Returned → ReturnEnd
end_told returned.Moved = Moved
end_told returned.Gone = Gone
end_told returned.Stayed = Stayed
end_told (returned.Contended tag) = Contended

-- the calls of a whole return have the end that they are told to have
abbrev pub ReturnsEndSo : Type 0
ReturnsEndSo = (side : Side) (t : Bytes) (end : ReturnEnd) (calls : List Call) (told : Returned) → IsReturnBlock plain_setting t side end calls → TellsReturned t calls told → end ≡ end_told told
