use Rattle.std.proofs.Common.{ap}
use Rattle.std.specs.Prelude.{is_some}
use Rattle.delivery_tags.specs.Tags.{tag_text}
use Rattle.delivery_tags.proofs.TagTexts.{tag_of_text-tag_text}
use Rattle.command_blocks.specs.Scripts.{Over, Return}
use Rattle.returns.proofs.trying.return_of.Goals as goal

pub returns-clause-lawful : goal.returns-clause-lawful
returns-clause-lawful c s n = ap is_some (tag_of_text-tag_text c.args.number c.ranges.number.fits)

pub returns-clause-traced : goal.returns-clause-traced
returns-clause-traced c s p = c.new-2.ensures.traced s p (Return c.args.side (tag_text c.args.number)) (c.new.ensures.left Over Over) c.new.ensures.had
