use Rattle.std.proofs.Common.{ap, refl}
use Rattle.command_blocks.specs.EnvelopeTexts.{plain_setting}
use Rattle.command_blocks.specs.Scripts.{Pass, pass_script}
use Rattle.passes.proofs.pass.pass_core.Goals as goal

pub returns-clause-lawful : goal.returns-clause-lawful
returns-clause-lawful c s n = c.ranges.visibility.fits

pub returns-clause-traced : goal.returns-clause-traced
returns-clause-traced c s p is = c.new.ensures.traced s p (Pass c.args.visibility) (ap (λ t. pass_script plain_setting t c.args.visibility) is) refl
