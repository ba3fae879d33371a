use Rattle.std.proofs.Common.{◌≡◌, ap, refl, subst, true}
use Rattle.command_blocks.specs.EnvelopeTexts.{plain_setting}
use Rattle.command_blocks.specs.Scripts.{Pop, pop_script}
use Rattle.unacked.specs.Queues.{are_names}
use Rattle.unacked.proofs.Pops.{can_pop}
use Rattle.unacked.proofs.pop.pop_core.Goals as goal

pub returns-clause-lawful : goal.returns-clause-lawful
returns-clause-lawful c s n = can_pop c.args.queues (subst (λ names. are_names names ≡ true) c.new.ensures c.new.result.lawful) c.requires.some c.requires.few

pub returns-clause-traced : goal.returns-clause-traced
returns-clause-traced c s p = c.new-2.ensures.traced s p (Pop c.args.queues) (ap (pop_script plain_setting) c.new.ensures) refl
