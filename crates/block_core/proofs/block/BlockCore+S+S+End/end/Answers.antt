-- What is given as the end was the core's, whose calls are a whole block.
use Rattle.std.proofs.Common.{◌∙◌, ap, subst, sym}
use Rattle.std.specs.Prelude.{IfSome}
use Rattle.command_blocks.specs.EnvelopeTexts.{plain_setting}
use Rattle.block_laws.specs.Rows.{IsPlanBlock}
use Rattle.block_core.specs.Cores.{state_end}
use Rattle.block_core.proofs.Cores.{whole_ended}
use Rattle.block_core.proofs.block.BlockCore+S+S+End.end.Goals as goal

pub returns-in-Over-clause-whole : goal.returns-in-Over-clause-whole
returns-in-Over-clause-whole g c s n p plan calls lawful h =
    let t = g.S.Stage in
    subst (λ given. IfSome given (λ end. IsPlanBlock plain_setting s n p plan calls)) (ap state_end c.in-Over.is ∙ sym c.take.ensures.value)
    (whole_ended t.left t.had t.tells s n p plan calls c.args.self.now lawful h)
