use Rattle.std.proofs.Common.{IsSome, subst, sym}
use Rattle.command_blocks.specs.Scripts.{next_words}
use Rattle.client_core.specs.Works.{HeardWork, work_left}
use Rattle.client_core.specs.declared.work.Work.TheVariants as work
use Rattle.client_core.proofs.Works.{aside_heard, block_heard}
use Rattle.client_core.proofs.work.Work.took.Goals as goal

pub returns-in-Block : goal.returns-in-Block
returns-in-Block c =
    subst (λ o. HeardWork o (work.Block c.hear.new.left) c.args.at c.args.reply.now c.hear.result) (sym c.in-Block.is) (block_heard c.in-Block.left c.hear.new.left c.args.at c.args.reply.now c.hear.result c.hear.ensures)

pub returns-in-Beside : goal.returns-in-Beside
returns-in-Beside c =
    subst (λ o. HeardWork o (work.Beside c.took.new.self) c.args.at c.args.reply.now c.took.result) (sym c.in-Beside.is)
    (aside_heard c.in-Beside.core c.args.at c.requires.moment (subst (λ o. IsSome (next_words (work_left o) c.args.at)) c.in-Beside.is c.requires.asked) c.args.reply.now c.took.new.self c.took.result c.took.ensures)
