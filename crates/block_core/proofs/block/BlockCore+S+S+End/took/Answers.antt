-- After each answer the core has had one more call.
use Rattle.std.proofs.Common.{refl, sym}
use Rattle.block_core.proofs.Cores.{gone_on, listed_on}
use Rattle.block_core.proofs.block.BlockCore+S+S+End.took.Goals as goal

pub returns-in-Ok-clause-traced : goal.returns-in-Ok-clause-traced
returns-in-Ok-clause-traced g c s p plan calls words h next =
    let t = g.S.Stage in
    gone_on t.left t.had t.tells s p plan calls words c.args.at c.requires.moment c.args.reply.now.answer c.args.self.now c.go.new.self c.in-Saying.stage c.in-Ok.progress c.args.reply.now c.go.result refl (sym c.in-Saying.ensures.value) c.go.ensures
    c.in-Ok.ensures.left c.in-Ok.ensures.tells h next

pub returns-in-Ok-clause-listed : goal.returns-in-Ok-clause-listed
returns-in-Ok-clause-listed g c s n p plan calls words lawful h next =
    let t = g.S.Stage in
    listed_on t.left t.had t.tells s n p plan calls _ c.go.new.self c.in-Ok.progress c.args.reply.now c.go.result g.met.S.Stage.says c.go.ensures lawful
    (gone_on t.left t.had t.tells s p plan calls words c.args.at c.requires.moment c.args.reply.now.answer c.args.self.now c.go.new.self c.in-Saying.stage c.in-Ok.progress c.args.reply.now c.go.result refl (sym c.in-Saying.ensures.value) c.go.ensures
    c.in-Ok.ensures.left c.in-Ok.ensures.tells h next)
