use Rattle.std.proofs.Common.{sym}
use Rattle.std.proofs.lemmas.Result.{on_ok_weaker}
use Rattle.schedule_world.proofs.Begins.{set_so}
use Rattle.schedule_world.proofs.book.Books.begin.Goals as goal

pub set_begun-requires : goal.set_begun-requires
set_begun-requires c = c.requires c.in-Some.book (sym c.in-Some.ensures.taken)

pub returns-in-Some-clause-ok : goal.returns-in-Some-clause-ok
returns-in-Some-clause-ok c =
    on_ok_weaker c.set_begun.result
    (λ begun k p found begins. set_so c.args.self.now c.take.new.self c.set_begun.new.self c.args.client c.in-Some.book k p c.args.block c.in-Some.ensures.taken c.in-Some.ensures.removed found begins begun)
    c.set_begun.ensures.ok
