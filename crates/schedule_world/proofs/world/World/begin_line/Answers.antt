use Rattle.std.proofs.Common.{ap, refl, subst}
use Rattle.std.proofs.lemmas.Result.{on_ok_weaker}
use Rattle.command_blocks.specs.Scripts.{Plan}
use Rattle.client_plans.specs.Plans.{Begins}
use Rattle.std.specs.Prelude.{is_some}
use Rattle.schedule_world.proofs.Begins.{asked_went, may_begin, resting_bad, unprepared}
use Rattle.schedule_world.proofs.Here.{begun_here}
use Rattle.schedule_world.proofs.Spoken.{begun_known, told_bad}
use Rattle.schedule_world.specs.Desks.{desk_of}
use Rattle.schedule_world.specs.declared.book.ClientBook.{ClientBook}
use Rattle.schedule_world.proofs.world.World.begin_line.Goals as goal

pub returns-in_err-counts : goal.returns-in_err-counts
returns-in_err-counts c =
    told_bad _ (desk_of c.args.self.now) (desk_of c.args.self.now) c.from_residual.result c.in_err-counts.field-0.0 c.from_residual.ensures.0 c.from_residual.ensures.1
    (resting_bad (desk_of c.args.self.now) c.args.self.now.books c.args.client c.args.asked.now c.in_err-counts.field-0.0 c.in_err-counts.ensures) refl

pub returns-in_err-block : goal.returns-in_err-block
returns-in_err-block c =
    let k : ClientBook = c.in_ok-counts.ensures.0 in
    let e = c.in_ok-counts.ensures in
    unprepared c.args.self.now.past c.args.self.now.books c.args.self.now.books c.args.client k c.in_ok-counts.counts c.args.asked.now e.1 e.2 e.3 e.4 e.5
    c.in_err-block.field-0.0 c.from_residual-in_err-block.result c.from_residual-in_err-block.ensures.0 c.from_residual-in_err-block.ensures.1 c.in_err-block.ensures

pub begin-requires : goal.begin-requires
begin-requires c =
    let k : ClientBook = c.in_ok-counts.ensures.0 in
    let e = c.in_ok-counts.ensures in
    may_begin c.args.self.now.past c.args.self.now.books c.args.self.now.books c.args.client k c.in_ok-counts.counts c.args.asked.now e.1 e.2 e.3 e.4 e.5
    c.in_ok-block.block c.in_ok-block.ensures.1.0 c.in_ok-block.ensures.1.2

pub invariant_of-self-2 : goal.invariant_of-self-2
invariant_of-self-2 c =
    let k : ClientBook = c.in_ok-counts.ensures.0 in
    let e = c.in_ok-counts.ensures in
    let p : Plan = c.in_ok-block.ensures.1.0 in
    let began = on_ok_weaker c.begin.result (λ f. f k p e.1 (subst (λ v. Begins v p c.in_ok-block.block) e.2 c.in_ok-block.ensures.1.2)) c.begin.ensures.ok in
    record {
      known =
          begun_known c.args.self.now.books c.begin.new.self c.args.self.now.past.history.clients c.args.client k p c.begin.result c.args.self.now.known
          (c.args.self.now.known c.args.client (ap is_some e.1)) began c.begin.ensures.err;
      here =
          begun_here c.args.self.now.books c.begin.new.self c.args.self.now.past.history.entries c.args.client k p c.begin.result c.args.self.now.here
          e.1 e.3 began c.begin.ensures.err;
    }

pub returns : goal.returns
returns c =
    let k : ClientBook = c.in_ok-counts.ensures.0 in
    let e = c.in_ok-counts.ensures in
    asked_went c.args.self.now.past c.args.self.now.books c.begin.new.self c.args.client k c.in_ok-counts.counts c.args.asked.now e.1 e.2 e.3 e.4 e.5
    c.in_ok-block.block c.in_ok-block.ensures.1.0 c.in_ok-block.ensures.0 c.in_ok-block.ensures.1.1 c.in_ok-block.ensures.1.2 c.in_ok-begin.ensures.ok
