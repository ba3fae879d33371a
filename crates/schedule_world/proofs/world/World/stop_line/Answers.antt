use Rattle.std.proofs.Common.{refl, sym, ap, ◌∙◌, false, true}
use Rattle.std.specs.Prelude.{is_some}
use Rattle.std.specs.FinMap.{remove}
use Rattle.schedule_world.proofs.Here.{book_here, gone_here, stopped_here, taken_here}
use Rattle.schedule_world.proofs.Spoken.{stopped_known, told_bad, told_room}
use Rattle.schedule_world.proofs.Taken.{known_same}
use Rattle.schedule_world.proofs.Stops.{absent_led, full_led, stop_led}
use Rattle.schedule_world.specs.Desks.{desk_of}
use Rattle.schedule_world.proofs.world.World.stop_line.Goals as goal

pub returns-in_err-present : goal.returns-in_err-present
returns-in_err-present c =
    told_bad _ (desk_of c.args.self.now) (desk_of c.args.self.now) c.from_residual.result c.in_err-present.field-0.0 c.from_residual.ensures.0 c.from_residual.ensures.1
    (absent_led (desk_of c.args.self.now) c.args.self.now.books c.args.client c.in_err-present.field-0.0 c.in_err-present.ensures) refl

pub returns-then-is_full : goal.returns-then-is_full
returns-then-is_full c =
    let k = c.in_ok-present.ensures.0 in
    told_room _ (desk_of c.args.self.now) (desk_of c.args.self.now) false c.room_or_full.result
    (full_led c.args.self.now.past c.args.self.now.books c.args.client k c.in_ok-present.ensures.1 c.in_ok-present.ensures.3 (sym c.is_full.ensures ∙ c.if-is_full.true))
    c.room_or_full.ensures

pub returns : goal.returns
returns c =
    let k = c.in_ok-present.ensures.0 in
    stop_led c.args.self.now.past c.args.self.now.books c.args.client k c.in_ok-present.ensures.1 c.in_ok-present.ensures.3 c.stop-2.new.self c.stop.new.self
    (sym c.is_full.ensures ∙ c.if-is_full.false) (c.in_ok-stop.ensures.ok k c.in_ok-present.ensures.1) c.in_ok-stop-2.ensures.desk

pub stop-requires-2-clause-known : goal.stop-requires-2-clause-known
stop-requires-2-clause-known c = c.args.self.now.known c.args.client (ap is_some c.in_ok-present.ensures.1)

pub stop-requires-2-clause-running : goal.stop-requires-2-clause-running
stop-requires-2-clause-running c =
    book_here c.args.self.now.books c.args.self.now.past.history.entries c.args.client c.in_ok-present.ensures.0 c.args.self.now.here c.in_ok-present.ensures.1 c.in_ok-present.ensures.2

pub invariant_of-self : goal.invariant_of-self
invariant_of-self c =
    let k = c.in_ok-present.ensures.0 in
    record {
      known =
          stopped_known c.args.self.now.books c.stop.new.self c.args.self.now.past.history.clients c.args.client k c.stop.result c.args.self.now.known
          (c.args.self.now.known c.args.client (ap is_some c.in_ok-present.ensures.1)) c.in_ok-present.ensures.1 c.stop.ensures.ok c.stop.ensures.err;
      here =
          stopped_here c.args.self.now.books c.stop.new.self c.args.self.now.past.history.entries c.args.client k c.stop.result c.args.self.now.here
          c.in_ok-present.ensures.1 c.in_ok-present.ensures.2 c.stop.ensures.ok c.stop.ensures.err;
    }

pub invariant_of-self-2 : goal.invariant_of-self-2
invariant_of-self-2 c =
    let k = c.in_ok-present.ensures.0 in
    let there = c.in_ok-stop.ensures.ok k c.in_ok-present.ensures.1 in
    record {
      known =
          known_same c.stop.new.self c.stop.new.self c.args.self.now.past.history.clients c.stop-2.new.self.history.clients refl c.stop-2.ensures.table
          (stopped_known c.args.self.now.books c.stop.new.self c.args.self.now.past.history.clients c.args.client k c.stop.result c.args.self.now.known
          (c.args.self.now.known c.args.client (ap is_some c.in_ok-present.ensures.1)) c.in_ok-present.ensures.1 c.stop.ensures.ok c.stop.ensures.err);
      here =
          gone_here (remove c.args.self.now.books c.args.client) c.stop.new.self c.args.self.now.past c.stop-2.new.self c.args.client (record k { is_stopped = true }) refl there c.stop-2.ensures.gone
          (taken_here c.args.self.now.books (remove c.args.self.now.books c.args.client) c.args.self.now.past.history.entries c.args.client k c.args.self.now.here c.in_ok-present.ensures.1 c.in_ok-present.ensures.2 refl);
    }
