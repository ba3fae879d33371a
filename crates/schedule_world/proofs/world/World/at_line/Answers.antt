use Rattle.std.proofs.Common.{refl, sym, ap, ◌∙◌, arith}
use Rattle.std.specs.FinMap.{empty}
use Rattle.schedule_model.specs.Schedules.{Went}
use Rattle.place_model.specs.Shown.{has_stopped}
use Rattle.schedule_world.proofs.Here.{same_here}
use Rattle.schedule_world.proofs.Taken.{at_led, in_time, known_same}
use Rattle.schedule_world.specs.Books.{books_of}
use Rattle.schedule_world.specs.Desks.{desk_of}
use Rattle.schedule_world.proofs.world.World.at_line.Goals as goal

pub invariant_of-self : goal.invariant_of-self
invariant_of-self c = record { known = known_same c.args.self.now.books c.args.self.now.books c.args.self.now.past.history.clients c.set_moment.new.self.history.clients refl (ap (λ d. d.clients) (c.set_moment.ensures empty)) c.args.self.now.known; here = same_here c.args.self.now.books c.args.self.now.books c.args.self.now.past.history.entries c.set_moment.new.self.history.entries refl (λ k. ap (λ d. has_stopped k d.entries) (c.set_moment.ensures empty)) c.args.self.now.here }

pub returns : goal.returns
returns c =
    at_led (desk_of c.args.self.now) c.args.moment _ (in_time c.args.moment c.args.self.now.past.moment (omega arith) (omega arith))
    ∙ ap Went (sym (c.set_moment.ensures (books_of c.args.self.now.books)))
