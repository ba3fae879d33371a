use Rattle.std.proofs.Common.{ap, sym, ◌∙◌, true}
use Rattle.std.specs.FinMap.{empty}
use Rattle.schedule_past.proofs.Rooms.{room_shrinks}
use Rattle.schedule_past.proofs.Sayings.{said_next}
use Rattle.client_core.specs.Works.{client_left}
use Rattle.schedule_past.specs.Desks.{desk_with}
use Rattle.schedule_past.proofs.past.Past.say_one.Goals as goal

pub returns-clause-said : goal.returns-clause-said
returns-clause-said c = λ bs.
    said_next (desk_with c.args.self.now bs) c.args.client (client_left c.args.core.now) c.in-Some.words (sym c.in_ok-words.ensures.words ∙ c.in-Some.is) (sym c.is_full.ensures ∙ c.if-is_full.false)
    ∙ (λ i. record { desk = sym (c.in_ok-call.ensures.desk bs) i; left = sym c.in_ok-call.ensures.left i; room = true })

pub returns-clause-fewer : goal.returns-clause-fewer
returns-clause-fewer c = λ room more. room_shrinks c.args.self.now.history.entries c.call.new.self.history.entries _ (sym c.is_full.ensures ∙ c.if-is_full.false) (ap (λ d. d.entries) (c.in_ok-call.ensures.desk empty))
