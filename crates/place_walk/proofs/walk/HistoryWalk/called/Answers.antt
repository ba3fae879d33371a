use Rattle.std.proofs.Common.{◌++◌, ap, ◌∙◌}
use Rattle.message_acts.specs.Numbers.{listed}
use Rattle.place_walk.proofs.PutBack.{called_none, called_some, on_ok}
use Rattle.place_walk.proofs.walk.HistoryWalk.called.Goals as goal

pub returns-in-None : goal.returns-in-None
returns-in-None c = called_none c.args.self.now c.args.conn c.args.told.kind c.args.told.act c.args.answer.now c.take.new.self c.add_number.new.numbers c.in-None.ensures.before c.take.ensures.after
    (c.in_ok-add_number.ensures ∙ ap (λ o. c.args.self.now.accepted ++ listed o) c.direct_push.ensures)

pub returns-in_ok-seat-in-Some : goal.returns-in_ok-seat-in-Some
returns-in_ok-seat-in-Some c = on_ok c.put.result
    (λ put. called_some c.args.self.now c.note.new.self c.args.conn c.args.told.kind c.args.told.act c.args.answer.now c.in-Some.seat c.in_ok-seat-in-Some.seat c.take.new.self c.put.new.self
    c.add_number.new.numbers c.as_slice.result.now c.in-Some.ensures.before c.take.ensures.after c.as_slice.ensures c.in_ok-note-in-Some.ensures put c.in_ok-seat-in-Some.ensures
    (c.in_ok-add_number.ensures ∙ ap (λ o. c.args.self.now.accepted ++ listed o) c.direct_push.ensures))
    c.put.ensures
