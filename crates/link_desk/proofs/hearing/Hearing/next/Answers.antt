use Rattle.std.proofs.Common.{◌++◌}
use Rattle.link_desk.proofs.Heard.{value_came, value_cut, value_wrong}
use Rattle.link_desk.proofs.Ready.{ready_next, wanting_less}
use Rattle.link_desk.proofs.hearing.Hearing.next.Goals as goal

pub invariant_of-self : goal.invariant_of-self
invariant_of-self g c = record { ready = ready_next c.pieces.self.decoder c.next.new.self c.pieces.self.ready c.next.result c.next.ensures.next c.next.ensures.spent }

pub returns-in-Ok-Some-clause-value : goal.returns-in-Ok-Some-clause-value
returns-in-Ok-Some-clause-value g c =
    let next = rw c.in-Ok-Some.field-0-is at c.in-Ok-Some.ensures.next in
    λ before rest s.
    let w = c.pieces.invariant.waited before rest s in
    let now = g.L.Link.received c.pieces.link in
    value_came before rest (g.L.Link.received c.args.link.now) now now c.pieces.self.decoder c.next.new.self c.next.new.self w c.in-Ok-Some.value (next before (rest ++ w.0) w.2)

pub returns-in-Err-clause-value : goal.returns-in-Err-clause-value
returns-in-Err-clause-value g c =
    λ before rest s.
    let w = c.pieces.invariant.waited before rest s in
    let now = g.L.Link.received c.pieces.link in
    value_wrong before rest (g.L.Link.received c.args.link.now) now now c.pieces.self.decoder c.next.new.self c.next.new.self w c.in-Err.fault c.fault_of.result (c.in-Err.ensures.next before (rest ++ w.0) w.2) c.fault_of.ensures

pub pieces-smaller : goal.pieces-smaller
pieces-smaller g c =
    let next = rw c.in-Ok-None.field-0-is at c.in-Ok-None.ensures.next in
    let spent = rw c.in-Ok-None.field-0-is at c.in-Ok-None.ensures.spent in
    wanting_less c.pieces.self.decoder c.next.new.self c.more.new.self.decoder (g.L.Link.received c.pieces.link) (g.L.Link.received c.more.new.link) c.pieces.self.ready next spent c.in-Ok.ensures.piece

pub returns-in-Err-more-clause-value : goal.returns-in-Err-more-clause-value
returns-in-Err-more-clause-value g c =
    let next = rw c.in-Ok-None.field-0-is at c.in-Ok-None.ensures.next in
    λ before rest s.
    let w = c.pieces.invariant.waited before rest s in
    let n = next before (rest ++ w.0) w.2 in
    value_cut before rest (g.L.Link.received c.args.link.now) (g.L.Link.received c.pieces.link) (g.L.Link.received c.more.new.link) c.pieces.self.decoder c.next.new.self c.more.new.self.decoder w c.in-Err-more.fault n (c.in-Err-more.ensures.piece before (rest ++ w.0) n.1)
