use Rattle.resp_wire.specs.Stands.{IsSpentDecoder}
use Rattle.sessions.proofs.Asked.{asked_last, asked_none, asked_one, asked_spent, asked_wrong}
use Rattle.sessions.proofs.talking.answer_next.Goals as goal

pub returns-in-Ok-clause-answers : goal.returns-in-Ok-clause-answers
returns-in-Ok-clause-answers g c =
    let next = rw c.in-Ok-Some.field-0-is at c.in-Ok-Some.ensures.next in
    λ first stream sent s. asked_one g.D.Desk.goes g.met.D.Desk.stays g.met.D.Desk.joins _ g.D.Desk.shared (g.D.Desk.fault c.answer_value.new.desk) (IsSpentDecoder c.next.new.self) first c.args.desk.now c.answer_value.new.desk stream sent c.args.talking.now
    record { decoder = c.next.new.self; out = c.answer_value.new.out; commands = c.answer_value.new.commands } s c.in-Ok-Some.value next c.in-Ok.ensures.answered

pub returns-in-Err-clause-answers : goal.returns-in-Err-clause-answers
returns-in-Err-clause-answers g c =
    let next = rw c.in-Ok-Some.field-0-is at c.in-Ok-Some.ensures.next in
    λ first stream sent s. asked_last g.D.Desk.goes g.met.D.Desk.stays g.met.D.Desk.joins _ g.D.Desk.shared (g.D.Desk.fault c.answer_value.new.desk) (IsSpentDecoder c.next.new.self) first c.args.desk.now c.answer_value.new.desk stream sent c.args.talking.now
    record { decoder = c.next.new.self; out = c.answer_value.new.out; commands = c.answer_value.new.commands } s c.in-Ok-Some.value c.in-Err.why next c.in-Err.ensures.answered

pub returns-in-Ok-None-clause-answers : goal.returns-in-Ok-None-clause-answers
returns-in-Ok-None-clause-answers g c =
    let next = rw c.in-Ok-None.field-0-is at c.in-Ok-None.ensures.next in
    λ first stream sent s. asked_none g.D.Desk.goes _ g.D.Desk.shared (g.D.Desk.fault c.args.desk.now) (IsSpentDecoder c.next.new.self) first c.args.desk.now stream sent c.args.talking.now c.next.new.self s next

pub returns-in-Err-Bad-clause-answers : goal.returns-in-Err-Bad-clause-answers
returns-in-Err-Bad-clause-answers g c =
    let next = rw c.in-Err-Bad.field-0-is at c.in-Err-Bad.ensures.next in
    rw c.in-Err-Bad.field-0-is (λ first stream sent s. asked_wrong g.D.Desk.goes _ g.D.Desk.shared (g.D.Desk.fault c.args.desk.now) (IsSpentDecoder c.next.new.self) first c.args.desk.now stream sent c.args.talking.now c.next.new.self s _ _ next)

pub returns-in-Err-Memory-clause-answers : goal.returns-in-Err-Memory-clause-answers
returns-in-Err-Memory-clause-answers g c =
    let next = rw c.in-Err-Memory.field-0-is at c.in-Err-Memory.ensures.next in
    λ first stream sent s. asked_spent g.D.Desk.goes _ g.D.Desk.shared (g.D.Desk.fault c.args.desk.now) _ first c.args.desk.now stream sent c.args.talking.now c.next.new.self s c.requires.open.no_fault (next s.heard.from s.heard.rest s.stands) c.requires.some
