use Rattle.std.proofs.Common.{false}
use Rattle.resp_wire.specs.Stands.{IsSpentDecoder}
use Rattle.sessions.proofs.Asked.{asked_last, asked_none, asked_one, asked_spent, asked_wrong}
use Rattle.local_links.specs.LocalTalks.{IsBeginning, desk_goes}
use Rattle.local_links.proofs.Placed.{placed_next, placed_none, spelled_next}
use Rattle.local_links.proofs.Went.{went_joins, went_stays}
use Rattle.local_links.proofs.asking_all.answer_next.Goals as goal

pub returns-in-Ok-clause-answers : goal.returns-in-Ok-clause-answers
returns-in-Ok-clause-answers c =
    let next = rw c.in-Ok-Some.field-0-is at c.in-Ok-Some.ensures.next in
    λ first stream sent s. asked_one desk_goes went_stays went_joins IsBeginning false c.answer_value.new.desk.standing.fault (IsSpentDecoder c.next.new.self) first c.args.desk.now c.answer_value.new.desk stream sent c.args.talking.now
    record { decoder = c.next.new.self; out = c.answer_value.new.out; commands = c.answer_value.new.commands } s c.in-Ok-Some.value next c.in-Ok.ensures.answered

pub returns-in-Err-clause-answers : goal.returns-in-Err-clause-answers
returns-in-Err-clause-answers c =
    let next = rw c.in-Ok-Some.field-0-is at c.in-Ok-Some.ensures.next in
    λ first stream sent s. asked_last desk_goes went_stays went_joins IsBeginning false c.answer_value.new.desk.standing.fault (IsSpentDecoder c.next.new.self) first c.args.desk.now c.answer_value.new.desk stream sent c.args.talking.now
    record { decoder = c.next.new.self; out = c.answer_value.new.out; commands = c.answer_value.new.commands } s c.in-Ok-Some.value c.in-Err.why next c.in-Err.ensures.answered

pub returns-in-Ok-None-clause-answers : goal.returns-in-Ok-None-clause-answers
returns-in-Ok-None-clause-answers c =
    let next = rw c.in-Ok-None.field-0-is at c.in-Ok-None.ensures.next in
    λ first stream sent s. asked_none desk_goes IsBeginning false c.args.desk.now.standing.fault (IsSpentDecoder c.next.new.self) first c.args.desk.now stream sent c.args.talking.now c.next.new.self s next

pub returns-in-Err-Bad-clause-answers : goal.returns-in-Err-Bad-clause-answers
returns-in-Err-Bad-clause-answers c =
    let next = rw c.in-Err-Bad.field-0-is at c.in-Err-Bad.ensures.next in
    rw c.in-Err-Bad.field-0-is (λ first stream sent s. asked_wrong desk_goes IsBeginning false c.args.desk.now.standing.fault (IsSpentDecoder c.next.new.self) first c.args.desk.now stream sent c.args.talking.now c.next.new.self s _ _ next)

pub returns-in-Err-Memory-clause-answers : goal.returns-in-Err-Memory-clause-answers
returns-in-Err-Memory-clause-answers c =
    let next = rw c.in-Err-Memory.field-0-is at c.in-Err-Memory.ensures.next in
    λ first stream sent s. asked_spent desk_goes IsBeginning false c.args.desk.now.standing.fault _ first c.args.desk.now stream sent c.args.talking.now c.next.new.self s c.requires.open.no_fault (next s.heard.from s.heard.rest s.stands) c.requires.some

pub answer_value-requires-clause-spelled : goal.answer_value-requires-clause-spelled
answer_value-requires-clause-spelled c =
    let next = rw c.in-Ok-Some.field-0-is at c.in-Ok-Some.ensures.next in
    spelled_next c.args.talking.now.decoder c.next.new.self c.in-Ok-Some.value c.requires.placed next

pub returns-in-Ok-clause-placed : goal.returns-in-Ok-clause-placed
returns-in-Ok-clause-placed c =
    let next = rw c.in-Ok-Some.field-0-is at c.in-Ok-Some.ensures.next in
    placed_next c.args.talking.now.decoder c.next.new.self c.in-Ok-Some.value c.requires.placed next

pub returns-in-Ok-None-clause-placed : goal.returns-in-Ok-None-clause-placed
returns-in-Ok-None-clause-placed c =
    let next = rw c.in-Ok-None.field-0-is at c.in-Ok-None.ensures.next in
    placed_none c.args.talking.now.decoder c.next.new.self c.requires.placed next
