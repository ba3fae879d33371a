use Rattle.std.proofs.Common.{◌≡◌, ◌+◌, length, sym, ap, subst, ◌∙◌, arith}
use Rattle.std.specs.Prelude.{Err}
use Rattle.wire_grammar.specs.Limits.{value_limit}
use Rattle.wire_grammar.specs.declared.kind.WireKind.{WireKind}
use Rattle.resp_wire.specs.declared.state.StepFault.TheVariants.{Bad}
use Rattle.resp_wire.specs.Moves.{Advances}
use Rattle.resp_wire.proofs.Standing.{moved_on, gave, failed, failed_long, ended}
use Rattle.resp_wire.proofs.decoder.Decoder.scan.Goals as goal

pub bytes-preserved : goal.bytes-preserved
bytes-preserved c =
    let d = c.bytes.self in
    let e = c.advance.new.self in
    let on = rw c.in-Ok-None.field-0-is at c.in-Ok-None.ensures.means in
    let stayed = c.in-Ok-None.ensures.stayed in
    record {
      fault = c.take.ensures.fault ∙ stayed.fault ∙ c.bytes.invariant.fault;
      fresh = c.take.ensures.spent ∙ stayed.spent ∙ c.bytes.invariant.fresh;
      less = omega (arith, ap length c.take.ensures.unread, ap length stayed.unread, c.take.ensures.at, stayed.at, c.bytes.invariant.less);
      kept = λ before rest s. moved_on d e c.take.new.self c.bytes.invariant.fresh c.bytes.invariant.fault stayed c.span-span.result c.span-span.ensures.span on c.take.ensures before rest (c.bytes.invariant.kept before rest s);
    }

pub bytes-smaller : goal.bytes-smaller
bytes-smaller c =
    let stayed = c.in-Ok-None.ensures.stayed in
    omega (arith, ap length c.take.ensures.unread, ap length stayed.unread, c.take.ensures.at, stayed.at, c.span-span.ensures.span.some, c.span-span.ensures.span.within)

pub returns-in-Ok-Some-clause-less : goal.returns-in-Ok-Some-clause-less
returns-in-Ok-Some-clause-less c =
    let stayed = c.in-Ok-Some.ensures.stayed in
    omega (arith, ap length c.end.ensures.unread, ap length stayed.unread, c.end.ensures.at, stayed.at, c.span-span.ensures.span.some, c.span-span.ensures.span.within, c.bytes.invariant.less)

pub returns-in-Ok-Some-clause-next : goal.returns-in-Ok-Some-clause-next
returns-in-Ok-Some-clause-next c =
    let d = c.bytes.self in
    let is = rw c.in-Ok-Some.field-0-is at c.in-Ok-Some.ensures.means in
    λ before rest s. gave d c.advance.new.self c.end.new.self c.bytes.invariant.fresh c.bytes.invariant.fault c.in-Ok-Some.ensures.stayed c.span-span.result c.in-Ok-Some.value c.span-span.ensures.span d.short is c.end.ensures before rest (c.bytes.invariant.kept before rest s)

pub returns-in-Err-Bad-clause-next : goal.returns-in-Err-Bad-clause-next
returns-in-Err-Bad-clause-next c =
    let d = c.bytes.self in
    let e = c.advance.new.self in
    let is = rw c.in-Err-Bad.field-0-is at c.in-Err-Bad.ensures.means in
    let same = rw c.in-Err-Bad.field-0-is at c.fail.ensures.kind in
    rw c.bad-in-Err-Bad.ensures (λ before rest s. failed d e c.fail.new.self c.bytes.invariant.fresh c.bytes.invariant.fault c.in-Err-Bad.ensures.stayed c.span-span.result c.fail.result c.span-span.ensures.span d.short
    (subst (λ (k : WireKind). Advances d e c.span-span.result (Err (Bad k))) (sym same) is) c.fail.ensures.kept c.fail.ensures.place c.fail.ensures.fault before rest (c.bytes.invariant.kept before rest s))

pub returns-clause-next : goal.returns-clause-next
returns-clause-next c =
    let d = c.bytes.self in
    λ before rest s. ended d c.clear.new.self c.bytes.invariant.fresh c.bytes.invariant.fault d.short (omega (arith, c.bytes-test.false)) c.clear.ensures before rest (c.bytes.invariant.kept before rest s)

pub returns-then-span-self-eq-VALUE_LIMIT-clause-next : goal.returns-then-span-self-eq-VALUE_LIMIT-clause-next
returns-then-span-self-eq-VALUE_LIMIT-clause-next c =
    let d = c.bytes.self in
    let e = c.advance.new.self in
    let on = rw c.in-Ok-None.field-0-is at c.in-Ok-None.ensures.means in
    let stayed = c.in-Ok-None.ensures.stayed in
    let full : c.span-span.result + d.held ≡ value_limit = omega (arith, c.if-span-self-eq-VALUE_LIMIT.true, stayed.held) in
    rw c.bad.ensures (λ before rest s. failed_long d e c.fail_long.new.self c.bytes.invariant.fresh c.bytes.invariant.fault stayed c.span-span.result c.fail_long.result c.span-span.ensures.span on
    c.fail_long.ensures.kept c.fail_long.ensures.kind c.fail_long.ensures.place c.fail_long.ensures.fault full before rest (c.bytes.invariant.kept before rest s))
