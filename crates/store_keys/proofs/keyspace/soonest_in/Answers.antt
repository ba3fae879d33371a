use Rattle.std.proofs.Common.{◌≤◌, sym, subst, List, arith}
use Rattle.store_model.specs.Words.{Bytes}
use Rattle.store_keys.specs.Expiries.{AllEndFrom}
use Rattle.store_model.specs.declared.held.Held.{Held}
use Rattle.store_keys.proofs.Calm.{one_seen}
use Rattle.store_keys.proofs.keyspace.soonest_in.Goals as goal

pub loop-held-preserved : goal.loop-held-preserved
loop-held-preserved c =
    one_seen c.loop-held.soonest c.sooner-soonest.result (c.in-Some.field-0-0.now, c.in-Some.held.now) c.next.new.self c.args.kept.now.entries
    (λ n h g. let P : List (Bytes × Held) → Type 0 = λ es. AllEndFrom n es in c.loop-held.invariant n h (subst P (sym c.in-Some.ensures.steps) g))
    c.sooner-soonest.ensures.sooner c.sooner-soonest.ensures.ends

pub returns : goal.returns
returns c =
    let n = c.loop-held.soonest in
    let P : List (Bytes × Held) → Type 0 = λ es. AllEndFrom n es in
    let same : n ≤ n = omega arith in
    c.loop-held.invariant n same (subst P (sym c.in-None.ensures.steps.0) tt)
