use Rattle.std.proofs.Common.{◌≤◌, ◌+◌, ◌/◌, ◌%◌, ◌^◌, ◌<◌, ℕ, [], ◌∷◌, length, decimal, ap, arith, length-append}
use Rattle.std.proofs.lemmas.Fmt.{decimal_digit, decimal_step, length-decimal-le}
use Rattle.wire_spelling.proofs.room.decimal_length.Goals as goal

short : (n : ℕ) → n < 2 ^ 64 → length (decimal n) ≤ 20
short n h = length-decimal-le 20 n (omega arith) (omega arith) h

pub overflow_add-digits : goal.overflow_add-digits
overflow_add-digits c = omega (arith, c.tens.invariant, short c.args.number c.ranges.number.fits)

pub tens-preserved : goal.tens-preserved
tens-preserved c =
    let n = c.tens.rest in
    let small : n < 2 ^ 64 = omega (arith, c.tens.auto.rest-fits) in
    let step = ap length (decimal_step n (omega (arith, c.tens-test.true)) small) in
    omega (arith, c.tens.invariant, step, length-append (decimal (n / 10)) ((48 + n % 10) ∷ []))

pub returns-clause-is : goal.returns-clause-is
returns-clause-is c = omega (arith, c.tens.invariant, ap length (decimal_digit c.tens.rest (omega (arith, c.tens-test.false))))

pub returns-clause-within : goal.returns-clause-within
returns-clause-within c = omega (arith, c.tens.invariant, short c.args.number c.ranges.number.fits, ap length (decimal_digit c.tens.rest (omega (arith, c.tens-test.false))))
