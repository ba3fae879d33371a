use Rattle.std.proofs.Common.{◌≡◌, drop}
use Rattle.numerals.specs.Integers.{digits_onto}
use Rattle.numerals.proofs.words.digits.Given as goal

abbrev pub invariant-loop-byte : goal.invariant-loop-byte
invariant-loop-byte l = digits_onto l.number (drop l.byte-index l.bytes) ≡ digits_onto 0 l.bytes
