use Rattle.std.proofs.Common.{◌≡◌, drop}
use Rattle.lookups.specs.Parts.{separator_from}
use Rattle.lookups.proofs.bindings.separator.Given as goal

abbrev pub invariant-loop-place : goal.invariant-loop-place
invariant-loop-place l = separator_from l.place (drop l.place l.text) ≡ separator_from 0 l.text
