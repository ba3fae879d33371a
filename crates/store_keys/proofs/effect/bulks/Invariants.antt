use Rattle.std.proofs.Common.{◌≡◌, ◌++◌, length, map}
use Rattle.wire_values.specs.declared.value.Value.TheVariants.{Bulk}
use Rattle.store_keys.proofs.effect.bulks.Given as goal

abbrev pub invariant-loop-text : goal.invariant-loop-text
invariant-loop-text l = l.all ++ map Bulk l.texts ≡ map Bulk l.fn.texts

abbrev pub decreases-loop-text : goal.decreases-loop-text
decreases-loop-text l = length l.texts
