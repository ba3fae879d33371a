use Rattle.std.proofs.Common.{◌≡◌, ◌++◌, length}
use Rattle.store_model.specs.Keys.{dropped}
use Rattle.store_lists.proofs.texts.drop_all.Given as goal

abbrev pub invariant-loop-key : goal.invariant-loop-key
invariant-loop-key l =
    record {
      left : (dropped l.keys l.names).0 ≡ (dropped l.fn.keys l.fn.names).0;
      told : l.gone ++ (dropped l.keys l.names).1 ≡ (dropped l.fn.keys l.fn.names).1;
    }

abbrev pub decreases-loop-key : goal.decreases-loop-key
decreases-loop-key l = length l.names
