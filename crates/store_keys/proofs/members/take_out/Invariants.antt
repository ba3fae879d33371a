use Rattle.std.proofs.Common.{◌≡◌, ◌+◌, ◌^◌, ◌<◌, length}
use Rattle.store_model.specs.Keys.{taken_out}
use Rattle.store_keys.proofs.members.take_out.Given as goal

abbrev pub invariant-loop-name : goal.invariant-loop-name
invariant-loop-name g l =
    record {
      left : (taken_out l.table l.names).0 ≡ (taken_out l.fn.table l.fn.names).0;
      told : l.count + (taken_out l.table l.names).1 ≡ (taken_out l.fn.table l.fn.names).1;
      room : l.count + length l.names < 2 ^ 64;
    }

abbrev pub decreases-loop-name : goal.decreases-loop-name
decreases-loop-name g l = length l.names
