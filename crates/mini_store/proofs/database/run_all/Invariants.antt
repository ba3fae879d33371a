use Rattle.std.proofs.Common.{◌≡◌, ◌++◌, length}
use Rattle.store_model.specs.Store.{run_all}
use Rattle.mini_store.proofs.database.run_all.Given as goal

abbrev pub invariant-loop-command : goal.invariant-loop-command
invariant-loop-command l =
    record {
      told : l.answers ++ (run_all l.at l.keys l.conns l.commands).answers ≡ (run_all l.at l.fn.keys l.fn.conns l.fn.commands).answers;
      altered : l.altered ++ (run_all l.at l.keys l.conns l.commands).altered ≡ (run_all l.at l.fn.keys l.fn.conns l.fn.commands).altered;
      left : (run_all l.at l.keys l.conns l.commands).keys ≡ (run_all l.at l.fn.keys l.fn.conns l.fn.commands).keys;
      linked : (run_all l.at l.keys l.conns l.commands).conns ≡ (run_all l.at l.fn.keys l.fn.conns l.fn.commands).conns;
    }

abbrev pub decreases-loop-command : goal.decreases-loop-command
decreases-loop-command l = length l.commands
