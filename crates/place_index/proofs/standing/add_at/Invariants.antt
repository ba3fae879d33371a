use Rattle.std.proofs.Common.{◌≡◌, ◌++◌}
use Rattle.std.specs.VecDeque.Iter.{deque_iter_rest}
use Rattle.command_blocks.specs.EnvelopeTexts.{plain_setting}
use Rattle.place_index.specs.Standing.{told_at}
use Rattle.place_index.proofs.standing.add_at.Given as goal

abbrev pub invariant-loop-item : goal.invariant-loop-item
invariant-loop-item l = l.told ++ told_at plain_setting (l.queue, l.step) (deque_iter_rest l.item-iterator) ≡ l.initial.told ++ told_at plain_setting (l.queue, l.step) l.items
