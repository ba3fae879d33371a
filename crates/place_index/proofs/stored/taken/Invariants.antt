use Rattle.std.proofs.Common.{◌≡◌, drop}
use Rattle.store_model.specs.Store.{empty_state}
use Rattle.place_index.specs.Stored.{store_after}
use Rattle.place_index.proofs.stored.taken.Given as goal

abbrev pub invariant-loop-entry : goal.invariant-loop-entry
invariant-loop-entry l = store_after l.known l.store.state (drop l.entry-index l.entries) ≡ store_after l.known empty_state l.entries
