use Rattle.std.proofs.Common.{◌≡◌, ◌<◌, ◌≤◌, ℕ, length}
use Rattle.std.specs.Prelude.{slice_index_or}
use Rattle.beat_times.specs.Due.{IsTicked}
use Rattle.beat_times.specs.declared.timed.Timed.{Timed}
use Rattle.beat_times.proofs.entries.tick.Given as goal

-- those before are ticked, and the others as they were
abbrev pub invariant-loop-entry : goal.invariant-loop-entry
invariant-loop-entry l = record {
  ticked : (k : ℕ) (d : Timed) → k < l.entry-index → IsTicked l.now (slice_index_or l.fn.entries k d) (slice_index_or l.entries k d);
  rest : (k : ℕ) (d : Timed) → l.entry-index ≤ k → slice_index_or l.entries k d ≡ slice_index_or l.fn.entries k d;
}
