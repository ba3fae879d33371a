-- Indices of due entries are below their number. Serves the proofs of code.
use Rattle.std.proofs.Common.{◌+◌, ◌≤◌, ℕ, List, [], ◌∷◌, length, subst, sym, arith, inl, inr}
use Rattle.beat_times.specs.Due.{AreDue}
use Rattle.beat_times.specs.declared.timed.Timed.{Timed}
use Rattle.beat_files.specs.Readings.{AreBelow}

pub due_below : (now n count : ℕ) (ts : List Timed) (found : List ℕ) → n + length ts ≤ count → AreDue now n ts found → AreBelow count found
due_below now n count [] found h d = subst (AreBelow count) (sym d) tt
due_below now n count (t ∷ ts) found h (inl d) =
    subst (AreBelow count) (sym d.2) (omega arith, due_below now (n + 1) count ts d.1 (omega arith) d.3)
due_below now n count (t ∷ ts) found h (inr d) = due_below now (n + 1) count ts found (omega arith) d.1
