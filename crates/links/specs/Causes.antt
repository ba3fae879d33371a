-- When a fault or an end may be answered: only where a count rose in that call.
use Rattle.std.specs.Io.KnownBytes.{Appends}
use Rattle.std.specs.Prelude.{IfOk, List, OnErr, OnOk, Option, Result, length, ℕ, ◌++◌, ◌<◌, ◌≡◌, ◌≤◌}
use Rattle.links.specs.Counts.{raised}

-- a count rose, or stands at the end of its type
abbrev pub Rose : ℕ → ℕ → Type 0
Rose before now = raised before ≤ now

-- a count of faults never falls, an error comes only where it rose, and an Ok leaves it
pub record HasCause {T E : Type 0} (before now : ℕ) (result : Result T E) : Type 0 where
  pub later : before ≤ now
  pub failed : OnErr result (Rose before now)
  pub kept : OnOk result (now ≡ before)

-- a count of ends never falls, rises where no byte came into a slice that isn't empty, and stands everywhere else
pub record HasEnds {E : Type 0} (before now room : ℕ) (result : Result ℕ E) : Type 0 where
  pub later : before ≤ now
  pub risen : IfOk result (λ n. n ≡ 0 → 0 < room → Rose before now)
  pub moved : IfOk result (λ n. 0 < n → now ≡ before)
  pub empty : room ≡ 0 → now ≡ before
  pub failed : OnErr result (now ≡ before)

-- a front of these bytes, and not all of them, was appended
abbrev pub AppendsFront : Option (List ℕ) → Option (List ℕ) → List ℕ → Type 0
AppendsFront old new bytes = (front : List ℕ) × (rest : List ℕ) × (bytes ≡ front ++ rest) × (0 < length rest) × Appends old new front
