-- How a reading to the end ends.
use Rattle.std.specs.Io.KnownBytes.{Consumes, IsAtEnd}
use Rattle.std.specs.Prelude.{List, length, ℕ, ◌+◌, ◌≡◌, ◌≤◌}
use Rattle.links.specs.Causes.{Rose}
use Rattle.links.specs.Views.{SourceView}
use Rattle.links.specs.declared.whole.ReadEnd.TheVariants.{Fault, Long, Memory}
use Rattle.links.specs.declared.whole.ReadEnd.{ReadEnd}

-- all bytes up to the end, which the source told, and no fault
pub record IsWholeInput (limit : ℕ) (before now : SourceView) (bytes : List ℕ) : Type 0 where
  pub consumed : Consumes before.left now.left bytes
  pub end : IsAtEnd now.left
  pub told : Rose before.ends now.ends
  pub later : before.ends ≤ now.ends
  pub within : length bytes ≤ limit
  pub kept : now.faults ≡ before.faults

-- some bytes were read, at most so many, and no end was told
pub record HasReadUpTo (most : ℕ) (before now : SourceView) (bytes : List ℕ) : Type 0 where
  pub consumed : Consumes before.left now.left bytes
  pub within : length bytes ≤ most
  pub unended : now.ends ≡ before.ends

-- one byte more than the limit was read, and no fault
pub record IsPast (limit : ℕ) (before now : SourceView) (bytes : List ℕ) : Type 0 where
  pub read : HasReadUpTo (limit + 1) before now bytes
  pub over : length bytes ≡ limit + 1
  pub kept : now.faults ≡ before.faults

-- a fault only where the count rose; too long exactly with one byte more than the limit; want of memory is free, and no fault
abbrev pub HasReadEnd : ℕ → SourceView → SourceView → ReadEnd → Type 0
HasReadEnd limit before now Fault = (bytes : List ℕ) × HasReadUpTo limit before now bytes × (before.faults ≤ now.faults) × Rose before.faults now.faults
HasReadEnd limit before now (Long bytes) = IsPast limit before now bytes
HasReadEnd limit before now Memory = (bytes : List ℕ) × HasReadUpTo (limit + 1) before now bytes × (now.faults ≡ before.faults)
