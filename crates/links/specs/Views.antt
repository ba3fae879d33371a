-- What is known of a source and of a sink at one moment.
use Rattle.std.specs.Prelude.{List, Option, ℕ}

-- a source: the bytes that are left, where it tells, and its counts
pub record SourceView : Type 0 where
  pub left : Option (List ℕ)
  pub faults : ℕ
  pub ends : ℕ

-- a sink: the bytes that it took, where it tells, and its count
pub record SinkView : Type 0 where
  pub taken : Option (List ℕ)
  pub faults : ℕ

-- a source by the ghost members of its type
abbrev pub source_view : {S : Type 0} → (S → Option (List ℕ)) → (S → ℕ) → (S → ℕ) → S → SourceView
source_view left faults ends s = record { left = left s; faults = faults s; ends = ends s }

-- a sink by the ghost members of its type
abbrev pub sink_view : {K : Type 0} → (K → Option (List ℕ)) → (K → ℕ) → K → SinkView
sink_view taken faults k = record { taken = taken k; faults = faults k }
