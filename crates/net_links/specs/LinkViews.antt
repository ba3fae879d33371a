-- What is known of a link at one moment.
use Rattle.std.specs.Prelude.{List, Option, ℕ, suc, zero}
use Rattle.links.specs.Counts.{raised}

-- a link: the bytes that it sent and received, each where it tells, and its counts
pub record LinkView : Type 0 where
  pub sent : Option (List ℕ)
  pub received : Option (List ℕ)
  pub faults : ℕ
  pub ends : ℕ
  pub gains : ℕ

-- a link by the ghost members of its type
abbrev pub link_view : {L : Type 0} → (L → Option (List ℕ)) → (L → Option (List ℕ)) → (L → ℕ) → (L → ℕ) → (L → ℕ) → L → LinkView
link_view sent received faults ends gains l = record { sent = sent l; received = received l; faults = faults l; ends = ends l; gains = gains l }

-- a count that was raised so often
abbrev pub raised_by : ℕ → ℕ → ℕ
raised_by zero count = count
raised_by (suc n) count = raised (raised_by n count)
