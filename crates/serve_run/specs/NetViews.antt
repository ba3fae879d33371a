-- What is known of a net at one moment.
use Rattle.std.specs.Prelude.{List, Option, ℕ}
use Rattle.net_links.specs.LinkViews.{LinkView}

-- a net: what the links told that it closed, in their order, where it tells it, and its count of faults
pub record NetView : Type 0 where
  pub closed : Option (List LinkView)
  pub faults : ℕ

-- a net by the ghost members of its type
abbrev pub net_view : {N : Type 0} → (N → Option (List LinkView)) → (N → ℕ) → N → NetView
net_view closed faults n = record { closed = closed n; faults = faults n }
