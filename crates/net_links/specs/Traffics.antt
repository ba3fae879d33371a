-- Links that a net hands out, and those that it closed.
use Rattle.std.specs.Prelude.{List, None, Option, Some, [], ⊤, ℕ, ◌++◌, ◌∷◌, ◌≡◌}
use Rattle.net_links.specs.LinkViews.{LinkView}

-- no bytes, where they are told
abbrev pub IsNothing : Option (List ℕ) → Type 0
IsNothing None = ⊤
IsNothing (Some bytes) = bytes ≡ []

-- a link carried nothing; a net that tells its closed links has links that tell what they carry and count what they gain
abbrev pub TellsNothingYet : Option (List LinkView) → LinkView → Type 0
TellsNothingYet None l = IsNothing l.sent × IsNothing l.received
TellsNothingYet (Some closed) l = (l.sent ≡ Some []) × (l.received ≡ Some []) × (l.gains ≡ 0)

-- a link, of a net that tells this of its closed ones, that carried nothing, never failed and never ended
pub record IsFresh (closed : Option (List LinkView)) (l : LinkView) : Type 0 where
  pub unused : TellsNothingYet closed l
  pub no_fault : l.faults ≡ 0
  pub no_end : l.ends ≡ 0

-- what was told of the closed links stays
abbrev pub KeepsClosed : Option (List LinkView) → Option (List LinkView) → Type 0
KeepsClosed None new = ⊤
KeepsClosed (Some old) None = ⊥
KeepsClosed (Some old) (Some new) = new ≡ old

-- one link more was closed, this one, where the net tells it
abbrev pub ClosesOne : Option (List LinkView) → Option (List LinkView) → LinkView → Type 0
ClosesOne None new link = ⊤
ClosesOne (Some old) None link = ⊥
ClosesOne (Some old) (Some new) link = new ≡ old ++ link ∷ []
