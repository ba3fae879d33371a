-- When a link or a net may fail: only where a count rose in that call.
use Rattle.std.specs.Prelude.{Err, Ok, Result, ℕ, zero, suc, ◌≡◌, ◌≤◌}
use Rattle.links.specs.Causes.{Rose}
use Rattle.links.specs.Counts.{raised}
use Rattle.net_links.specs.declared.link.NetFault.TheVariants.{Failed, Memory}
use Rattle.net_links.specs.declared.link.NetFault.{NetFault}

-- a count of faults never falls; Failed comes only where it rose; an Ok and want of memory leave it
abbrev pub HasNetCause : {T : Type 0} → ℕ → ℕ → Result T NetFault → Type 0
HasNetCause before now (Ok x) = now ≡ before
HasNetCause before now (Err Failed) = (before ≤ now) × Rose before now
HasNetCause before now (Err Memory) = now ≡ before

-- a count of receives that gave bytes rises by one where one did
abbrev pub HasGained : {E : Type 0} → ℕ → ℕ → Result ℕ E → Type 0
HasGained before now (Ok zero) = now ≡ before
HasGained before now (Ok (suc n)) = now ≡ raised before
HasGained before now (Err fault) = now ≡ before

-- the count of links that were closed with a fault or an end, at a close of one with these counts: it stands where both are 0, and rises else
abbrev pub HasClosedFaults : ℕ → ℕ → ℕ → ℕ → Type 0
HasClosedFaults before now zero zero = now ≡ before
HasClosedFaults before now zero (suc ends) = Rose before now
HasClosedFaults before now (suc faults) ends = Rose before now
