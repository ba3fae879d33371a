-- When keys expire, told without a look at each of them. Serves the proofs of code.
use Rattle.std.specs.Prelude.{◌≡◌, ◌≤◌, ℕ, false, List, [], ◌∷◌, Option, None, Some}
use Rattle.std.specs.FinMap.{get}
use Rattle.store_model.specs.Words.{Bytes}
use Rattle.store_model.specs.Keys.{Keys, is_expired}
use Rattle.store_model.specs.declared.held.Held.{Held}

-- the expiry, or this moment where there is none
abbrev pub end_by : ℕ → Option ℕ → ℕ
end_by n None = n
end_by n (Some e) = e

-- the expiry of what is held, or this moment where there is none
abbrev pub end_at : ℕ → Option Held → ℕ
end_at n None = n
end_at n (Some h) = end_by n h.expiry

-- no key expires before this moment
abbrev pub EndsFrom : ℕ → Keys → Type 0
EndsFrom n m = (k : Bytes) → n ≤ end_at n (get m k)

-- none of these entries expires before this moment
abbrev pub AllEndFrom : ℕ → List (Bytes × Held) → Type 0
AllEndFrom n [] = Unit {0}
AllEndFrom n (e ∷ es) = (n ≤ end_by n e.1.expiry) × AllEndFrom n es

-- no key is due at this moment
abbrev pub IsCalm : ℕ → Keys → Type 0
IsCalm at m = (k : Bytes) → is_expired at (get m k) ≡ false
