-- Revokes as a list of ids and seconds, in order of arrival.
use Rattle.std.specs.Prelude.{ℕ, ◌+◌, Bool, false, bytes_eq, nat_lt, if◌then◌else◌, List, [], ◌∷◌, ◌++◌, drop, filter, length, map, Option, Some, None}

-- how many revokes are kept at most, and for how many seconds a revoke is live
abbrev pub revoke_limit : ℕ
revoke_limit = 50000

abbrev pub revoke_seconds : ℕ
revoke_seconds = 10800

-- a revoked id, and the second at which it was revoked
abbrev pub Revoke : Type 0
Revoke = List ℕ × ℕ

-- revokes without that of an id
abbrev pub without : List ℕ → List Revoke → List Revoke
without id [] = []
without id (r ∷ rs) = if bytes_eq id r.0 then rs else r ∷ without id rs

-- revokes as they are kept: where there are more than may be, the first is gone
abbrev pub bounded : List Revoke → List Revoke
bounded rs = if nat_lt revoke_limit (length rs) then drop 1 rs else rs

-- revokes with one of an id at the end
abbrev pub with_revoke : List ℕ → ℕ → List Revoke → List Revoke
with_revoke id now rs = bounded (without id rs ++ (id, now) ∷ [])

-- the second at which an id was revoked
abbrev pub second_of : List ℕ → List Revoke → Option ℕ
second_of id [] = None
second_of id (r ∷ rs) = if bytes_eq id r.0 then Some r.1 else second_of id rs

-- whether a revoke of this second is live
abbrev pub is_live : ℕ → ℕ → Bool
is_live now second = nat_lt now (second + revoke_seconds)

-- whether there is a revoke that is live
abbrev pub is_revoked : ℕ → Option ℕ → Bool
is_revoked now None = false
is_revoked now (Some second) = is_live now second

-- the ids that are live
abbrev pub live_ids : ℕ → List Revoke → List (List ℕ)
live_ids now rs = map (λ r. r.0) (filter (λ r. is_live now r.1) rs)
