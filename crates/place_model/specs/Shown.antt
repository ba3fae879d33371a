-- Histories of the code as histories of the definitions. Serves the proofs of code.
use Rattle.std.specs.Prelude.{◌≡◌, ℕ, Bool, false, ◌==◌, ◌||◌, if◌then◌else◌, List, [], ◌∷◌, ◌++◌, Option, None, Some}
use Rattle.std.specs.FinMap.{empty}
use Rattle.queue_keys.specs.QueueKeys.{Among}
use Rattle.place_model.specs.Histories.{History, connections}
use Rattle.place_model.specs.declared.heard.Heard.{Heard}
use Rattle.place_model.specs.declared.history.Entry.{Entry}
use Rattle.place_model.specs.declared.history.Entry.TheVariants.{Call, Heard as Noted, Stop}
use Rattle.place_model.specs.declared.history.History as code

-- a history begins with no key, and no seed was used before
abbrev pub history_of : code.History → History Heard
history_of h = record { start = empty; used = []; clients = h.clients; entries = h.entries }

-- a history with one more client
abbrev pub and_client : History Heard → ℕ → ℕ → History Heard
and_client h c s = record h { clients = h.clients ++ (c, s) ∷ [] }

-- the seed of a connection, if it is in the table
abbrev pub seed_of : ℕ → List (ℕ × ℕ) → Option ℕ
seed_of c [] = None
seed_of c (d ∷ ds) = if d.0 == c then Some d.1 else seed_of c ds

-- whether the connection is gone
abbrev pub has_stopped : ℕ → List (Entry Heard) → Bool
has_stopped c [] = false
has_stopped c (Call d at words reply ∷ es) = has_stopped c es
has_stopped c (Noted d note ∷ es) = has_stopped c es
has_stopped c (Stop d ∷ es) = (d == c) || has_stopped c es

-- the connection is in the table, and isn't gone
abbrev pub IsRunning : History Heard → ℕ → Type 0
IsRunning h c = Among c (connections h.clients) × (has_stopped c h.entries ≡ false)
