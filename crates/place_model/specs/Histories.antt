-- Histories: what a store's clients called, noted and left, and the world after it.
use Rattle.std.specs.Prelude.{◌≡◌, ℕ, Bool, true, false, List, [], ◌∷◌, ◌++◌, Option, None, Some, ◌==◌, if◌then◌else◌}
use Rattle.std.specs.Ordering.{nat_cmp}
use Rattle.std.specs.FinMap.{FinMap, get, insert, empty}
use Rattle.store_model.specs.Keys.{Keys}
use Rattle.store_model.specs.Store.{State, apply_of, gone_of}
use Rattle.queue_keys.specs.QueueKeys.{IsAway, Differ}
use Rattle.command_blocks.specs.Calls.{Call, call}
use Rattle.place_model.specs.declared.history.Entry.{Entry}
use Rattle.place_model.specs.declared.history.Entry.TheVariants.{Call as Called, Heard, Stop}

-- a history: the keys that it begins with and the seeds that were used before, its clients' connections with their seeds, and its entries, whose notes are of type N
pub record History (N : Type 0) : Type 0 where
  pub start : Keys
  pub used : List ℕ
  pub clients : List (ℕ × ℕ)
  pub entries : List (Entry N)

-- ---- a client's part

-- the connection of an entry
abbrev pub conn_of : {N : Type 0} → Entry N → ℕ
conn_of (Called c at words reply) = c
conn_of (Heard c note) = c
conn_of (Stop c) = c

-- the entries of a connection, in order
abbrev pub own_entries : {N : Type 0} → ℕ → List (Entry N) → List (Entry N)
own_entries c [] = []
own_entries c (e ∷ es) = if conn_of e == c then e ∷ own_entries c es else own_entries c es

-- the calls among entries, with what follows
abbrev pub onto_calls : {N : Type 0} → Entry N → List Call → List Call
onto_calls (Called c at words reply) later = call at words reply.answer ∷ later
onto_calls (Heard c note) later = later
onto_calls (Stop c) later = later

-- the calls among entries, in order
abbrev pub calls_among : {N : Type 0} → List (Entry N) → List Call
calls_among [] = []
calls_among (e ∷ es) = onto_calls e (calls_among es)

-- the calls of a connection, in order
abbrev pub calls_of : {N : Type 0} → ℕ → List (Entry N) → List Call
calls_of c es = calls_among (own_entries c es)

-- ---- the world

-- a client: its seed, its calls so far, and whether it is stopped
pub record Client : Type 0 where
  pub seed : ℕ
  pub calls : List Call
  pub stopped : Bool

-- the store, and the clients by their connections
pub record SystemState : Type 0 where
  pub store : State
  pub clients : FinMap nat_cmp Client

-- the world with this state and this client
abbrev pub with_client : State → SystemState → ℕ → Client → SystemState
with_client s w c cl = record { store = s; clients = insert w.clients c cl }

-- the world after an entry, by what is known of its client: a call is taken by the store, and a stop leaves nothing of the connection there
abbrev pub next_of : {N : Type 0} → SystemState → Entry N → Option Client → SystemState
next_of w e None = w
next_of w (Called c at words reply) (Some cl) = with_client (apply_of w.store at c words).0 w c (record cl { calls = cl.calls ++ call at words reply.answer ∷ [] })
next_of w (Heard c note) (Some cl) = w
next_of w (Stop c) (Some cl) = with_client (gone_of w.store c) w c (record cl { stopped = true })

-- the world after an entry
unfoldable pub next : {N : Type 0} → SystemState → Entry N → SystemState
next w e = next_of w e (get w.clients (conn_of e))

-- the world after entries in a row
abbrev pub after_entries : {N : Type 0} → SystemState → List (Entry N) → SystemState
after_entries w [] = w
after_entries w (e ∷ es) = after_entries (next w e) es

-- a client that has called nothing yet
abbrev pub new_client : ℕ → Client
new_client s = record { seed = s; calls = []; stopped = false }

-- the clients of a table of connections with their seeds
abbrev pub table : List (ℕ × ℕ) → FinMap nat_cmp Client
table [] = empty
table (c ∷ cs) = insert (table cs) c.0 (new_client c.1)

-- the world that begins with these keys and these clients, of which the store knows no connection
abbrev pub start_from : Keys → List (ℕ × ℕ) → SystemState
start_from m cs = record { store = record { keys = m; conns = empty }; clients = table cs }

-- the world after a history
abbrev pub after : {N : Type 0} → History N → SystemState
after h = after_entries (start_from h.start h.clients) h.entries

-- ---- legal

-- the reply is the one that the store gives
abbrev pub AnswersRight : {N : Type 0} → SystemState → Entry N → Type 0
AnswersRight w (Called c at words reply) = reply ≡ (apply_of w.store at c words).1
AnswersRight w (Heard c note) = Unit {0}
AnswersRight w (Stop c) = Unit {0}

-- the entry may come next: its client is known and not stopped, and its reply is the store's
abbrev pub MayCome : {N : Type 0} → SystemState → Entry N → Type 0
MayCome w e = (cl : Client) × (get w.clients (conn_of e) ≡ Some cl) × (cl.stopped ≡ false) × AnswersRight w e

-- each of the entries may come in its turn
abbrev pub AllMayCome : {N : Type 0} → SystemState → List (Entry N) → Type 0
AllMayCome w [] = Unit {0}
AllMayCome w (e ∷ es) = MayCome w e × AllMayCome (next w e) es

-- each reply of the history is the store's
abbrev pub IsLegal : {N : Type 0} → History N → Type 0
IsLegal h = AllMayCome (start_from h.start h.clients) h.entries

-- ---- tables and prefixes

-- the connections of a table
abbrev pub connections : List (ℕ × ℕ) → List ℕ
connections [] = []
connections (c ∷ cs) = c.0 ∷ connections cs

-- the seeds of a table
abbrev pub seeds : List (ℕ × ℕ) → List ℕ
seeds [] = []
seeds (c ∷ cs) = c.1 ∷ seeds cs

-- no seed of a list is used
abbrev pub AreUnused : List ℕ → List ℕ → Type 0
AreUnused used [] = Unit {0}
AreUnused used (s ∷ ss) = IsAway s used × AreUnused used ss

-- no connection and no seed stands twice in the table, and no seed of it was used before
pub record IsTable (clients : List (ℕ × ℕ)) (used : List ℕ) : Type 0 where
  pub connections_differ : Differ (connections clients)
  pub seeds_differ : Differ (seeds clients)
  pub unused : AreUnused used (seeds clients)

-- the history with further entries
abbrev pub and_then : {N : Type 0} → History N → List (Entry N) → History N
and_then h es = record h { entries = h.entries ++ es }

-- the first history is a prefix of the second: it has the same start and table
abbrev pub IsHistoryPrefix : {N : Type 0} → History N → History N → Type 0
IsHistoryPrefix {N} p h = (rest : List (Entry N)) × (and_then p rest ≡ h)
