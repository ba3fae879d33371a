-- What commands keep of keys and of connections.
use Rattle.std.specs.Prelude.{◌≡◌, ◌⊎◌, ◌≤◌, ℕ, ◌||◌, ◌++◌, true, false, List, [], ◌∷◌, length, bytes_eq, None, if◌then◌else◌}
use Rattle.std.specs.List.{list_any}
use Rattle.std.specs.FinMap.{get, entries}
use Rattle.wire_values.specs.declared.value.Value.{Value}
use Rattle.store_model.specs.Limits.{pending_limit}
use Rattle.store_model.specs.Words.{Bytes}
use Rattle.store_model.specs.Keys.{Keys, is_expired, due_keys}
use Rattle.store_model.specs.Replies.{message}
use Rattle.store_model.specs.Commands.{Around, run}
use Rattle.store_model.specs.Connections.{Conns, no_conn, conn, hit, touch}
use Rattle.store_model.specs.Store.{State, run_all, settled}
use Rattle.store_model.specs.declared.command.Command.{Command}
use Rattle.store_model.specs.declared.connection.Conn.{Conn}

-- the key holds what it held, unless it is one of those that were altered
abbrev pub IsKept : Keys → List Bytes → Keys → Bytes → Type 0
IsKept m altered m' k = list_any (bytes_eq k) altered ≡ false → get m' k ≡ get m k

-- a key that isn't among those that a command altered holds what it held
abbrev pub KeepsOthers : Around → Keys → Command → Bytes → Type 0
KeepsOthers e m command k = IsKept m (run e m command).altered (run e m command).keys k

-- the same of the commands of a queue, run in a row
abbrev pub QueueKeepsOthers : ℕ → Keys → Conns → List Command → Bytes → Type 0
QueueKeepsOthers at m cs commands k = IsKept m (run_all at m cs commands).altered (run_all at m cs commands).keys k

-- each of these is a message on one of the channels
abbrev pub AreHeard : List Bytes → List Value → Type 0
AreHeard channels [] = Unit {0}
AreHeard channels (v ∷ vs) = ((channel : Bytes) × (text : Bytes) × (list_any (bytes_eq channel) channels ≡ true) × (v ≡ message channel text)) × AreHeard channels vs

-- a connection after these keys were altered: it is marked where it watches one of them, and messages on its channels may have come to be pending, after those that were, up to their limit in all
pub record IsTouched (altered : List Bytes) (before now : Conn) : Type 0 where
  pub queue : now.queue ≡ before.queue
  pub watched : now.watched ≡ before.watched
  pub marked : now.marked ≡ (before.marked || hit altered before.watched)
  pub channels : now.channels ≡ before.channels
  pub pending : (more : List Value) × (now.pending ≡ before.pending ++ more) × AreHeard before.channels more
  pub room : (now.pending ≡ before.pending) ⊎ (length now.pending ≤ pending_limit)

-- what a step of connection c leaves beside it: keys that aren't told of as altered, and connections that watch none of the altered ones, are as before
pub record IsElsewhere (before now : State) (c : ℕ) : Type 0 where
  pub altered : List Bytes
  pub keys : (k : Bytes) → IsKept before.keys altered now.keys k
  pub conns : (d : ℕ) → (d ≡ c → ⊥) → IsTouched altered (conn before.conns d) (conn now.conns d)

-- settling drops just what is due at this moment
abbrev pub DropsDue : State → ℕ → Bytes → Type 0
DropsDue s at k = get (settled s at).keys k ≡ (if is_expired at (get s.keys k) then None else get s.keys k)

-- settling marks just the connections that watch a key that is due
pub record MarksDue (s : State) (at : ℕ) : Type 0 where
  pub due : (k : Bytes) → list_any (bytes_eq k) (due_keys at (entries s.keys)) ≡ is_expired at (get s.keys k)
  pub conns : (c : ℕ) → conn (settled s at).conns c ≡ touch (due_keys at (entries s.keys)) (conn s.conns c)

-- a connection that is gone is as one that was never known, and all else is as before
pub record IsGone (before now : State) (c : ℕ) : Type 0 where
  pub keys : now.keys ≡ before.keys
  pub unknown : conn now.conns c ≡ no_conn
  pub others : (d : ℕ) → (d ≡ c → ⊥) → conn now.conns d ≡ conn before.conns d
