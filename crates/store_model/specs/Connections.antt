-- What the store knows of connections: watched keys and their marks, channels and pending messages.
use Rattle.std.specs.Prelude.{ℕ, true, Bool, false, not, ◌||◌, ◌&&◌, List, [], ◌∷◌, ◌++◌, map, filter, count_by, length, nat_lt, bytes_eq, Option, None, Some, if◌then◌else◌}
use Rattle.std.specs.List.{list_any}
use Rattle.std.specs.Ordering.{nat_cmp}
use Rattle.std.specs.FinMap.{FinMap, get, entries, from_entries}
use Rattle.store_model.specs.Words.{Bytes}
use Rattle.store_model.specs.Limits.{pending_limit}
use Rattle.store_model.specs.Replies.{message}
use Rattle.store_model.specs.Keys.{Keys, is_expired}
use Rattle.store_model.specs.Commands.{Around}
use Rattle.store_model.specs.declared.command.Command.{Command}
use Rattle.store_model.specs.declared.command.Command.TheVariants.{Publish}
use Rattle.store_model.specs.declared.connection.Queue.{Queue}
use Rattle.store_model.specs.declared.connection.Conn.{Conn}

-- the connections by their numbers
abbrev pub Conns : Type 0
Conns = FinMap nat_cmp Conn

-- a connection that is not known has nothing queued, watched or pending
abbrev pub no_conn : Conn
no_conn = record { queue = None; watched = []; marked = false; channels = []; pending = [] }

-- the connection, or one that is not known
abbrev pub or_no_conn : Option Conn → Conn
or_no_conn None = no_conn
or_no_conn (Some c) = c

-- what the store knows of a connection
abbrev pub conn : Conns → ℕ → Conn
conn m c = or_no_conn (get m c)

-- the key is among the watched ones
abbrev pub watches : Bytes → List Bytes → Bool
watches k ws = list_any (bytes_eq k) ws

-- one of the altered keys is watched
abbrev pub hit : List Bytes → List Bytes → Bool
hit ks ws = list_any (λ k. watches k ws) ks

-- the connection after these keys were altered
abbrev pub touch : List Bytes → Conn → Conn
touch ks c = record c { marked = c.marked || hit ks c.watched }

-- each connection that watches one of these keys is marked
unfoldable pub touched : List Bytes → Conns → Conns
touched ks m = from_entries (map (λ e. (e.0, touch ks e.1)) (entries m))

-- the connection after the keys that are due at this moment were dropped
abbrev pub touch_due : ℕ → Keys → Conn → Conn
touch_due at m c = record c { marked = c.marked || list_any (λ k. is_expired at (get m k)) c.watched }

-- a message on this channel reaches the connection: it is subscribed, and has fewer than 1,024 pending messages
abbrev pub hears : Bytes → Conn → Bool
hears channel c = list_any (bytes_eq channel) c.channels && nat_lt (length c.pending) pending_limit

-- how many connections a message on this channel reaches
abbrev pub hearing : Bytes → List (ℕ × Conn) → ℕ
hearing channel es = count_by (λ e. hears channel e.1) es

-- what a command sees at this moment
abbrev pub around : ℕ → Conns → Around
around at m = record { moment = at; listeners = λ channel. hearing channel (entries m) }

-- the connection with a message on this channel, where it reaches it
abbrev pub reached : Bytes → Bytes → Conn → Conn
reached channel text c = if hears channel c then record c { pending = c.pending ++ message channel text ∷ [] } else c

-- each connection that a message on this channel reaches has it pending
unfoldable pub delivered : Bytes → Bytes → Conns → Conns
delivered channel text m = from_entries (map (λ e. (e.0, reached channel text e.1)) (entries m))

-- what a command does to pending messages
abbrev pub posted : Command → Conns → Conns
posted (Publish channel text) m = delivered channel text m
posted other m = m

-- the channels with this one
abbrev pub joined : Bytes → List Bytes → List Bytes
joined channel cs = if list_any (bytes_eq channel) cs then cs else cs ++ channel ∷ []

-- the channels without this one
abbrev pub without : Bytes → List Bytes → List Bytes
without channel cs = filter (λ one. not (bytes_eq channel one)) cs

-- the connection with these commands queued
abbrev pub with_queue : Conn → List Command → Bool → Conn
with_queue c commands broken = record c { queue = Some (record { commands = commands; broken = broken }) }

-- the connection without queue, watched keys and mark
abbrev pub cleared : Conn → Conn
cleared c = record c { queue = None; watched = []; marked = false }

-- how many commands are queued
abbrev pub queue_length : Option Queue → ℕ
queue_length None = 0
queue_length (Some q) = length q.commands

-- the queue, broken
abbrev pub broken_queue : Option Queue → Option Queue
broken_queue None = None
broken_queue (Some q) = Some (record { commands = q.commands; broken = true })

-- the connection with its queue broken
abbrev pub with_broken : Conn → Conn
with_broken c = record c { queue = broken_queue c.queue }

-- the queue with a command more
abbrev pub longer_queue : Command → Option Queue → Option Queue
longer_queue command None = None
longer_queue command (Some q) = Some (record { commands = q.commands ++ command ∷ []; broken = q.broken })

-- the connection with a command more in its queue
abbrev pub with_command : Command → Conn → Conn
with_command command c = record c { queue = longer_queue command c.queue }
