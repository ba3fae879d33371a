-- The limits that a store keeps, and which values it answers: no key, text, element, member, field or message that it holds is too long for the wire, and no list, set, hash or sorted set is empty.
use Rattle.std.specs.Prelude.{◌≡◌, ◌≢◌, ◌≤◌, ◌^◌, ◌⊎◌, ℕ, ℤ, pos, negsuc, Bool, true, List, [], length, is_some, nat_lt, None, Some, Option, All}
use Rattle.std.specs.List.{list_all}
use Rattle.std.specs.FinMap.{FinMap, get, len}
use Rattle.wire_values.specs.Order.{bytes_cmp}
use Rattle.wire_values.specs.declared.value.Value.{Value}
use Rattle.wire_values.specs.declared.value.Value.TheVariants.{NullArray}
use Rattle.wire_values.specs.declared.value.Value.TheOpen.{Value-F}
use Rattle.wire_values.specs.declared.value.Value.TheFolds.{fold-Value}
use Rattle.wire_grammar.specs.Fits.{HasSpelling, IsShort}
use Rattle.store_model.specs.Limits.{member_limit, pending_limit, queue_limit, set_limit}
use Rattle.store_model.specs.Words.{Bytes, Words, command_of}
use Rattle.store_model.specs.Replies.{message}
use Rattle.store_model.specs.Keys.{Keys}
use Rattle.store_model.specs.Commands.{is_queued}
use Rattle.store_model.specs.Connections.{Conns, conn}
use Rattle.store_model.specs.Lists.{brpop}
use Rattle.store_model.specs.Store.{State, settled}
use Rattle.store_model.specs.declared.command.Command.{Command}
use Rattle.store_model.specs.declared.command.Command.TheVariants.{Get, Set, Del, Expire, Lpush, Rpush, Rpop, Brpop, Llen, Hlen, Zcard, Sadd, Srem, Smembers, Hset, Hget, Hdel, Zadd, Zrem, Zrevrangebyscore, Watch, Publish, Subscribe, Unsubscribe}
use Rattle.store_model.specs.declared.held.Held.{Held}
use Rattle.store_model.specs.declared.held.Stored.{Stored}
use Rattle.store_model.specs.declared.held.Stored.TheVariants.{Text, Items, Members, Hash, Scores}
use Rattle.store_model.specs.declared.connection.Queue.{Queue}
use Rattle.store_model.specs.declared.connection.Conn.{Conn}
use Rattle.store_model.specs.declared.reply.Reply.{Reply}

-- each member or field of a table has at most 1,024 bytes
abbrev pub HasShortNames : {X : Type 0} → FinMap bytes_cmp X → Type 0
HasShortNames h = (x : Bytes) → is_some (get h x) ≡ true → length x ≤ member_limit

-- each value of a hash is short enough for the wire
abbrev pub HasShortTexts : FinMap bytes_cmp Bytes → Type 0
HasShortTexts h = (f v : Bytes) → get h f ≡ Some v → IsShort v

-- what a key holds is within its limits, and isn't empty, but for a text
abbrev pub IsLimited : Stored → Type 0
IsLimited (Text v) = IsShort v
IsLimited (Items xs) = (xs ≢ []) × All IsShort xs
IsLimited (Members h) = (1 ≤ len h) × (len h ≤ set_limit) × HasShortNames h
IsLimited (Hash h) = (1 ≤ len h) × HasShortNames h × HasShortTexts h
IsLimited (Scores h) = (1 ≤ len h) × HasShortNames h

-- each key is short enough for the wire, and what it holds is within its limits
abbrev pub AreLimited : Keys → Type 0
AreLimited m = (k : Bytes) (h : Held) → get m k ≡ Some h → IsShort k × IsLimited h.value

-- each text of a command is short enough for the wire, and a push has elements
abbrev pub IsShortCommand : Command → Type 0
IsShortCommand (Get k) = IsShort k
IsShortCommand (Set k v absent life) = IsShort k × IsShort v
IsShortCommand (Del ks) = All IsShort ks
IsShortCommand (Expire k s) = IsShort k
IsShortCommand (Lpush k vs) = IsShort k × (vs ≢ []) × All IsShort vs
IsShortCommand (Rpush k vs) = IsShort k × (vs ≢ []) × All IsShort vs
IsShortCommand (Rpop k) = IsShort k
IsShortCommand (Brpop ks) = All IsShort ks
IsShortCommand (Llen k) = IsShort k
IsShortCommand (Hlen k) = IsShort k
IsShortCommand (Zcard k) = IsShort k
IsShortCommand (Sadd k xs) = IsShort k × All IsShort xs
IsShortCommand (Srem k xs) = IsShort k × All IsShort xs
IsShortCommand (Smembers k) = IsShort k
IsShortCommand (Hset k f v) = IsShort k × IsShort f × IsShort v
IsShortCommand (Hget k f) = IsShort k × IsShort f
IsShortCommand (Hdel k fs) = IsShort k × All IsShort fs
IsShortCommand (Zadd k s x) = IsShort k × IsShort x
IsShortCommand (Zrem k xs) = IsShort k × All IsShort xs
IsShortCommand (Zrevrangebyscore k high low skip most) = IsShort k
IsShortCommand (Watch ks) = All IsShort ks
IsShortCommand (Publish c x) = IsShort c × IsShort x
IsShortCommand (Subscribe c) = IsShort c
IsShortCommand (Unsubscribe c) = IsShort c
IsShortCommand other = Unit {0}

-- a command that was queued: of a kind that may be, and with short texts
abbrev pub IsWaiting : Command → Type 0
IsWaiting command = (is_queued command ≡ true) × IsShortCommand command

-- a queue has at most 4,096 commands, all of which may be queued
abbrev pub IsLimitedQueue : Option Queue → Type 0
IsLimitedQueue None = Unit {0}
IsLimitedQueue (Some q) = (length q.commands ≤ queue_limit) × All IsWaiting q.commands

-- a message of a channel
abbrev pub IsMessage : Value → Type 0
IsMessage v = (channel : Bytes) × (text : Bytes) × (v ≡ message channel text) × IsShort channel × IsShort text

-- what is known of a connection is within its limits; it has no queue beside channels
pub record IsLimitedConn (cn : Conn) : Type 0 where
  pub queue : IsLimitedQueue cn.queue
  pub apart : (cn.queue ≡ None) ⊎ (cn.channels ≡ [])
  pub watched : All IsShort cn.watched
  pub channels : All IsShort cn.channels
  pub few : length cn.pending ≤ pending_limit
  pub pending : All IsMessage cn.pending

-- each connection is within its limits
abbrev pub AreLimitedConns : Conns → Type 0
AreLimitedConns cs = (c : ℕ) → IsLimitedConn (conn cs c)

-- a store is within its limits
pub record HasLimits (s : State) : Type 0 where
  pub keys : AreLimited s.keys
  pub conns : AreLimitedConns s.conns

-- an integer of 64 bits
abbrev pub is_counted : ℤ → Bool
is_counted (pos n) = nat_lt n (2 ^ 63)
is_counted (negsuc n) = nat_lt n (2 ^ 63)

-- the integers of one layer of a value are of 64 bits
abbrev pub counts_step : Value-F Bool → Bool
counts_step (Value-F.Integer z) = is_counted z
counts_step (Value-F.Array bs) = list_all (λ b. b) bs
counts_step other = true

-- the integers of a value are of 64 bits, as those of each value of the code are: no store has more elements, members or channels than that
abbrev pub has_counts : Value → Bool
has_counts = fold-Value Bool counts_step

-- each value of a reply fits on the wire
abbrev pub ReplyFits : Reply → Type 0
ReplyFits r = All HasSpelling r.pushed × HasSpelling r.answer

-- the words are a lawful BRPOP, and at this moment it would answer the null array
abbrev pub WouldWait : State → ℕ → Words → Type 0
WouldWait s at words = (ks : List Bytes) × (command_of words ≡ Brpop ks) × ((brpop (settled s at).keys ks).answer ≡ NullArray)
