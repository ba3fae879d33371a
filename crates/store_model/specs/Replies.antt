-- What commands answer: RESP2 values with the texts that Redis gives, and this store's own texts of errors.
use Rattle.std.specs.Prelude.{ℕ, List, [], ◌∷◌, map, codes, Option, None, Some, pos}
use Rattle.wire_values.specs.declared.value.Value.{Value}
use Rattle.wire_values.specs.declared.value.Value.TheVariants.{Status, Error, Integer, Bulk, NullBulk, Array}
use Rattle.store_model.specs.Words.{Bytes}
use Rattle.store_model.specs.declared.command.Fault.{Fault}
use Rattle.store_model.specs.declared.command.Fault.TheVariants.{Name, Arity, Syntax, Integer as NoInteger}

-- `+OK`
abbrev pub done : Value
done = Status (codes "OK")

-- the command was queued
abbrev pub queued : Value
queued = Status (codes "QUEUED")

-- PING outside channels
abbrev pub pong : Value
pong = Status (codes "PONG")

-- a count
abbrev pub number : ℕ → Value
number n = Integer (pos n)

-- the text of a faulty spelling
abbrev pub fault_text : Fault → Bytes
fault_text Name = codes "ERR command"
fault_text Arity = codes "ERR arity"
fault_text Syntax = codes "ERR syntax"
fault_text NoInteger = codes "ERR integer"

-- the connection is subscribed, and the command isn't one that it may use
abbrev pub subscribed : Value
subscribed = Error (codes "ERR subscribed")

-- a command that can't be queued after MULTI
abbrev pub not_inside : Value
not_inside = Error (codes "ERR inside")

-- EXEC or DISCARD without MULTI
abbrev pub outside : Value
outside = Error (codes "ERR outside")

-- SELECT of another database than 0
abbrev pub no_database : Value
no_database = Error (codes "ERR database")

-- the key holds another kind of value
abbrev pub wrong_type : Value
wrong_type = Error (codes "WRONGTYPE")

-- a limit of a set, a hash, a sorted set or a queue would be passed
abbrev pub full : Value
full = Error (codes "ERR full")

-- EXEC of a queue in which a command was refused
abbrev pub aborted : Value
aborted = Error (codes "EXECABORT")

-- a bulk, or the null bulk
abbrev pub bulk : Option Bytes → Value
bulk None = NullBulk
bulk (Some v) = Bulk v

-- an array of bulks
abbrev pub bulks : List Bytes → Value
bulks xs = Array (map Bulk xs)

-- the array of a key and an element
abbrev pub pair : Bytes → Bytes → Value
pair k v = Array (Bulk k ∷ Bulk v ∷ [])

-- a message of a channel, as a subscribed connection is told it
abbrev pub message : Bytes → Bytes → Value
message channel text = Array (Bulk (codes "message") ∷ Bulk channel ∷ Bulk text ∷ [])

-- the array of a word, a channel, and how many channels there are now
abbrev pub channel_answer : Bytes → Bytes → ℕ → Value
channel_answer word channel n = Array (Bulk word ∷ Bulk channel ∷ number n ∷ [])
