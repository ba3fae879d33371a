-- The parts in which a command is run; they serve the proof of `run` alone.
use Rattle.std.specs.Prelude.{Bool, true, false}
use Rattle.store_model.specs.declared.command.Command.{Command}
use Rattle.store_model.specs.declared.command.Command.TheVariants.{Set, Del, Expire, Lpush, Rpush, Rpop, Brpop, Sadd, Srem, Hset, Hdel, Zadd, Zrem, Publish}

-- all commands but those that write texts and lists, remove keys or set their expiry, and messages; those of the
-- connection are among them, which don't come here within a transaction and elsewhere answer that they stand outside one
abbrev pub is_on_tables : Command → Bool
is_on_tables (Set k v absent life) = false
is_on_tables (Del ks) = false
is_on_tables (Expire k s) = false
is_on_tables (Lpush k vs) = false
is_on_tables (Rpush k vs) = false
is_on_tables (Rpop k) = false
is_on_tables (Brpop ks) = false
is_on_tables (Publish c x) = false
is_on_tables other = true

-- those of them that leave the keys as they are: all but the ones that write to sets, hashes and sorted sets
abbrev pub only_looks : Command → Bool
only_looks (Sadd k xs) = false
only_looks (Srem k xs) = false
only_looks (Hset k f v) = false
only_looks (Hdel k fs) = false
only_looks (Zadd k s x) = false
only_looks (Zrem k xs) = false
only_looks other = is_on_tables other
