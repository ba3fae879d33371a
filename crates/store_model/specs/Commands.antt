-- What each command does to the keys.
use Rattle.std.specs.Prelude.{ℕ, ◌+◌, Bool, true, false, ◌&&◌, [], length, is_some, ℤ, pos, int_le, if◌then◌else◌}
use Rattle.std.specs.FinMap.{get}
use Rattle.wire_values.specs.declared.value.Value.{Value}
use Rattle.wire_values.specs.declared.value.Value.TheVariants.{Error}
use Rattle.store_model.specs.Words.{Bytes}
use Rattle.store_model.specs.Replies.{done, pong, number, fault_text, no_database, outside}
use Rattle.store_model.specs.Keys.{Keys, value_at, CommandOutcome, out, dropped, expire}
use Rattle.store_model.specs.Texts.{text_answer, until, set_text}
use Rattle.store_model.specs.Lists.{lpush, rpush, rpop, brpop, size_answer}
use Rattle.store_model.specs.Sets.{sadd, srem, members_answer}
use Rattle.store_model.specs.Hashes.{hset, field_answer, hdel, hash_size_answer}
use Rattle.store_model.specs.SortedSets.{zadd, zrem, scores_size_answer, ranks_answer}
use Rattle.store_model.specs.declared.command.Command.{Command}
use Rattle.store_model.specs.declared.command.Command.TheVariants.{Ping, Select, Get, Set, Del, Expire, Lpush, Rpush, Rpop, Brpop, Llen, Hlen, Zcard, Sadd, Srem, Smembers, Hset, Hget, Hdel, Zadd, Zrem, Zrevrangebyscore, Publish, Faulty}

-- what a command sees besides the keys: the moment, and how many connections a message on a channel reaches
pub record Around : Type 0 where
  pub moment : ℕ
  pub listeners : Bytes → ℕ

-- both of them hold
abbrev pub both : Bool → Bool → Bool
both true b = b
both false b = false

-- database 0 is the only one
abbrev pub select_answer : ℤ → Value
select_answer n = if int_le n (pos 0) && int_le (pos 0) n then done else no_database

-- what a command does to the keys; EXEC and DISCARD come here only without MULTI, and the other commands on the connection never do
abbrev pub run : Around → Keys → Command → CommandOutcome
run e m Ping = out m [] pong
run e m (Select n) = out m [] (select_answer n)
run e m (Get k) = out m [] (text_answer (value_at m k))
run e m (Set k v absent life) = set_text m k v (until e.moment life) (both absent (is_some (get m k)))
run e m (Del ks) = let r = dropped m ks in out r.0 r.1 (number (length r.1))
run e m (Expire k s) = expire m k (e.moment + s) (get m k)
run e m (Lpush k vs) = lpush m k vs (value_at m k)
run e m (Rpush k vs) = rpush m k vs (value_at m k)
run e m (Rpop k) = rpop m k (value_at m k)
run e m (Brpop ks) = brpop m ks
run e m (Llen k) = out m [] (size_answer (value_at m k))
run e m (Hlen k) = out m [] (hash_size_answer (value_at m k))
run e m (Zcard k) = out m [] (scores_size_answer (value_at m k))
run e m (Sadd k xs) = sadd m k xs (value_at m k)
run e m (Srem k xs) = srem m k xs (value_at m k)
run e m (Smembers k) = out m [] (members_answer (value_at m k))
run e m (Hset k f v) = hset m k f v (value_at m k)
run e m (Hget k f) = out m [] (field_answer f (value_at m k))
run e m (Hdel k fs) = hdel m k fs (value_at m k)
run e m (Zadd k s x) = zadd m k s x (value_at m k)
run e m (Zrem k xs) = zrem m k xs (value_at m k)
run e m (Zrevrangebyscore k high low skip most) = out m [] (ranks_answer high low skip most (value_at m k))
run e m (Publish c x) = out m [] (number (e.listeners c))
run e m (Faulty fault heard) = out m [] (Error (fault_text fault))
run e m other = out m [] outside

-- the commands that may stand between MULTI and EXEC
abbrev pub is_queued : Command → Bool
is_queued Ping = true
is_queued (Set k v absent life) = true
is_queued (Del ks) = true
is_queued (Expire k s) = true
is_queued (Lpush k vs) = true
is_queued (Rpush k vs) = true
is_queued (Llen k) = true
is_queued (Hlen k) = true
is_queued (Zcard k) = true
is_queued (Sadd k xs) = true
is_queued (Srem k xs) = true
is_queued (Hset k f v) = true
is_queued (Hdel k fs) = true
is_queued (Zadd k s x) = true
is_queued (Zrem k xs) = true
is_queued (Publish c x) = true
is_queued other = false
