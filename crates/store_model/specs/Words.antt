-- How commands are spelled as words: the first is the name, read without regard to ASCII case.
use Rattle.std.specs.Prelude.{ℕ, ◌-◌, Bool, true, false, ◌&&◌, List, [], ◌∷◌, map, nat_le, codes, bytes_eq, Option, None, Some, ℤ, if◌then◌else◌}
use Rattle.numerals.specs.Integers.{integer_of, natural_of}
use Rattle.store_model.specs.Limits.{range_limit}
use Rattle.store_model.specs.Seconds.{seconds_of}
use Rattle.store_model.specs.declared.command.Command.{Command}
use Rattle.store_model.specs.declared.command.Command.TheVariants.{Ping, Select, Get, Set, Del, Expire, Lpush, Rpush, Rpop, Brpop, Llen, Hlen, Zcard, Sadd, Srem, Smembers, Hset, Hget, Hdel, Zadd, Zrem, Zrevrangebyscore, Watch, Unwatch, Multi, Exec, Discard, Publish, Subscribe, Unsubscribe, Faulty}
use Rattle.store_model.specs.declared.command.Fault.{Fault}
use Rattle.store_model.specs.declared.command.Fault.TheVariants.{Name, Arity, Syntax, Integer}

-- a text, as its bytes
abbrev pub Bytes : Type 0
Bytes = List ℕ

-- the words of a command
abbrev pub Words : Type 0
Words = List Bytes

-- the byte as a capital letter
abbrev pub upper_byte : ℕ → ℕ
upper_byte b = if nat_le 97 b && nat_le b 122 then b - 32 else b

-- all but the last
abbrev pub front : {A : Type 0} → A → List A → List A
front x [] = []
front x (y ∷ ys) = x ∷ front y ys

-- the last
abbrev pub final : {A : Type 0} → A → List A → A
final x [] = x
final x (y ∷ ys) = final y ys

-- a fault of a command that a subscribed connection may not use
abbrev pub faulty : Fault → Command
faulty fault = Faulty fault false

-- a command without arguments; `heard` says whether a subscribed connection may use it
abbrev pub bare : Bool → Command → Words → Command
bare heard command [] = command
bare heard command (x ∷ xs) = Faulty Arity heard

-- a command with one argument
abbrev pub with_one : Bool → (Bytes → Command) → Words → Command
with_one heard f (x ∷ []) = f x
with_one heard f other = Faulty Arity heard

-- a command with two arguments
abbrev pub with_two : (Bytes → Bytes → Command) → Words → Command
with_two f (x ∷ y ∷ []) = f x y
with_two f other = faulty Arity

-- a command with three arguments
abbrev pub with_three : (Bytes → Bytes → Bytes → Command) → Words → Command
with_three f (x ∷ y ∷ z ∷ []) = f x y z
with_three f other = faulty Arity

-- a command with one or more arguments
abbrev pub with_some : (List Bytes → Command) → Words → Command
with_some f [] = faulty Arity
with_some f (x ∷ xs) = f (x ∷ xs)

-- a command with a key and one or more further arguments
abbrev pub with_rest : (Bytes → List Bytes → Command) → Words → Command
with_rest f (k ∷ x ∷ xs) = f k (x ∷ xs)
with_rest f other = faulty Arity

-- SELECT with its number, if the word is one
abbrev pub select_of : Option ℤ → Command
select_of None = faulty Integer
select_of (Some n) = Select n

-- SET with the seconds that the key lives, if the word is such a number
abbrev pub lasting : Bytes → Bytes → Bool → Option ℕ → Command
lasting k v absent None = faulty Integer
lasting k v absent (Some n) = Set k v absent (Some n)

-- SET with a key, a text, and NX, EX with seconds, or both, as Redis' SET takes them
abbrev pub set_of : Words → Command
set_of (k ∷ v ∷ []) = Set k v false None
set_of (k ∷ v ∷ a ∷ []) = if bytes_eq a (codes "NX") then Set k v true None else faulty Syntax
set_of (k ∷ v ∷ a ∷ s ∷ []) = if bytes_eq a (codes "EX") then lasting k v false (seconds_of s) else faulty Syntax
set_of (k ∷ v ∷ a ∷ b ∷ s ∷ []) = if bytes_eq a (codes "NX") && bytes_eq b (codes "EX") then lasting k v true (seconds_of s) else faulty Syntax
set_of other = faulty Arity

-- EXPIRE with the seconds, if the word is such a number
abbrev pub expire_of : Bytes → Option ℕ → Command
expire_of k None = faulty Integer
expire_of k (Some n) = Expire k n

-- BRPOP with its keys, if the last word is a number from 0
abbrev pub brpop_until : List Bytes → Option ℕ → Command
brpop_until ks None = faulty Integer
brpop_until ks (Some n) = Brpop ks

-- BRPOP with one or more keys and a time, which the store doesn't wait for
abbrev pub brpop_of : Words → Command
brpop_of (k ∷ x ∷ xs) = brpop_until (k ∷ front x xs) (natural_of (final x xs))
brpop_of other = faulty Arity

-- ZADD with its score, if the word is one
abbrev pub zadd_of : Bytes → Bytes → Option ℤ → Command
zadd_of k x None = faulty Integer
zadd_of k x (Some n) = Zadd k n x

-- ZREVRANGEBYSCORE with its bounds and limits, if the words are such numbers
abbrev pub range_of : Bytes → Option ℤ → Option ℤ → Option ℕ → Option ℕ → Command
range_of k (Some high) (Some low) (Some skip) (Some most) = Zrevrangebyscore k high low skip most
range_of k high low skip most = faulty Integer

-- ZREVRANGEBYSCORE with a key, the highest score, the lowest, and LIMIT with an offset and a count; at most 4,096 members are given
abbrev pub zrevrangebyscore_of : Words → Command
zrevrangebyscore_of (k ∷ high ∷ low ∷ []) = range_of k (integer_of high) (integer_of low) (Some 0) (Some range_limit)
zrevrangebyscore_of (k ∷ high ∷ low ∷ l ∷ o ∷ n ∷ []) =
    if bytes_eq l (codes "LIMIT") then range_of k (integer_of high) (integer_of low) (natural_of o) (natural_of n) else faulty Syntax
zrevrangebyscore_of other = faulty Arity

-- the first that there is
abbrev pub or_else : Option Command → Option Command → Option Command
or_else None later = later
or_else (Some command) later = Some command

-- commands on texts and on keys of any kind
abbrev pub key_command : Bytes → Words → Option Command
key_command name args =
    if bytes_eq name (codes "GET") then Some (with_one false Get args) else
    if bytes_eq name (codes "SET") then Some (set_of args) else
    if bytes_eq name (codes "DEL") then Some (with_some Del args) else
    if bytes_eq name (codes "EXPIRE") then Some (with_two (λ k s. expire_of k (seconds_of s)) args) else None

-- commands on lists
abbrev pub list_command : Bytes → Words → Option Command
list_command name args =
    if bytes_eq name (codes "LPUSH") then Some (with_rest Lpush args) else
    if bytes_eq name (codes "RPUSH") then Some (with_rest Rpush args) else
    if bytes_eq name (codes "RPOP") then Some (with_one false Rpop args) else
    if bytes_eq name (codes "BRPOP") then Some (brpop_of args) else
    if bytes_eq name (codes "LLEN") then Some (with_one false Llen args) else None

-- commands on sets
abbrev pub set_command : Bytes → Words → Option Command
set_command name args =
    if bytes_eq name (codes "SADD") then Some (with_rest Sadd args) else
    if bytes_eq name (codes "SREM") then Some (with_rest Srem args) else
    if bytes_eq name (codes "SMEMBERS") then Some (with_one false Smembers args) else None

-- commands on hashes
abbrev pub hash_command : Bytes → Words → Option Command
hash_command name args =
    if bytes_eq name (codes "HSET") then Some (with_three Hset args) else
    if bytes_eq name (codes "HGET") then Some (with_two Hget args) else
    if bytes_eq name (codes "HDEL") then Some (with_rest Hdel args) else
    if bytes_eq name (codes "HLEN") then Some (with_one false Hlen args) else None

-- commands on sorted sets
abbrev pub sorted_set_command : Bytes → Words → Option Command
sorted_set_command name args =
    if bytes_eq name (codes "ZADD") then Some (with_three (λ k s x. zadd_of k x (integer_of s)) args) else
    if bytes_eq name (codes "ZREM") then Some (with_rest Zrem args) else
    if bytes_eq name (codes "ZCARD") then Some (with_one false Zcard args) else
    if bytes_eq name (codes "ZREVRANGEBYSCORE") then Some (zrevrangebyscore_of args) else None

-- commands of transactions
abbrev pub transaction_command : Bytes → Words → Option Command
transaction_command name args =
    if bytes_eq name (codes "WATCH") then Some (with_some Watch args) else
    if bytes_eq name (codes "UNWATCH") then Some (bare false Unwatch args) else
    if bytes_eq name (codes "MULTI") then Some (bare false Multi args) else
    if bytes_eq name (codes "EXEC") then Some (bare false Exec args) else
    if bytes_eq name (codes "DISCARD") then Some (bare false Discard args) else None

-- commands on the connection and on channels
abbrev pub connection_command : Bytes → Words → Option Command
connection_command name args =
    if bytes_eq name (codes "PING") then Some (bare true Ping args) else
    if bytes_eq name (codes "SELECT") then Some (with_one false (λ n. select_of (integer_of n)) args) else
    if bytes_eq name (codes "PUBLISH") then Some (with_two Publish args) else
    if bytes_eq name (codes "SUBSCRIBE") then Some (with_one true Subscribe args) else
    if bytes_eq name (codes "UNSUBSCRIBE") then Some (with_one true Unsubscribe args) else None

-- the command that there is, or the fault that its name is unknown
abbrev pub known : Option Command → Command
known None = faulty Name
known (Some command) = command

-- the command of this name, in capital letters, with these arguments
abbrev pub named : Bytes → Words → Command
named name args =
    known (or_else (key_command name args) (or_else (list_command name args) (or_else (set_command name args)
    (or_else (hash_command name args) (or_else (sorted_set_command name args)
    (or_else (transaction_command name args) (connection_command name args)))))))

-- the command that the words spell
unfoldable pub command_of : Words → Command
command_of [] = faulty Name
command_of (name ∷ args) = named (map upper_byte name) args
