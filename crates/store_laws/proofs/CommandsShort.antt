-- The texts of a command are among its words: where these are short enough, so are those.
use Rattle.std.proofs.Common.{◌≢◌, ℕ, List, [], ◌∷◌, Bool, true, false, map, None, Some, Option}
use Rattle.std.specs.Prelude.{All, ◌&&◌, ℤ, bytes_eq, codes, if◌then◌else◌}
use Rattle.std.proofs.lemmas.List.Elements.{All-cons, All-head, All-tail}
use Rattle.numerals.specs.Integers.{integer_of, natural_of}
use Rattle.wire_grammar.specs.Fits.{IsShort}
use Rattle.store_model.specs.Seconds.{seconds_of}
use Rattle.store_model.specs.Words.{Bytes, Words, front, final, upper_byte, bare, with_one, with_two, with_three, with_some, with_rest, select_of, lasting, set_of, expire_of, brpop_until, brpop_of, zadd_of, range_of, zrevrangebyscore_of, or_else, key_command, list_command, set_command, hash_command, sorted_set_command, transaction_command, connection_command, known, named, command_of}
use Rattle.store_model.specs.declared.command.Command.{Command}
use Rattle.store_model.specs.declared.command.Command.TheVariants.{Ping, Get, Del, Lpush, Rpush, Rpop, Llen, Hlen, Zcard, Sadd, Srem, Smembers, Hset, Hget, Hdel, Zrem, Watch, Unwatch, Multi, Exec, Discard, Publish, Subscribe, Unsubscribe}
use Rattle.store_laws.specs.StoreLimits.{IsShortCommand}
use Rattle.store_laws.proofs.KeysLimited.{All-front}

-- short where there is one
abbrev ShortOr : Option Command → Type 0
ShortOr None = Unit {0}
ShortOr (Some c) = IsShortCommand c

either : (b : Bool) (x y : Option Command) → ShortOr x → ShortOr y → ShortOr (if b then x else y)
either true x y a b = a
either false x y a b = b

one_of : (b : Bool) (x y : Command) → IsShortCommand x → IsShortCommand y → IsShortCommand (if b then x else y)
one_of true x y a b = a
one_of false x y a b = b

or_short : (x y : Option Command) → ShortOr x → ShortOr y → ShortOr (or_else x y)
or_short None y a b = b
or_short (Some c) y a b = a

known_short : (x : Option Command) → ShortOr x → IsShortCommand (known x)
known_short None a = tt
known_short (Some c) a = a

head : (x : Bytes) (xs : Words) → All IsShort (x ∷ xs) → IsShort x
head x xs all = All-head IsShort x xs all

tail : (x : Bytes) (xs : Words) → All IsShort (x ∷ xs) → All IsShort xs
tail x xs all = All-tail IsShort x xs all

second : (x y : Bytes) (xs : Words) → All IsShort (x ∷ y ∷ xs) → IsShort y
second x y xs all = head y xs (tail x (y ∷ xs) all)

third : (x y z : Bytes) (xs : Words) → All IsShort (x ∷ y ∷ z ∷ xs) → IsShort z
third x y z xs all = second y z xs (tail x (y ∷ z ∷ xs) all)

some_words : (x : Bytes) (xs : Words) → x ∷ xs ≢ []
some_words x xs e = cc e

bare_short : (heard : Bool) (c : Command) (args : Words) → IsShortCommand c → IsShortCommand (bare heard c args)
bare_short heard c [] s = s
bare_short heard c (x ∷ xs) s = tt

one_short : (heard : Bool) (f : Bytes → Command) (args : Words) → ((x : Bytes) → IsShort x → IsShortCommand (f x)) → All IsShort args → IsShortCommand (with_one heard f args)
one_short heard f [] g all = tt
one_short heard f (x ∷ []) g all = g x (head x [] all)
one_short heard f (x ∷ y ∷ ys) g all = tt

two_short : (f : Bytes → Bytes → Command) (args : Words) → ((x y : Bytes) → IsShort x → IsShort y → IsShortCommand (f x y)) → All IsShort args → IsShortCommand (with_two f args)
two_short f [] g all = tt
two_short f (x ∷ []) g all = tt
two_short f (x ∷ y ∷ []) g all = g x y (head x (y ∷ []) all) (second x y [] all)
two_short f (x ∷ y ∷ z ∷ zs) g all = tt

three_short : (f : Bytes → Bytes → Bytes → Command) (args : Words) → ((x y z : Bytes) → IsShort x → IsShort y → IsShort z → IsShortCommand (f x y z)) → All IsShort args → IsShortCommand (with_three f args)
three_short f [] g all = tt
three_short f (x ∷ []) g all = tt
three_short f (x ∷ y ∷ []) g all = tt
three_short f (x ∷ y ∷ z ∷ []) g all = g x y z (head x (y ∷ z ∷ []) all) (second x y (z ∷ []) all) (third x y z [] all)
three_short f (x ∷ y ∷ z ∷ w ∷ ws) g all = tt

some_short : (f : List Bytes → Command) (args : Words) → ((xs : List Bytes) → All IsShort xs → IsShortCommand (f xs)) → All IsShort args → IsShortCommand (with_some f args)
some_short f [] g all = tt
some_short f (x ∷ xs) g all = g (x ∷ xs) all

rest_short : (f : Bytes → List Bytes → Command) (args : Words) → ((k : Bytes) (xs : List Bytes) → IsShort k → xs ≢ [] → All IsShort xs → IsShortCommand (f k xs)) → All IsShort args → IsShortCommand (with_rest f args)
rest_short f [] g all = tt
rest_short f (k ∷ []) g all = tt
rest_short f (k ∷ x ∷ xs) g all = g k (x ∷ xs) (head k (x ∷ xs) all) (some_words x xs) (tail k (x ∷ xs) all)

lasting_short : (k v : Bytes) (absent : Bool) (o : Option ℕ) → IsShort k → IsShort v → IsShortCommand (lasting k v absent o)
lasting_short k v absent None a b = tt
lasting_short k v absent (Some n) a b = (a, b)

set_short : (args : Words) → All IsShort args → IsShortCommand (set_of args)
set_short [] all = tt
set_short (k ∷ []) all = tt
set_short (k ∷ v ∷ []) all = (head k (v ∷ []) all, second k v [] all)
set_short (k ∷ v ∷ a ∷ []) all = one_of (bytes_eq a (codes "NX")) _ _ (head k (v ∷ a ∷ []) all, second k v (a ∷ []) all) tt
set_short (k ∷ v ∷ a ∷ s ∷ []) all = one_of (bytes_eq a (codes "EX")) _ _ (lasting_short k v false (seconds_of s) (head k (v ∷ a ∷ s ∷ []) all) (second k v (a ∷ s ∷ []) all)) tt
set_short (k ∷ v ∷ a ∷ b ∷ s ∷ []) all = one_of (bytes_eq a (codes "NX") && bytes_eq b (codes "EX")) _ _ (lasting_short k v true (seconds_of s) (head k (v ∷ a ∷ b ∷ s ∷ []) all) (second k v (a ∷ b ∷ s ∷ []) all)) tt
set_short (k ∷ v ∷ a ∷ b ∷ s ∷ x ∷ xs) all = tt

expire_short : (k : Bytes) (o : Option ℕ) → IsShort k → IsShortCommand (expire_of k o)
expire_short k None a = tt
expire_short k (Some n) a = a

until_short : (ks : List Bytes) (o : Option ℕ) → All IsShort ks → IsShortCommand (brpop_until ks o)
until_short ks None a = tt
until_short ks (Some n) a = a

brpop_short : (args : Words) → All IsShort args → IsShortCommand (brpop_of args)
brpop_short [] all = tt
brpop_short (k ∷ []) all = tt
brpop_short (k ∷ x ∷ xs) all = until_short (k ∷ front x xs) (natural_of (final x xs)) (All-cons IsShort k (front x xs) (head k (x ∷ xs) all) (All-front IsShort x xs (tail k (x ∷ xs) all)))

zadd_short : (k x : Bytes) (o : Option ℤ) → IsShort k → IsShort x → IsShortCommand (zadd_of k x o)
zadd_short k x None a b = tt
zadd_short k x (Some n) a b = (a, b)

range_short : (k : Bytes) (high low : Option ℤ) (skip most : Option ℕ) → IsShort k → IsShortCommand (range_of k high low skip most)
range_short k None low skip most a = tt
range_short k (Some h) None skip most a = tt
range_short k (Some h) (Some l) None most a = tt
range_short k (Some h) (Some l) (Some s) None a = tt
range_short k (Some h) (Some l) (Some s) (Some m) a = a

ranges_short : (args : Words) → All IsShort args → IsShortCommand (zrevrangebyscore_of args)
ranges_short [] all = tt
ranges_short (k ∷ []) all = tt
ranges_short (k ∷ h ∷ []) all = tt
ranges_short (k ∷ h ∷ l ∷ []) all = range_short k (integer_of h) (integer_of l) (Some 0) (Some 4096) (head k (h ∷ l ∷ []) all)
ranges_short (k ∷ h ∷ l ∷ a ∷ []) all = tt
ranges_short (k ∷ h ∷ l ∷ a ∷ b ∷ []) all = tt
ranges_short (k ∷ h ∷ l ∷ a ∷ o ∷ n ∷ []) all = one_of (bytes_eq a (codes "LIMIT")) _ _ (range_short k (integer_of h) (integer_of l) (natural_of o) (natural_of n) (head k (h ∷ l ∷ a ∷ o ∷ n ∷ []) all)) tt
ranges_short (k ∷ h ∷ l ∷ a ∷ o ∷ n ∷ x ∷ xs) all = tt

select_short : (o : Option ℤ) → IsShortCommand (select_of o)
select_short None = tt
select_short (Some n) = tt

key_short : (name : Bytes) (args : Words) → All IsShort args → ShortOr (key_command name args)
key_short name args all =
    either (bytes_eq name (codes "GET")) _ _ (one_short false Get args (λ x a. a) all)
    (either (bytes_eq name (codes "SET")) _ _ (set_short args all)
    (either (bytes_eq name (codes "DEL")) _ _ (some_short Del args (λ xs a. a) all)
    (either (bytes_eq name (codes "EXPIRE")) _ _ (two_short (λ k s. expire_of k (seconds_of s)) args (λ k s a b. expire_short k (seconds_of s) a) all) tt)))

list_short : (name : Bytes) (args : Words) → All IsShort args → ShortOr (list_command name args)
list_short name args all =
    either (bytes_eq name (codes "LPUSH")) _ _ (rest_short Lpush args (λ k xs a n b. (a, n, b)) all)
    (either (bytes_eq name (codes "RPUSH")) _ _ (rest_short Rpush args (λ k xs a n b. (a, n, b)) all)
    (either (bytes_eq name (codes "RPOP")) _ _ (one_short false Rpop args (λ x a. a) all)
    (either (bytes_eq name (codes "BRPOP")) _ _ (brpop_short args all)
    (either (bytes_eq name (codes "LLEN")) _ _ (one_short false Llen args (λ x a. a) all) tt))))

sets_short : (name : Bytes) (args : Words) → All IsShort args → ShortOr (set_command name args)
sets_short name args all =
    either (bytes_eq name (codes "SADD")) _ _ (rest_short Sadd args (λ k xs a n b. (a, b)) all)
    (either (bytes_eq name (codes "SREM")) _ _ (rest_short Srem args (λ k xs a n b. (a, b)) all)
    (either (bytes_eq name (codes "SMEMBERS")) _ _ (one_short false Smembers args (λ x a. a) all) tt))

hash_short : (name : Bytes) (args : Words) → All IsShort args → ShortOr (hash_command name args)
hash_short name args all =
    either (bytes_eq name (codes "HSET")) _ _ (three_short Hset args (λ k f v a b c. (a, b, c)) all)
    (either (bytes_eq name (codes "HGET")) _ _ (two_short Hget args (λ k f a b. (a, b)) all)
    (either (bytes_eq name (codes "HDEL")) _ _ (rest_short Hdel args (λ k xs a n b. (a, b)) all)
    (either (bytes_eq name (codes "HLEN")) _ _ (one_short false Hlen args (λ x a. a) all) tt)))

scores_short : (name : Bytes) (args : Words) → All IsShort args → ShortOr (sorted_set_command name args)
scores_short name args all =
    either (bytes_eq name (codes "ZADD")) _ _ (three_short (λ k s x. zadd_of k x (integer_of s)) args (λ k s x a b c. zadd_short k x (integer_of s) a c) all)
    (either (bytes_eq name (codes "ZREM")) _ _ (rest_short Zrem args (λ k xs a n b. (a, b)) all)
    (either (bytes_eq name (codes "ZCARD")) _ _ (one_short false Zcard args (λ x a. a) all)
    (either (bytes_eq name (codes "ZREVRANGEBYSCORE")) _ _ (ranges_short args all) tt)))

transactions_short : (name : Bytes) (args : Words) → All IsShort args → ShortOr (transaction_command name args)
transactions_short name args all =
    either (bytes_eq name (codes "WATCH")) _ _ (some_short Watch args (λ xs a. a) all)
    (either (bytes_eq name (codes "UNWATCH")) _ _ (bare_short false Unwatch args tt)
    (either (bytes_eq name (codes "MULTI")) _ _ (bare_short false Multi args tt)
    (either (bytes_eq name (codes "EXEC")) _ _ (bare_short false Exec args tt)
    (either (bytes_eq name (codes "DISCARD")) _ _ (bare_short false Discard args tt) tt))))

connections_short : (name : Bytes) (args : Words) → All IsShort args → ShortOr (connection_command name args)
connections_short name args all =
    either (bytes_eq name (codes "PING")) _ _ (bare_short true Ping args tt)
    (either (bytes_eq name (codes "SELECT")) _ _ (one_short false (λ n. select_of (integer_of n)) args (λ x a. select_short (integer_of x)) all)
    (either (bytes_eq name (codes "PUBLISH")) _ _ (two_short Publish args (λ c x a b. (a, b)) all)
    (either (bytes_eq name (codes "SUBSCRIBE")) _ _ (one_short true Subscribe args (λ x a. a) all)
    (either (bytes_eq name (codes "UNSUBSCRIBE")) _ _ (one_short true Unsubscribe args (λ x a. a) all) tt))))

named_short : (name : Bytes) (args : Words) → All IsShort args → IsShortCommand (named name args)
named_short name args all =
    known_short _
    (or_short (key_command name args) _ (key_short name args all)
    (or_short (list_command name args) _ (list_short name args all)
    (or_short (set_command name args) _ (sets_short name args all)
    (or_short (hash_command name args) _ (hash_short name args all)
    (or_short (sorted_set_command name args) _ (scores_short name args all)
    (or_short (transaction_command name args) (connection_command name args) (transactions_short name args all) (connections_short name args all)))))))

pub command_short : (words : Words) → All IsShort words → IsShortCommand (command_of words)
unfolding command_of
command_short [] all = tt
command_short (name ∷ args) all = named_short (map upper_byte name) args (tail name args all)
