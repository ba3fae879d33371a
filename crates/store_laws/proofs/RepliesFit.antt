-- What a store within its limits answers fits on the wire.
use Rattle.std.proofs.Common.{◌≡◌, inl, inr, ℕ, ℤ, pos, zero, suc, ◌+◌, ◌≤◌, List, [], ◌∷◌, length, map, take, codes, Bool, true, false, refl, sym, ap, subst, ◌∙◌, arith, None, Some, Option}
use Rattle.std.specs.Prelude.{All, ◌&&◌, ◌||◌, is_some, int_le, nat_lt, if◌then◌else◌}
use Rattle.std.specs.List.{list_all, list_any}
use Rattle.std.specs.Ordering.{eq_by_cmp}
use Rattle.std.proofs.lemmas.Bool.Decides.{nat_tests}
use Rattle.std.proofs.lemmas.List.Elements.{All-nil, All-cons, All-head, All-tail}
use Rattle.std.specs.FinMap.{FinMap, get, insert, entries, keys, len, len-entries, contains_key-keys}
use Rattle.numerals.proofs.Texts.{IsWord}
use Rattle.wire_values.specs.Order.{bytes_cmp}
use Rattle.wire_values.specs.declared.value.Value.{Value}
use Rattle.wire_values.specs.declared.value.Value.TheVariants.{Error, Integer, Bulk, NullBulk, Array, NullArray, rolls-Integer, rolls-Array}
use Rattle.wire_values.specs.declared.value.Value.TheFolds.{fold-roll-Value}
use Rattle.wire_values.specs.declared.value.Value.TheOpen.{Value-F}
use Rattle.wire_grammar.specs.Spells.{crlf}
use Rattle.wire_grammar.specs.Fits.{HasSpelling, IsShort, IsWithinLimits}
use Rattle.wire_grammar.proofs.Fitted.{IsSmall, small_more, small_fits, status_small, error_small, integer_small, bulk_small, null_bulk_small, array_fits, bulks_fit, words_short}
use Rattle.store_tables.proofs.Maps.{bytes_total, bytes_anti}
use Rattle.store_model.specs.Limits.{set_limit, queue_limit}
use Rattle.store_model.specs.Words.{Bytes, Words, command_of, final}
use Rattle.store_model.specs.Replies.{done, queued, pong, number, fault_text, subscribed, not_inside, outside, no_database, wrong_type, full, aborted, bulk, bulks, channel_answer}
use Rattle.store_model.specs.Keys.{Keys, value_at, out, is_long, taken_out, after_taking, expire}
use Rattle.store_model.specs.Texts.{text_answer, set_text, until}
use Rattle.store_model.specs.Lists.{lpush, rpush, rpop, brpop, brpop_at, size_answer}
use Rattle.store_model.specs.Sets.{sadd, srem, after_adding, members_answer}
use Rattle.store_model.specs.Hashes.{hset, hset_to, hdel, field_answer, hash_size_answer}
use Rattle.store_model.specs.SortedSets.{zadd, zadd_to, zadd_over, zrem, scores_size_answer, ranks, ranks_answer}
use Rattle.store_model.specs.Commands.{Around, run, both, is_queued, select_answer}
use Rattle.store_model.specs.Connections.{Conns, conn, around, posted, joined, without, cleared}
use Rattle.store_model.specs.Store.{State, run_all, execute, executed, refused, to_queue, inside, outside_transaction, is_heard, heard_plain, spoken, serve_by, settled, quiet, answer_to, apply_of}
use Rattle.store_model.specs.declared.command.Command.{Command}
use Rattle.store_model.specs.declared.command.Command.TheVariants.{Ping, Select, Get, Set, Del, Expire, Lpush, Rpush, Rpop, Brpop, Llen, Hlen, Zcard, Sadd, Srem, Smembers, Hset, Hget, Hdel, Zadd, Zrem, Zrevrangebyscore, Watch, Unwatch, Multi, Exec, Discard, Publish, Subscribe, Unsubscribe, Faulty}
use Rattle.store_model.specs.declared.command.Fault.{Fault}
use Rattle.store_model.specs.declared.command.Fault.TheVariants.{Name, Arity, Syntax, Integer as NoInteger}
use Rattle.store_model.specs.declared.held.Held.{Held}
use Rattle.store_model.specs.declared.held.Stored.{Stored}
use Rattle.store_model.specs.declared.held.Stored.TheVariants.{Text, Items, Members, Hash, Scores}
use Rattle.store_model.specs.declared.connection.Queue.{Queue}
use Rattle.store_model.specs.declared.connection.Conn.{Conn}
use Rattle.store_laws.specs.StoreLimits.{HasShortNames, AreLimited, IsShortCommand, IsWaiting, IsLimitedQueue, IsMessage, IsLimitedConn, HasLimits, is_counted, counts_step, has_counts, ReplyFits}
use Rattle.store_laws.proofs.Maps.{tied_itself}
use Rattle.store_laws.proofs.Elements.{IsAmong}
use Rattle.store_laws.proofs.Ranks.{among_ranks}
use Rattle.store_laws.proofs.KeysLimited.{All_among, All-final, held_limited}
use Rattle.store_laws.proofs.CommandsShort.{command_short}
use Rattle.store_laws.proofs.StepsLimited.{limited_settled, limited_told}

-- the integers of a value are of 64 bits
abbrev IsCounted : Value → Type 0
IsCounted v = has_counts v ≡ true

-- where its integers are of 64 bits, a value takes few bytes
abbrev Small : Value → Type 0
Small v = IsCounted v → IsSmall 100 v

-- where its integers are of 64 bits, a value fits
abbrev Fits : Value → Type 0
Fits v = IsCounted v → HasSpelling v

small_so : (v : Value) → Small v → Fits v
small_so v s c = small_fits 100 v (omega arith) (s c)

-- ---- integers

counts_integer : (z : ℤ) → has_counts (Integer z) ≡ is_counted z
counts_integer z = ap has_counts (sym (rolls-Integer z)) ∙ fold-roll-Value Bool counts_step (Value-F.Integer z)

counts_array : (xs : List Value) → has_counts (Array xs) ≡ list_all (λ b. b) (map has_counts xs)
counts_array xs = ap has_counts (sym (rolls-Array xs)) ∙ fold-roll-Value Bool counts_step (Value-F.Array xs)

word_of : (n : ℕ) → is_counted (pos n) ≡ true → IsWord (pos n)
word_of n e = grind (arith, nat_tests)

number_small : (n : ℕ) → Small (number n)
number_small n c = small_more 23 100 (number n) (omega arith) (integer_small (pos n) (word_of n (sym (counts_integer (pos n)) ∙ c)))

and_both : (a b : Bool) → (a && b) ≡ true → (a ≡ true) × (b ≡ true)
and_both true b e = (refl, e)
and_both false b e = absurd (cc e)

items_counted : (xs : List Value) → list_all (λ b. b) (map has_counts xs) ≡ true → All IsCounted xs
items_counted [] e = All-nil IsCounted
items_counted (x ∷ xs) e = let h = and_both (has_counts x) (list_all (λ b. b) (map has_counts xs)) e in All-cons IsCounted x xs h.0 (items_counted xs h.1)

array_counted : (xs : List Value) → IsCounted (Array xs) → All IsCounted xs
array_counted xs c = items_counted xs (sym (counts_array xs) ∙ c)

-- ---- texts

done_small : Small done
done_small c = small_more 5 100 done (omega arith) (status_small (codes "OK") (omega arith) refl)

queued_small : Small queued
queued_small c = small_more 9 100 queued (omega arith) (status_small (codes "QUEUED") (omega arith) refl)

pong_small : Small pong
pong_small c = small_more 7 100 pong (omega arith) (status_small (codes "PONG") (omega arith) refl)

type_small : Small wrong_type
type_small c = small_more 12 100 wrong_type (omega arith) (error_small (codes "WRONGTYPE") (omega arith) refl)

full_small : Small full
full_small c = small_more 11 100 full (omega arith) (error_small (codes "ERR full") (omega arith) refl)

subscribed_small : Small subscribed
subscribed_small c = small_more 17 100 subscribed (omega arith) (error_small (codes "ERR subscribed") (omega arith) refl)

inside_small : Small not_inside
inside_small c = small_more 13 100 not_inside (omega arith) (error_small (codes "ERR inside") (omega arith) refl)

outside_small : Small outside
outside_small c = small_more 14 100 outside (omega arith) (error_small (codes "ERR outside") (omega arith) refl)

database_small : Small no_database
database_small c = small_more 15 100 no_database (omega arith) (error_small (codes "ERR database") (omega arith) refl)

aborted_small : Small aborted
aborted_small c = small_more 12 100 aborted (omega arith) (error_small (codes "EXECABORT") (omega arith) refl)

fault_small : (fault : Fault) → Small (Error (fault_text fault))
fault_small Name c = small_more 14 100 _ (omega arith) (error_small (codes "ERR command") (omega arith) refl)
fault_small Arity c = small_more 12 100 _ (omega arith) (error_small (codes "ERR arity") (omega arith) refl)
fault_small Syntax c = small_more 13 100 _ (omega arith) (error_small (codes "ERR syntax") (omega arith) refl)
fault_small NoInteger c = small_more 14 100 _ (omega arith) (error_small (codes "ERR integer") (omega arith) refl)

null_small : Small NullBulk
null_small c = small_more 5 100 NullBulk (omega arith) null_bulk_small

-- ---- what the commands answer that may be queued

set_small : (m : Keys) (k v : Bytes) (e : Option ℕ) (b : Bool) → Small (set_text m k v e b).answer
set_small m k v e true = null_small
set_small m k v e false = done_small

expire_small : (m : Keys) (k : Bytes) (e : ℕ) (o : Option Held) → Small (expire m k e o).answer
expire_small m k e None = number_small 0
expire_small m k e (Some h) = number_small 1

lpush_small : (m : Keys) (k : Bytes) (vs : List Bytes) (o : Option Stored) → Small (lpush m k vs o).answer
lpush_small m k vs None = number_small _
lpush_small m k vs (Some (Items xs)) = number_small _
lpush_small m k vs (Some other) = type_small

rpush_small : (m : Keys) (k : Bytes) (vs : List Bytes) (o : Option Stored) → Small (rpush m k vs o).answer
rpush_small m k vs None = number_small _
rpush_small m k vs (Some (Items xs)) = number_small _
rpush_small m k vs (Some other) = type_small

size_small : (o : Option Stored) → Small (size_answer o)
size_small None = number_small 0
size_small (Some (Items xs)) = number_small _
size_small (Some other) = type_small

hash_size_small : (o : Option Stored) → Small (hash_size_answer o)
hash_size_small None = number_small 0
hash_size_small (Some (Hash h)) = number_small _
hash_size_small (Some other) = type_small

scores_size_small : (o : Option Stored) → Small (scores_size_answer o)
scores_size_small None = number_small 0
scores_size_small (Some (Scores h)) = number_small _
scores_size_small (Some other) = type_small

adding_small : (m : Keys) (k : Bytes) (h : FinMap bytes_cmp (Unit {0})) (n : ℕ) (b : Bool) → Small (after_adding m k h n b).answer
adding_small m k h n false = full_small
adding_small m k h zero true = number_small 0
adding_small m k h (suc n) true = number_small (suc n)

sadd_small : (m : Keys) (k : Bytes) (xs : List Bytes) (o : Option Stored) → Small (sadd m k xs o).answer
sadd_small m k xs None = adding_small m k _ _ _
sadd_small m k xs (Some (Members h)) = adding_small m k _ _ _
sadd_small m k xs (Some other) = type_small

taking_small : (m : Keys) (k : Bytes) (v : Stored) (n p : ℕ) → Small (after_taking m k v n p).answer
taking_small m k v n zero = number_small 0
taking_small m k v n (suc p) = number_small (suc p)

srem_small : (m : Keys) (k : Bytes) (xs : List Bytes) (o : Option Stored) → Small (srem m k xs o).answer
srem_small m k xs None = number_small 0
srem_small m k xs (Some (Members h)) = taking_small m k _ _ _
srem_small m k xs (Some other) = type_small

hdel_small : (m : Keys) (k : Bytes) (xs : List Bytes) (o : Option Stored) → Small (hdel m k xs o).answer
hdel_small m k xs None = number_small 0
hdel_small m k xs (Some (Hash h)) = taking_small m k _ _ _
hdel_small m k xs (Some other) = type_small

zrem_small : (m : Keys) (k : Bytes) (xs : List Bytes) (o : Option Stored) → Small (zrem m k xs o).answer
zrem_small m k xs None = number_small 0
zrem_small m k xs (Some (Scores h)) = taking_small m k _ _ _
zrem_small m k xs (Some other) = type_small

setting_small : (m : Keys) (k f v : Bytes) (h : FinMap bytes_cmp Bytes) → Small (hset_to m k f v h).answer
setting_small m k f v h = go (is_long f)
  where
    go : (b : Bool) → Small (if b then out m [] full else out (Rattle.store_model.specs.Keys.put m k (Hash (insert h f v))) (k ∷ []) (number (if is_some (get h f) then 0 else 1))).answer
    go true = full_small
    go false = number_small _

hset_small : (m : Keys) (k f v : Bytes) (o : Option Stored) → Small (hset m k f v o).answer
hset_small m k f v None = setting_small m k f v _
hset_small m k f v (Some (Hash h)) = setting_small m k f v h
hset_small m k f v (Some other) = type_small

over_small : (m : Keys) (k : Bytes) (s : ℤ) (x : Bytes) (h : FinMap bytes_cmp ℤ) (o : Option ℤ) → Small (zadd_over m k s x h o).answer
over_small m k s x h None = number_small 1
over_small m k s x h (Some t) = go (int_le s t && int_le t s)
  where
    go : (b : Bool) → Small (if b then out m [] (number 0) else out (Rattle.store_model.specs.Keys.put m k (Scores (insert h x s))) (k ∷ []) (number 0)).answer
    go true = number_small 0
    go false = number_small 0

scoring_small : (m : Keys) (k : Bytes) (s : ℤ) (x : Bytes) (h : FinMap bytes_cmp ℤ) → Small (zadd_to m k s x h).answer
scoring_small m k s x h = go (is_long x)
  where
    go : (b : Bool) → Small (if b then out m [] full else zadd_over m k s x h (get h x)).answer
    go true = full_small
    go false = over_small m k s x h (get h x)

zadd_small : (m : Keys) (k : Bytes) (s : ℤ) (x : Bytes) (o : Option Stored) → Small (zadd m k s x o).answer
zadd_small m k s x None = scoring_small m k s x _
zadd_small m k s x (Some (Scores h)) = scoring_small m k s x h
zadd_small m k s x (Some other) = type_small

-- what a command answers that may be queued takes few bytes
run_small : (e : Around) (m : Keys) (c : Command) → is_queued c ≡ true → Small (run e m c).answer
run_small e m Ping q = pong_small
run_small e m (Set k v absent life) q = set_small m k v (until e.moment life) (both absent (is_some (get m k)))
run_small e m (Del ks) q = number_small _
run_small e m (Expire k s) q = expire_small m k (e.moment + s) (get m k)
run_small e m (Lpush k vs) q = lpush_small m k vs (value_at m k)
run_small e m (Rpush k vs) q = rpush_small m k vs (value_at m k)
run_small e m (Llen k) q = size_small (value_at m k)
run_small e m (Hlen k) q = hash_size_small (value_at m k)
run_small e m (Zcard k) q = scores_size_small (value_at m k)
run_small e m (Sadd k xs) q = sadd_small m k xs (value_at m k)
run_small e m (Srem k xs) q = srem_small m k xs (value_at m k)
run_small e m (Hset k f v) q = hset_small m k f v (value_at m k)
run_small e m (Hdel k fs) q = hdel_small m k fs (value_at m k)
run_small e m (Zadd k s x) q = zadd_small m k s x (value_at m k)
run_small e m (Zrem k xs) q = zrem_small m k xs (value_at m k)
run_small e m (Publish c x) q = number_small _
run_small e m other q = absurd (cc q)

-- ---- what the others answer

bulk_fits : (b : Bytes) → IsShort b → HasSpelling (Bulk b)
bulk_fits b l = small_fits (length b + 12) (Bulk b) (omega (arith, l)) (bulk_small b l)

null_array_fits : HasSpelling NullArray
null_array_fits = (42 ∷ 45 ∷ 49 ∷ crlf, (inr (inr (45 ∷ 49 ∷ crlf, refl, (45 ∷ 49 ∷ [], refl, refl, refl), refl)), omega arith))

two_fit : (a b : Bytes) → IsShort a → IsShort b → HasSpelling (bulks (a ∷ b ∷ []))
two_fit a b x y = bulks_fit 1048576 (a ∷ b ∷ []) (omega arith) (omega arith) (omega arith) (All-cons IsShort a (b ∷ []) x (All-cons IsShort b [] y (All-nil IsShort)))

three_fit : (a b c : Bytes) → IsShort a → IsShort b → IsShort c → HasSpelling (bulks (a ∷ b ∷ c ∷ []))
three_fit a b c x y z = bulks_fit 1048576 (a ∷ b ∷ c ∷ []) (omega arith) (omega arith) (omega arith) (All-cons IsShort a (b ∷ c ∷ []) x (All-cons IsShort b (c ∷ []) y (All-cons IsShort c [] z (All-nil IsShort))))

-- a member or a field has few bytes
abbrev IsName : Bytes → Type 0
IsName x = length x ≤ 1024

any_among : (x : Bytes) (xs : List Bytes) → IsAmong x xs → list_any (eq_by_cmp bytes_cmp x) xs ≡ true
any_among x [] is = absurd is
any_among x (y ∷ ys) (inl e) = subst (λ z. (eq_by_cmp bytes_cmp x z || list_any (eq_by_cmp bytes_cmp x) ys) ≡ true) e (ap (λ b. b || list_any (eq_by_cmp bytes_cmp x) ys) (tied_itself bytes_cmp bytes_total bytes_anti x))
any_among x (y ∷ ys) (inr is) = go (eq_by_cmp bytes_cmp x y) (any_among x ys is)
  where
    go : (b : Bool) → list_any (eq_by_cmp bytes_cmp x) ys ≡ true → (b || list_any (eq_by_cmp bytes_cmp x) ys) ≡ true
    go true e = refl
    go false e = e

length_names : {X : Type 0} (es : List (Bytes × X)) → length (map (λ e. e.0) es) ≡ length es
length_names [] = refl
length_names (e ∷ es) = ap suc (length_names es)

members_fit : (h : FinMap bytes_cmp (Unit {0})) → len h ≤ set_limit → HasShortNames h → HasSpelling (bulks (keys h))
members_fit h few names =
    let all : All IsName (keys h) = All_among IsName (keys h) (λ x a. names x (contains_key-keys h x ∙ any_among x (keys h) a)) in
    let many : length (keys h) ≤ 1024 = omega (arith, few, length_names (entries h), len-entries h) in
    bulks_fit 1024 (keys h) (omega (arith, many)) (omega arith) (omega (arith, many)) all

length_taken : (n : ℕ) (xs : List Bytes) → length (take n xs) ≤ n
length_taken zero xs = omega arith
length_taken (suc n) [] = omega arith
length_taken (suc n) (x ∷ xs) = let h = length_taken n xs in omega (arith, h)

ranks_fit : (high low : ℤ) (skip most : ℕ) (h : FinMap bytes_cmp ℤ) → HasShortNames h → HasSpelling (bulks (ranks high low skip most h))
ranks_fit high low skip most h names =
    let all : All IsName (ranks high low skip most h) = All_among IsName (ranks high low skip most h) (λ x a. names x (among_ranks x high low skip most (Some (Scores h)) a)) in
    let many : length (ranks high low skip most h) ≤ 4096 = length_taken 4096 _ in
    bulks_fit 1024 (ranks high low skip most h) (omega (arith, many)) (omega arith) (omega (arith, many)) all

none_fit : HasSpelling (bulks [])
none_fit = bulks_fit 0 [] (omega arith) (omega arith) (omega arith) (All-nil (λ (w : Bytes). length w ≤ 0))

text_fits : (m : Keys) (k : Bytes) (o : Option Stored) → value_at m k ≡ o → AreLimited m → Fits (text_answer o)
text_fits m k None was all = small_so NullBulk null_small
text_fits m k (Some (Text v)) was all = λ c. bulk_fits v (held_limited m k (Text v) all was)
text_fits m k (Some other) was all = small_so wrong_type type_small

field_fits : (m : Keys) (k f : Bytes) (o : Option Stored) → value_at m k ≡ o → AreLimited m → Fits (field_answer f o)
field_fits m k f None was all = small_so NullBulk null_small
field_fits m k f (Some (Hash h)) was all = go (get h f) refl
  where
    go : (o : Option Bytes) → get h f ≡ o → Fits (bulk o)
    go None e = small_so NullBulk null_small
    go (Some v) e = λ c. bulk_fits v ((held_limited m k (Hash h) all was).2 f v e)
field_fits m k f (Some other) was all = small_so wrong_type type_small

all_members_fit : (m : Keys) (k : Bytes) (o : Option Stored) → value_at m k ≡ o → AreLimited m → Fits (members_answer o)
all_members_fit m k None was all = λ c. none_fit
all_members_fit m k (Some (Members h)) was all = let had = held_limited m k (Members h) all was in λ c. members_fit h had.1 had.2
all_members_fit m k (Some other) was all = small_so wrong_type type_small

range_fits : (m : Keys) (k : Bytes) (high low : ℤ) (skip most : ℕ) (o : Option Stored) → value_at m k ≡ o → AreLimited m → Fits (ranks_answer high low skip most o)
range_fits m k high low skip most None was all = λ c. none_fit
range_fits m k high low skip most (Some (Scores h)) was all = let had = held_limited m k (Scores h) all was in λ c. ranks_fit high low skip most h had.1
range_fits m k high low skip most (Some other) was all = small_so wrong_type type_small

rpop_fits : (m : Keys) (k : Bytes) (o : Option Stored) → value_at m k ≡ o → AreLimited m → Fits (rpop m k o).answer
rpop_fits m k None was all = small_so NullBulk null_small
rpop_fits m k (Some (Items [])) was all = small_so NullBulk null_small
rpop_fits m k (Some (Items (x ∷ xs))) was all = λ c. bulk_fits (final x xs) (All-final IsShort x xs (held_limited m k (Items (x ∷ xs)) all was).1)
rpop_fits m k (Some other) was all = small_so wrong_type type_small

brpop_fits : (m : Keys) (ks : List Bytes) → All IsShort ks → AreLimited m → Fits (brpop m ks).answer
brpop_fits m [] are all = λ c. null_array_fits
brpop_fits m (k ∷ ks) are all = go (value_at m k) refl (brpop_fits m ks (All-tail IsShort k ks are) all)
  where
    go : (o : Option Stored) → value_at m k ≡ o → Fits (brpop m ks).answer → Fits (brpop_at m k o (brpop m ks)).answer
    go None was later = later
    go (Some (Items [])) was later = later
    go (Some (Items (x ∷ xs))) was later = λ c. two_fit k (final x xs) (All-head IsShort k ks are) (All-final IsShort x xs (held_limited m k (Items (x ∷ xs)) all was).1)
    go (Some other) was later = small_so wrong_type type_small

select_fits : (z : ℤ) → Fits (select_answer z)
select_fits z = go (int_le z (pos 0) && int_le (pos 0) z)
  where
    go : (b : Bool) → Fits (if b then done else no_database)
    go true = small_so done done_small
    go false = small_so no_database database_small

-- what a command answers fits
run_fits : (e : Around) (m : Keys) (c : Command) → IsShortCommand c → AreLimited m → Fits (run e m c).answer
run_fits e m (Select n) is all = select_fits n
run_fits e m (Get k) is all = text_fits m k (value_at m k) refl all
run_fits e m (Rpop k) is all = rpop_fits m k (value_at m k) refl all
run_fits e m (Brpop ks) is all = brpop_fits m ks is all
run_fits e m (Smembers k) is all = all_members_fit m k (value_at m k) refl all
run_fits e m (Hget k f) is all = field_fits m k f (value_at m k) refl all
run_fits e m (Zrevrangebyscore k high low skip most) is all = range_fits m k high low skip most (value_at m k) refl all
run_fits e m (Faulty fault heard) is all = small_so _ (fault_small fault)
run_fits e m (Watch ks) is all = small_so outside outside_small
run_fits e m Unwatch is all = small_so outside outside_small
run_fits e m Multi is all = small_so outside outside_small
run_fits e m Exec is all = small_so outside outside_small
run_fits e m Discard is all = small_so outside outside_small
run_fits e m (Subscribe x) is all = small_so outside outside_small
run_fits e m (Unsubscribe x) is all = small_so outside outside_small
run_fits e m other is all = small_so _ (run_small e m other refl)

-- ---- what is answered to a connection

answers_small : (at : ℕ) (m : Keys) (cs : Conns) (commands : List Command) → All IsWaiting commands → All IsCounted (run_all at m cs commands).answers → All (IsSmall 100) (run_all at m cs commands).answers
answers_small at m cs [] all c = All-nil (IsSmall 100)
answers_small at m cs (command ∷ later) all c =
    let r = run (around at cs) m command in
    let rest = (run_all at r.keys (posted command cs) later).answers in
    All-cons (IsSmall 100) r.answer rest (run_small (around at cs) m command (All-head IsWaiting command later all).0 (All-head IsCounted r.answer rest c))
    (answers_small at r.keys (posted command cs) later (All-tail IsWaiting command later all) (All-tail IsCounted r.answer rest c))

length_answers : (at : ℕ) (m : Keys) (cs : Conns) (commands : List Command) → length (run_all at m cs commands).answers ≡ length commands
length_answers at m cs [] = refl
length_answers at m cs (command ∷ later) = ap suc (length_answers at (run (around at cs) m command).keys (posted command cs) later)

queue_fits : (at : ℕ) (m : Keys) (cs : Conns) (commands : List Command) → length commands ≤ queue_limit → All IsWaiting commands → Fits (Array (run_all at m cs commands).answers)
queue_fits at m cs commands few all c =
    let answers = (run_all at m cs commands).answers in
    let many : length answers ≤ 4096 = omega (arith, few, length_answers at m cs commands) in
    array_fits 100 answers (omega (arith, many)) (omega (arith, many)) (answers_small at m cs commands all (array_counted answers c))

execute_fits : (at : ℕ) (s : State) (c : ℕ) (cn : Conn) (commands : List Command) (b : Bool) → length commands ≤ queue_limit → All IsWaiting commands → Fits (execute at s c cn commands b).1
execute_fits at s c cn commands true few all = λ h. null_array_fits
execute_fits at s c cn commands false few all = queue_fits at s.keys (insert s.conns c (cleared cn)) commands few all

executed_fits : (at : ℕ) (s : State) (c : ℕ) (cn : Conn) (commands : List Command) (b : Bool) → length commands ≤ queue_limit → All IsWaiting commands → Fits (executed at s c cn commands b).1
executed_fits at s c cn commands true few all = small_so aborted aborted_small
executed_fits at s c cn commands false few all = execute_fits at s c cn commands cn.marked few all

refused_fits : (s : State) (c : ℕ) (cn : Conn) (q : Option Queue) (answer : Value) → Fits answer → Fits (refused s c cn q answer).1
refused_fits s c cn None answer f = f
refused_fits s c cn (Some q) answer f = f

to_queue_fits : (s : State) (c : ℕ) (cn : Conn) (q : Queue) (command : Command) (a b : Bool) → Fits (to_queue s c cn q command a b).1
to_queue_fits s c cn q command true true = small_so queued queued_small
to_queue_fits s c cn q command true false = small_so full full_small
to_queue_fits s c cn q command false b = small_so not_inside inside_small

inside_fits : (at : ℕ) (s : State) (c : ℕ) (cn : Conn) (q : Queue) (command : Command) → length q.commands ≤ queue_limit → All IsWaiting q.commands → Fits (inside at s c cn q command).1
inside_fits at s c cn q Exec few all = executed_fits at s c cn q.commands q.broken few all
inside_fits at s c cn q Discard few all = small_so done done_small
inside_fits at s c cn q (Faulty fault heard) few all = small_so _ (fault_small fault)
inside_fits at s c cn q other few all = to_queue_fits s c cn q other (is_queued other) (nat_lt (length q.commands) queue_limit)

-- the array of a word, a channel and a number
channels_fit : (word channel : Bytes) (n : ℕ) → length word ≤ 1024 → IsShort channel → Fits (channel_answer word channel n)
channels_fit word channel n a b c =
    let items = Bulk word ∷ Bulk channel ∷ number n ∷ [] in
    let all = array_counted items c in
    let last : IsCounted (number n) = All-head IsCounted (number n) [] (All-tail IsCounted (Bulk channel) (number n ∷ []) (All-tail IsCounted (Bulk word) (Bulk channel ∷ number n ∷ []) all)) in
    array_fits 1048588 items (omega arith) (omega arith)
    (All-cons (IsSmall 1048588) (Bulk word) (Bulk channel ∷ number n ∷ []) (small_more (length word + 12) 1048588 (Bulk word) (omega (arith, a)) (bulk_small word (omega (arith, a))))
    (All-cons (IsSmall 1048588) (Bulk channel) (number n ∷ []) (small_more (length channel + 12) 1048588 (Bulk channel) (omega (arith, b)) (bulk_small channel b))
    (All-cons (IsSmall 1048588) (number n) [] (small_more 100 1048588 (number n) (omega arith) (number_small n last)) (All-nil (IsSmall 1048588)))))

plain_fits : (at : ℕ) (s : State) (c : ℕ) (cn : Conn) (command : Command) → IsShortCommand command → AreLimited s.keys → Fits (outside_transaction at s c cn command).1
plain_fits at s c cn Multi is all = small_so done done_small
plain_fits at s c cn (Watch ks) is all = small_so done done_small
plain_fits at s c cn Unwatch is all = small_so done done_small
plain_fits at s c cn (Subscribe x) is all = channels_fit (codes "subscribe") x (length (joined x cn.channels)) (omega arith) is
plain_fits at s c cn (Unsubscribe x) is all = channels_fit (codes "unsubscribe") x (length (without x cn.channels)) (omega arith) is
plain_fits at s c cn other is all = run_fits (around at s.conns) s.keys other is all

heard_fits : (at : ℕ) (s : State) (c : ℕ) (cn : Conn) (command : Command) → IsShortCommand command → AreLimited s.keys → Fits (heard_plain at s c cn command).1
heard_fits at s c cn Ping is all = λ h. two_fit (codes "pong") [] (omega arith) (omega arith)
heard_fits at s c cn other is all = plain_fits at s c cn other is all

queue_is : (cn : Conn) (q : Queue) → cn.queue ≡ Some q → IsLimitedConn cn → (length q.commands ≤ queue_limit) × All IsWaiting q.commands
queue_is cn q e l = subst IsLimitedQueue e l.queue

spoken_fits : (at : ℕ) (s : State) (c : ℕ) (cn : Conn) (command : Command) (q : Option Queue) (b : Bool) → cn.queue ≡ q → IsShortCommand command → IsLimitedConn cn → AreLimited s.keys → Fits (spoken at s c cn command q b).1
spoken_fits at s c cn command q false e is l all = refused_fits s c cn q subscribed (small_so subscribed subscribed_small)
spoken_fits at s c cn command None true e is l all = heard_fits at s c cn command is all
spoken_fits at s c cn command (Some q) true e is l all = let had = queue_is cn q e l in inside_fits at s c cn q command had.0 had.1

serve_by_fits : (at : ℕ) (s : State) (c : ℕ) (cn : Conn) (command : Command) (q : Option Queue) (channels : List Bytes) → cn.queue ≡ q → IsShortCommand command → IsLimitedConn cn → AreLimited s.keys → Fits (serve_by at s c cn command q channels).1
serve_by_fits at s c cn command None [] e is l all = plain_fits at s c cn command is all
serve_by_fits at s c cn command (Some q) [] e is l all = let had = queue_is cn q e l in inside_fits at s c cn q command had.0 had.1
serve_by_fits at s c cn command None (x ∷ xs) e is l all = spoken_fits at s c cn command None (is_heard command) e is l all
serve_by_fits at s c cn command (Some q) (x ∷ xs) e is l all = spoken_fits at s c cn command (Some q) (is_heard command) e is l all

-- ---- a whole reply

message_fits : (v : Value) → IsMessage v → HasSpelling v
message_fits v m = subst HasSpelling (sym m.2) (three_fit (codes "message") m.0 m.1 (omega arith) m.3 m.4)

messages_fit : (vs : List Value) → All IsMessage vs → All HasSpelling vs
messages_fit [] all = All-nil HasSpelling
messages_fit (v ∷ vs) all = All-cons HasSpelling v vs (message_fits v (All-head IsMessage v vs all)) (messages_fit vs (All-tail IsMessage v vs all))

answer_fits : (at : ℕ) (s : State) (c : ℕ) (words : Words) → IsWithinLimits words → HasLimits s → has_counts (answer_to at s c words).1.answer ≡ true → ReplyFits (answer_to at s c words).1
unfolding answer_to
answer_fits at s c words fits h counted =
    let told = limited_told s c h in
    let now = quiet s c (conn s.conns c) (conn s.conns c).pending in
    let cn = conn now.conns c in (
      messages_fit (conn s.conns c).pending (h.conns c).pending,
      serve_by_fits at now c cn (command_of words) cn.queue cn.channels refl (command_short words (words_short words fits).1) (told.conns c) told.keys counted,
    )

-- each value of a reply fits
pub replies_fit : (s : State) (at c : ℕ) (words : Words) → HasLimits s → IsWithinLimits words → has_counts (apply_of s at c words).1.answer ≡ true → ReplyFits (apply_of s at c words).1
replies_fit s at c words h fits counted = answer_fits at (settled s at) c words fits (limited_settled s at h) counted
