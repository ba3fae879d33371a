-- A command alters only keys that it names, and a key that it doesn't tell of as altered holds what it held.
use Rattle.std.proofs.Common.{◌≡◌, ◌≢◌, ◌⊎◌, inl, inr, ℕ, zero, suc, List, [], ◌∷◌, ◌++◌, Bool, true, false, refl, sym, ap, subst, ◌∙◌, None, Some, Option}
use Rattle.std.specs.Prelude.{◌||◌, is_some, bytes_eq, ℤ, if◌then◌else◌, int_le, ◌&&◌}
use Rattle.std.specs.List.{list_any}
use Rattle.std.proofs.lemmas.List.Folds.{list_any-append}
use Rattle.std.specs.FinMap.{FinMap, get, insert, remove, empty}
use Rattle.wire_values.specs.Order.{bytes_cmp}
use Rattle.wire_values.specs.declared.value.Value.{Value}
use Rattle.store_tables.proofs.Maps.{bytes_total, bytes_anti}
use Rattle.store_model.specs.Words.{Bytes, front}
use Rattle.store_model.specs.Keys.{Keys, value_at, CommandOutcome, out, is_long, after_taking, dropped, expire}
use Rattle.store_model.specs.Texts.{until, set_text}
use Rattle.store_model.specs.Lists.{lpush, rpush, rpop, brpop, brpop_at, shortened}
use Rattle.store_model.specs.Sets.{sadd, srem, after_adding}
use Rattle.store_model.specs.Hashes.{hset, hset_to, hdel}
use Rattle.store_model.specs.SortedSets.{zadd, zadd_to, zadd_over, zrem}
use Rattle.store_model.specs.Commands.{Around, run, both}
use Rattle.store_model.specs.Connections.{Conns, hit, watches, around, posted}
use Rattle.store_model.specs.Store.{State, run_all, run_one, run_queue}
use Rattle.store_model.specs.declared.command.Command.{Command}
use Rattle.store_model.specs.declared.command.Command.TheVariants.{Lpush, Rpush, Rpop, Brpop, Zadd, Hset, Zrem, Hdel, Sadd, Srem, Set, Del, Expire}
use Rattle.store_model.specs.declared.held.Held.{Held}
use Rattle.store_model.specs.declared.held.Stored.{Stored}
use Rattle.store_model.specs.declared.held.Stored.TheVariants.{Items, Members, Hash, Scores}
use Rattle.store_laws.proofs.Maps.{get-insert_other, get-remove_other, get-remove_same, same_or, same-refl, same_false}

pub or_true : (a b : Bool) → b ≡ true → (a || b) ≡ true
or_true true b e = refl
or_true false b e = e

pub or_left : (a b : Bool) → a ≡ true → (a || b) ≡ true
or_left true b e = refl
or_left false b e = cc

-- the key is none of these
abbrev pub IsAway : Bytes → List Bytes → Type 0
IsAway k [] = Unit {0}
IsAway k (a ∷ ks) = (k ≢ a) × IsAway k ks

-- the altered keys have k, or k holds what it held
abbrev pub ToldBy : Keys → Bytes → List Bytes → Keys → Type 0
ToldBy m k ks m' = (hit ks (k ∷ []) ≡ true) ⊎ (get m' k ≡ get m k)

-- what a command that names these keys leaves
pub record Frame (m : Keys) (ks : List Bytes) (r : CommandOutcome) : Type 0 where
  pub told : (k : Bytes) → ToldBy m k r.altered r.keys
  pub away : (k : Bytes) → IsAway k ks → get r.keys k ≡ get m k

hit_one : (k : Bytes) (ks : List Bytes) → hit (k ∷ ks) (k ∷ []) ≡ true
hit_one k ks = or_left (bytes_eq k k || false) (hit ks (k ∷ [])) (or_left (bytes_eq k k) false (same-refl k))

pub told_here : (k a : Bytes) (ks : List Bytes) → k ≡ a → hit (a ∷ ks) (k ∷ []) ≡ true
told_here k a ks e = subst (λ x. hit (x ∷ ks) (k ∷ []) ≡ true) e (hit_one k ks)

still : (m : Keys) (ks : List Bytes) (x : Value) → Frame m ks (out m [] x)
still m ks x = record { told = λ k. inr refl; away = λ k n. refl }

inserted : (m : Keys) (a : Bytes) (v : Held) (x : Value) → Frame m (a ∷ []) (out (insert m a v) (a ∷ []) x)
inserted m a v x = record { told = λ k. go k (same_or k a); away = λ k n. get-insert_other bytes_cmp bytes_total bytes_anti m a v k n.0 }
  where
    go : (k : Bytes) → (k ≡ a) ⊎ (k ≢ a) → ToldBy m k (a ∷ []) (insert m a v)
    go k (inl e) = inl (told_here k a [] e)
    go k (inr n) = inr (get-insert_other bytes_cmp bytes_total bytes_anti m a v k n)

removed : (m : Keys) (a : Bytes) (x : Value) → Frame m (a ∷ []) (out (remove m a) (a ∷ []) x)
removed m a x = record { told = λ k. go k (same_or k a); away = λ k n. get-remove_other bytes_cmp bytes_total bytes_anti m a k n.0 }
  where
    go : (k : Bytes) → (k ≡ a) ⊎ (k ≢ a) → ToldBy m k (a ∷ []) (remove m a)
    go k (inl e) = inl (told_here k a [] e)
    go k (inr n) = inr (get-remove_other bytes_cmp bytes_total bytes_anti m a k n)

either : (m : Keys) (ks : List Bytes) (r s : CommandOutcome) (b : Bool) → Frame m ks r → Frame m ks s → Frame m ks (if b then r else s)
either m ks r s true f g = f
either m ks r s false f g = g

frame-shortened : (m : Keys) (a : Bytes) (xs : List Bytes) (x : Value) → Frame m (a ∷ []) (out (shortened m a xs) (a ∷ []) x)
frame-shortened m a [] x = removed m a x
frame-shortened m a (y ∷ ys) x = inserted m a _ x

frame-taking : (m : Keys) (a : Bytes) (v : Stored) (n p : ℕ) → Frame m (a ∷ []) (after_taking m a v n p)
frame-taking m a v n zero = still m _ _
frame-taking m a v zero (suc p) = removed m a _
frame-taking m a v (suc n) (suc p) = inserted m a _ _

frame-adding : (m : Keys) (a : Bytes) (h : FinMap bytes_cmp (Unit {0})) (n : ℕ) (b : Bool) → Frame m (a ∷ []) (after_adding m a h n b)
frame-adding m a h n false = still m _ _
frame-adding m a h zero true = still m _ _
frame-adding m a h (suc n) true = inserted m a _ _

more : (m : Keys) (a : Bytes) (ks : List Bytes) (r : CommandOutcome) → Frame m ks r → Frame m (a ∷ ks) r
more m a ks r f = record { told = f.told; away = λ k n. f.away k n.1 }

first : (m : Keys) (a : Bytes) (ks : List Bytes) (r : CommandOutcome) → Frame m (a ∷ []) r → Frame m (a ∷ ks) r
first m a ks r f = record { told = f.told; away = λ k n. f.away k (n.0, tt) }

frame-brpop : (m : Keys) (ks : List Bytes) → Frame m ks (brpop m ks)
frame-brpop m [] = still m _ _
frame-brpop m (a ∷ ks) = go (value_at m a) (frame-brpop m ks)
  where
    go : (o : Option Stored) → Frame m ks (brpop m ks) → Frame m (a ∷ ks) (brpop_at m a o (brpop m ks))
    go None later = more m a ks _ later
    go (Some (Items [])) later = more m a ks _ later
    go (Some (Items (x ∷ xs))) later = first m a ks _ (frame-shortened m a (front x xs) _)
    go (Some other) later = still m _ _

frame-rpop : (m : Keys) (a : Bytes) (o : Option Stored) → Frame m (a ∷ []) (rpop m a o)
frame-rpop m a None = still m _ _
frame-rpop m a (Some (Items [])) = still m _ _
frame-rpop m a (Some (Items (x ∷ xs))) = frame-shortened m a (front x xs) _
frame-rpop m a (Some other) = still m _ _

frame-lpush : (m : Keys) (a : Bytes) (vs : List Bytes) (o : Option Stored) → Frame m (a ∷ []) (lpush m a vs o)
frame-lpush m a vs None = inserted m a _ _
frame-lpush m a vs (Some (Items xs)) = inserted m a _ _
frame-lpush m a vs (Some other) = still m _ _

frame-rpush : (m : Keys) (a : Bytes) (vs : List Bytes) (o : Option Stored) → Frame m (a ∷ []) (rpush m a vs o)
frame-rpush m a vs None = inserted m a _ _
frame-rpush m a vs (Some (Items xs)) = inserted m a _ _
frame-rpush m a vs (Some other) = still m _ _

frame-zadd_over : (m : Keys) (a : Bytes) (s : ℤ) (x : Bytes) (h : FinMap bytes_cmp ℤ) (o : Option ℤ) → Frame m (a ∷ []) (zadd_over m a s x h o)
frame-zadd_over m a s x h None = inserted m a _ _
frame-zadd_over m a s x h (Some t) = either m (a ∷ []) _ _ (int_le s t && int_le t s) (still m _ _) (inserted m a _ _)

frame-zadd_to : (m : Keys) (a : Bytes) (s : ℤ) (x : Bytes) (h : FinMap bytes_cmp ℤ) → Frame m (a ∷ []) (zadd_to m a s x h)
frame-zadd_to m a s x h = either m (a ∷ []) _ _ (is_long x) (still m _ _) (frame-zadd_over m a s x h (get h x))

frame-zadd : (m : Keys) (a : Bytes) (s : ℤ) (x : Bytes) (o : Option Stored) → Frame m (a ∷ []) (zadd m a s x o)
frame-zadd m a s x None = frame-zadd_to m a s x empty
frame-zadd m a s x (Some (Scores h)) = frame-zadd_to m a s x h
frame-zadd m a s x (Some other) = still m _ _

frame-hset_to : (m : Keys) (a f v : Bytes) (h : FinMap bytes_cmp Bytes) → Frame m (a ∷ []) (hset_to m a f v h)
frame-hset_to m a f v h = either m (a ∷ []) _ _ (is_long f) (still m _ _) (inserted m a _ _)

frame-hset : (m : Keys) (a f v : Bytes) (o : Option Stored) → Frame m (a ∷ []) (hset m a f v o)
frame-hset m a f v None = frame-hset_to m a f v empty
frame-hset m a f v (Some (Hash h)) = frame-hset_to m a f v h
frame-hset m a f v (Some other) = still m _ _

frame-zrem : (m : Keys) (a : Bytes) (xs : List Bytes) (o : Option Stored) → Frame m (a ∷ []) (zrem m a xs o)
frame-zrem m a xs None = still m _ _
frame-zrem m a xs (Some (Scores h)) = frame-taking m a _ _ _
frame-zrem m a xs (Some other) = still m _ _

frame-hdel : (m : Keys) (a : Bytes) (xs : List Bytes) (o : Option Stored) → Frame m (a ∷ []) (hdel m a xs o)
frame-hdel m a xs None = still m _ _
frame-hdel m a xs (Some (Hash h)) = frame-taking m a _ _ _
frame-hdel m a xs (Some other) = still m _ _

frame-srem : (m : Keys) (a : Bytes) (xs : List Bytes) (o : Option Stored) → Frame m (a ∷ []) (srem m a xs o)
frame-srem m a xs None = still m _ _
frame-srem m a xs (Some (Members h)) = frame-taking m a _ _ _
frame-srem m a xs (Some other) = still m _ _

frame-sadd : (m : Keys) (a : Bytes) (xs : List Bytes) (o : Option Stored) → Frame m (a ∷ []) (sadd m a xs o)
frame-sadd m a xs None = frame-adding m a _ _ _
frame-sadd m a xs (Some (Members h)) = frame-adding m a _ _ _
frame-sadd m a xs (Some other) = still m _ _

frame-set : (m : Keys) (a v : Bytes) (e : Option ℕ) (b : Bool) → Frame m (a ∷ []) (set_text m a v e b)
frame-set m a v e true = still m _ _
frame-set m a v e false = inserted m a _ _

frame-expire : (m : Keys) (a : Bytes) (e : ℕ) (o : Option Held) → Frame m (a ∷ []) (expire m a e o)
frame-expire m a e None = still m _ _
frame-expire m a e (Some h) = inserted m a _ _

told-dropped : (m : Keys) (k : Bytes) (ks : List Bytes) → ToldBy m k (dropped m ks).1 (dropped m ks).0
told-dropped m k [] = inr refl
told-dropped m k (a ∷ ks) = go (get m a) refl (same_or k a) (told-dropped (remove m a) k ks)
  where
    go : (o : Option Held) → get m a ≡ o → (k ≡ a) ⊎ (k ≢ a) → ToldBy (remove m a) k (dropped (remove m a) ks).1 (dropped (remove m a) ks).0
        → ToldBy m k (if is_some o then a ∷ (dropped (remove m a) ks).1 else (dropped (remove m a) ks).1) (dropped (remove m a) ks).0
    go (Some h) was (inl e) later = inl (told_here k a _ e)
    go (Some h) was (inr n) (inl t) = inl (or_true (bytes_eq a k || false) _ t)
    go (Some h) was (inr n) (inr t) = inr (t ∙ get-remove_other bytes_cmp bytes_total bytes_anti m a k n)
    go None was e (inl t) = inl t
    go None was (inl e) (inr t) = inr (t ∙ ap (get (remove m a)) e ∙ get-remove_same bytes_cmp bytes_total bytes_anti m a ∙ sym (ap (get m) e ∙ was))
    go None was (inr n) (inr t) = inr (t ∙ get-remove_other bytes_cmp bytes_total bytes_anti m a k n)

away-dropped : (m : Keys) (k : Bytes) (ks : List Bytes) → IsAway k ks → get (dropped m ks).0 k ≡ get m k
away-dropped m k [] n = refl
away-dropped m k (a ∷ ks) n = away-dropped (remove m a) k ks n.1 ∙ get-remove_other bytes_cmp bytes_total bytes_anti m a k n.0

-- the keys that a command may alter
abbrev pub altering : Command → List Bytes
altering (Lpush k vs) = k ∷ []
altering (Rpush k vs) = k ∷ []
altering (Rpop k) = k ∷ []
altering (Brpop ks) = ks
altering (Zadd k s x) = k ∷ []
altering (Hset k f v) = k ∷ []
altering (Zrem k xs) = k ∷ []
altering (Hdel k fs) = k ∷ []
altering (Sadd k xs) = k ∷ []
altering (Srem k xs) = k ∷ []
altering (Set k v absent life) = k ∷ []
altering (Del ks) = ks
altering (Expire k s) = k ∷ []
altering other = []

pub framed : (e : Around) (m : Keys) (c : Command) → Frame m (altering c) (run e m c)
framed e m (Lpush a vs) = frame-lpush m a vs (value_at m a)
framed e m (Rpush a vs) = frame-rpush m a vs (value_at m a)
framed e m (Rpop a) = frame-rpop m a (value_at m a)
framed e m (Brpop ks) = frame-brpop m ks
framed e m (Zadd a s x) = frame-zadd m a s x (value_at m a)
framed e m (Hset a f v) = frame-hset m a f v (value_at m a)
framed e m (Zrem a xs) = frame-zrem m a xs (value_at m a)
framed e m (Hdel a xs) = frame-hdel m a xs (value_at m a)
framed e m (Sadd a xs) = frame-sadd m a xs (value_at m a)
framed e m (Srem a xs) = frame-srem m a xs (value_at m a)
framed e m (Set a v absent life) = frame-set m a v (until e.moment life) (both absent (is_some (get m a)))
framed e m (Del ks) = record { told = λ k. told-dropped m k ks; away = λ k n. away-dropped m k ks n }
framed e m (Expire a s) = frame-expire m a _ (get m a)
framed e m other = still m [] _

-- ---- commands in a row

pub hit-append : (xs ys ws : List Bytes) → hit (xs ++ ys) ws ≡ (hit xs ws || hit ys ws)
hit-append xs ys ws = list_any-append (λ k. watches k ws) xs ys

-- one change after another
pub told_then : (m m' m'' : Keys) (k : Bytes) (ks ks' : List Bytes) → ToldBy m k ks m' → ToldBy m' k ks' m'' → ToldBy m k (ks ++ ks') m''
told_then m m' m'' k ks ks' (inl a) b = inl (hit-append ks ks' (k ∷ []) ∙ or_left (hit ks (k ∷ [])) (hit ks' (k ∷ [])) a)
told_then m m' m'' k ks ks' (inr a) (inl b) = inl (hit-append ks ks' (k ∷ []) ∙ or_true (hit ks (k ∷ [])) (hit ks' (k ∷ [])) b)
told_then m m' m'' k ks ks' (inr a) (inr b) = inr (b ∙ a)

pub run_all_told : (at : ℕ) (m : Keys) (cs : Conns) (k : Bytes) (commands : List Command) → ToldBy m k (run_all at m cs commands).altered (run_all at m cs commands).keys
run_all_told at m cs k [] = inr refl
run_all_told at m cs k (c ∷ later) =
    told_then m (run (around at cs) m c).keys _ k (run (around at cs) m c).altered _ ((framed (around at cs) m c).told k) (run_all_told at (run (around at cs) m c).keys (posted c cs) k later)

-- none of the commands names the key
abbrev pub IsFar : Bytes → List Command → Type 0
IsFar k [] = Unit {0}
IsFar k (c ∷ later) = IsAway k (altering c) × IsFar k later

pub run_all_away : (at : ℕ) (m : Keys) (cs : Conns) (k : Bytes) (commands : List Command) → IsFar k commands → get (run_all at m cs commands).keys k ≡ get m k
run_all_away at m cs k [] far = refl
run_all_away at m cs k (c ∷ later) far = run_all_away at (run (around at cs) m c).keys (posted c cs) k later far.1 ∙ (framed (around at cs) m c).away k far.0

-- ---- a key that isn't among the altered ones

swapped : (a b : Bytes) → bytes_eq a b ≡ bytes_eq b a
swapped a b = go (same_or a b)
  where
    go : (a ≡ b) ⊎ (a ≢ b) → bytes_eq a b ≡ bytes_eq b a
    go (inl e) = λ i. bytes_eq (e i) (sym e i)
    go (inr n) = same_false a b n ∙ sym (same_false b a (λ e. n (sym e)))

or_false : (b : Bool) → (b || false) ≡ b
or_false true = refl
or_false false = refl

-- that one of the altered keys is watched, where k alone is watched, says that k is one of them
pub hit_alone : (k : Bytes) (ks : List Bytes) → hit ks (k ∷ []) ≡ list_any (bytes_eq k) ks
hit_alone k [] = refl
hit_alone k (a ∷ ks) = λ i. (or_false (bytes_eq a k) ∙ swapped a k) i || hit_alone k ks i

pub untold : (m m' : Keys) (k : Bytes) (ks : List Bytes) → ToldBy m k ks m' → list_any (bytes_eq k) ks ≡ false → get m' k ≡ get m k
untold m m' k ks (inl h) e = let x = hit_alone k ks in absurd (cc (h, e, x))
untold m m' k ks (inr g) e = g

pub run_kept : (e : Around) (m : Keys) (c : Command) (k : Bytes) → list_any (bytes_eq k) (run e m c).altered ≡ false → get (run e m c).keys k ≡ get m k
run_kept e m c k n = untold m _ k (run e m c).altered ((framed e m c).told k) n

pub run_all_kept : (at : ℕ) (m : Keys) (cs : Conns) (commands : List Command) (k : Bytes) → list_any (bytes_eq k) (run_all at m cs commands).altered ≡ false → get (run_all at m cs commands).keys k ≡ get m k
run_all_kept at m cs commands k n = untold m _ k (run_all at m cs commands).altered (run_all_told at m cs k commands) n

pub run_one_told : (at : ℕ) (s : State) (c : Command) (k : Bytes) → ToldBy s.keys k (run (around at s.conns) s.keys c).altered (run_one at s c).0.keys
run_one_told at s c k = (framed (around at s.conns) s.keys c).told k

pub run_queue_told : (at : ℕ) (s : State) (commands : List Command) (k : Bytes) → ToldBy s.keys k (run_all at s.keys s.conns commands).altered (run_queue at s commands).0.keys
run_queue_told at s commands k = run_all_told at s.keys s.conns k commands

-- that k is kept unless it is one of the altered keys, as told
pub told_from : (m m' : Keys) (k : Bytes) (ks : List Bytes) → (list_any (bytes_eq k) ks ≡ false → get m' k ≡ get m k) → ToldBy m k ks m'
told_from m m' k ks kept = go (hit ks (k ∷ [])) refl
  where
    go : (b : Bool) → hit ks (k ∷ []) ≡ b → ToldBy m k ks m'
    go true e = inl e
    go false e = inr (kept (sym (hit_alone k ks) ∙ e))
