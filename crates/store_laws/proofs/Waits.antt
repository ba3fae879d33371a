-- A command would wait exactly where it is a lawful BRPOP that would answer the null array.
use Rattle.std.proofs.Common.{◌≡◌, ◌≢◌, ℕ, List, [], ◌∷◌, map, codes, Bool, true, false, refl, sym, ap, subst, ◌∙◌, None, Some, Option}
use Rattle.std.specs.Prelude.{◌&&◌, ◌||◌, ◌↔◌, ℤ, not, bytes_eq, if◌then◌else◌}
use Rattle.std.specs.List.{list_any}
use Rattle.std.specs.FinMap.{get}
use Rattle.numerals.specs.Integers.{integer_of, natural_of}
use Rattle.wire_values.specs.declared.value.Value.TheVariants.{NullArray}
use Rattle.store_model.specs.Seconds.{seconds_of}
use Rattle.store_model.specs.Words.{Bytes, Words, front, final, upper_byte, faulty, bare, with_one, with_two, with_three, with_some, with_rest, select_of, lasting, set_of, expire_of, brpop_until, brpop_of, zadd_of, range_of, zrevrangebyscore_of, or_else, key_command, list_command, set_command, hash_command, sorted_set_command, transaction_command, connection_command, known, named, command_of}
use Rattle.store_model.specs.Keys.{Keys, value_of, value_at, is_expired, live_at}
use Rattle.store_model.specs.Lists.{brpop, brpop_at}
use Rattle.store_model.specs.Store.{State, is_live, finds, ready_of}
use Rattle.store_model.specs.declared.command.Command.{Command}
use Rattle.store_model.specs.declared.command.Command.TheVariants.{Ping, Get, Del, Lpush, Rpush, Rpop, Brpop, Llen, Hlen, Zcard, Sadd, Srem, Smembers, Hset, Hget, Hdel, Zrem, Watch, Unwatch, Multi, Exec, Discard, Publish, Subscribe, Unsubscribe}
use Rattle.store_model.specs.declared.command.Fault.{Fault}
use Rattle.store_model.specs.declared.command.Fault.TheVariants.{Arity, Integer}
use Rattle.store_model.specs.declared.held.Held.{Held}
use Rattle.store_model.specs.declared.held.Stored.{Stored}
use Rattle.store_model.specs.declared.held.Stored.TheVariants.{Items}
use Rattle.store_laws.specs.StoreLimits.{IsLimited, AreLimited, HasLimits, WouldWait}
use Rattle.store_laws.proofs.Maps.{same_true}
use Rattle.store_laws.proofs.Settled.{get-live_at}
use Rattle.store_laws.proofs.StepsLimited.{limited_settled}

-- ---- which words spell BRPOP

abbrev is_pop : Command → Bool
is_pop (Brpop ks) = true
is_pop other = false

abbrev NoPop : Command → Type 0
NoPop c = is_pop c ≡ false

abbrev NoPopOr : Option Command → Type 0
NoPopOr None = Unit {0}
NoPopOr (Some c) = NoPop c

either : (b : Bool) (x y : Option Command) → NoPopOr x → NoPopOr y → NoPopOr (if b then x else y)
either true x y a b = a
either false x y a b = b

one_of : (b : Bool) (x y : Command) → NoPop x → NoPop y → NoPop (if b then x else y)
one_of true x y a b = a
one_of false x y a b = b

or_no : (x y : Option Command) → NoPopOr x → NoPopOr y → NoPopOr (or_else x y)
or_no None y a b = b
or_no (Some c) y a b = a

known_no : (x : Option Command) → NoPopOr x → NoPop (known x)
known_no None a = refl
known_no (Some c) a = a

bare_no : (heard : Bool) (c : Command) (args : Words) → NoPop c → NoPop (bare heard c args)
bare_no heard c [] s = s
bare_no heard c (x ∷ xs) s = refl

one_no : (heard : Bool) (f : Bytes → Command) (args : Words) → ((x : Bytes) → NoPop (f x)) → NoPop (with_one heard f args)
one_no heard f [] g = refl
one_no heard f (x ∷ []) g = g x
one_no heard f (x ∷ y ∷ ys) g = refl

two_no : (f : Bytes → Bytes → Command) (args : Words) → ((x y : Bytes) → NoPop (f x y)) → NoPop (with_two f args)
two_no f [] g = refl
two_no f (x ∷ []) g = refl
two_no f (x ∷ y ∷ []) g = g x y
two_no f (x ∷ y ∷ z ∷ zs) g = refl

three_no : (f : Bytes → Bytes → Bytes → Command) (args : Words) → ((x y z : Bytes) → NoPop (f x y z)) → NoPop (with_three f args)
three_no f [] g = refl
three_no f (x ∷ []) g = refl
three_no f (x ∷ y ∷ []) g = refl
three_no f (x ∷ y ∷ z ∷ []) g = g x y z
three_no f (x ∷ y ∷ z ∷ w ∷ ws) g = refl

some_no : (f : List Bytes → Command) (args : Words) → ((xs : List Bytes) → NoPop (f xs)) → NoPop (with_some f args)
some_no f [] g = refl
some_no f (x ∷ xs) g = g (x ∷ xs)

rest_no : (f : Bytes → List Bytes → Command) (args : Words) → ((k : Bytes) (xs : List Bytes) → NoPop (f k xs)) → NoPop (with_rest f args)
rest_no f [] g = refl
rest_no f (k ∷ []) g = refl
rest_no f (k ∷ x ∷ xs) g = g k (x ∷ xs)

lasting_no : (k v : Bytes) (absent : Bool) (o : Option ℕ) → NoPop (lasting k v absent o)
lasting_no k v absent None = refl
lasting_no k v absent (Some n) = refl

set_no : (args : Words) → NoPop (set_of args)
set_no [] = refl
set_no (k ∷ []) = refl
set_no (k ∷ v ∷ []) = refl
set_no (k ∷ v ∷ a ∷ []) = one_of (bytes_eq a (codes "NX")) _ _ refl refl
set_no (k ∷ v ∷ a ∷ s ∷ []) = one_of (bytes_eq a (codes "EX")) _ _ (lasting_no k v false (seconds_of s)) refl
set_no (k ∷ v ∷ a ∷ b ∷ s ∷ []) = one_of (bytes_eq a (codes "NX") && bytes_eq b (codes "EX")) _ _ (lasting_no k v true (seconds_of s)) refl
set_no (k ∷ v ∷ a ∷ b ∷ s ∷ x ∷ xs) = refl

expire_no : (k : Bytes) (o : Option ℕ) → NoPop (expire_of k o)
expire_no k None = refl
expire_no k (Some n) = refl

zadd_no : (k x : Bytes) (o : Option ℤ) → NoPop (zadd_of k x o)
zadd_no k x None = refl
zadd_no k x (Some n) = refl

range_no : (k : Bytes) (high low : Option ℤ) (skip most : Option ℕ) → NoPop (range_of k high low skip most)
range_no k None low skip most = refl
range_no k (Some h) None skip most = refl
range_no k (Some h) (Some l) None most = refl
range_no k (Some h) (Some l) (Some s) None = refl
range_no k (Some h) (Some l) (Some s) (Some m) = refl

ranges_no : (args : Words) → NoPop (zrevrangebyscore_of args)
ranges_no [] = refl
ranges_no (k ∷ []) = refl
ranges_no (k ∷ h ∷ []) = refl
ranges_no (k ∷ h ∷ l ∷ []) = range_no k (integer_of h) (integer_of l) (Some 0) (Some 4096)
ranges_no (k ∷ h ∷ l ∷ a ∷ []) = refl
ranges_no (k ∷ h ∷ l ∷ a ∷ b ∷ []) = refl
ranges_no (k ∷ h ∷ l ∷ a ∷ o ∷ n ∷ []) = one_of (bytes_eq a (codes "LIMIT")) _ _ (range_no k (integer_of h) (integer_of l) (natural_of o) (natural_of n)) refl
ranges_no (k ∷ h ∷ l ∷ a ∷ o ∷ n ∷ x ∷ xs) = refl

select_no : (o : Option ℤ) → NoPop (select_of o)
select_no None = refl
select_no (Some n) = refl

key_no : (name : Bytes) (args : Words) → NoPopOr (key_command name args)
key_no name args =
    either (bytes_eq name (codes "GET")) _ _ (one_no false Get args (λ x. refl))
    (either (bytes_eq name (codes "SET")) _ _ (set_no args)
    (either (bytes_eq name (codes "DEL")) _ _ (some_no Del args (λ xs. refl))
    (either (bytes_eq name (codes "EXPIRE")) _ _ (two_no (λ k s. expire_of k (seconds_of s)) args (λ k s. expire_no k (seconds_of s))) tt)))

list_no : (name : Bytes) (args : Words) → bytes_eq name (codes "BRPOP") ≡ false → NoPopOr (list_command name args)
list_no name args other =
    either (bytes_eq name (codes "LPUSH")) _ _ (rest_no Lpush args (λ k xs. refl))
    (either (bytes_eq name (codes "RPUSH")) _ _ (rest_no Rpush args (λ k xs. refl))
    (either (bytes_eq name (codes "RPOP")) _ _ (one_no false Rpop args (λ x. refl))
    (by (bytes_eq name (codes "BRPOP")) other
    (either (bytes_eq name (codes "LLEN")) _ _ (one_no false Llen args (λ x. refl)) tt))))
  where
    by : (b : Bool) → b ≡ false → NoPopOr (if bytes_eq name (codes "LLEN") then Some (with_one false Llen args) else None) → NoPopOr (if b then Some (brpop_of args) else (if bytes_eq name (codes "LLEN") then Some (with_one false Llen args) else None))
    by true e rest = absurd (cc e)
    by false e rest = rest

sets_no : (name : Bytes) (args : Words) → NoPopOr (set_command name args)
sets_no name args =
    either (bytes_eq name (codes "SADD")) _ _ (rest_no Sadd args (λ k xs. refl))
    (either (bytes_eq name (codes "SREM")) _ _ (rest_no Srem args (λ k xs. refl))
    (either (bytes_eq name (codes "SMEMBERS")) _ _ (one_no false Smembers args (λ x. refl)) tt))

hash_no : (name : Bytes) (args : Words) → NoPopOr (hash_command name args)
hash_no name args =
    either (bytes_eq name (codes "HSET")) _ _ (three_no Hset args (λ k f v. refl))
    (either (bytes_eq name (codes "HGET")) _ _ (two_no Hget args (λ k f. refl))
    (either (bytes_eq name (codes "HDEL")) _ _ (rest_no Hdel args (λ k xs. refl))
    (either (bytes_eq name (codes "HLEN")) _ _ (one_no false Hlen args (λ x. refl)) tt)))

scores_no : (name : Bytes) (args : Words) → NoPopOr (sorted_set_command name args)
scores_no name args =
    either (bytes_eq name (codes "ZADD")) _ _ (three_no (λ k s x. zadd_of k x (integer_of s)) args (λ k s x. zadd_no k x (integer_of s)))
    (either (bytes_eq name (codes "ZREM")) _ _ (rest_no Zrem args (λ k xs. refl))
    (either (bytes_eq name (codes "ZCARD")) _ _ (one_no false Zcard args (λ x. refl))
    (either (bytes_eq name (codes "ZREVRANGEBYSCORE")) _ _ (ranges_no args) tt)))

transactions_no : (name : Bytes) (args : Words) → NoPopOr (transaction_command name args)
transactions_no name args =
    either (bytes_eq name (codes "WATCH")) _ _ (some_no Watch args (λ xs. refl))
    (either (bytes_eq name (codes "UNWATCH")) _ _ (bare_no false Unwatch args refl)
    (either (bytes_eq name (codes "MULTI")) _ _ (bare_no false Multi args refl)
    (either (bytes_eq name (codes "EXEC")) _ _ (bare_no false Exec args refl)
    (either (bytes_eq name (codes "DISCARD")) _ _ (bare_no false Discard args refl) tt))))

connections_no : (name : Bytes) (args : Words) → NoPopOr (connection_command name args)
connections_no name args =
    either (bytes_eq name (codes "PING")) _ _ (bare_no true Ping args refl)
    (either (bytes_eq name (codes "SELECT")) _ _ (one_no false (λ n. select_of (integer_of n)) args (λ x. select_no (integer_of x)))
    (either (bytes_eq name (codes "PUBLISH")) _ _ (two_no Publish args (λ c x. refl))
    (either (bytes_eq name (codes "SUBSCRIBE")) _ _ (one_no true Subscribe args (λ x. refl))
    (either (bytes_eq name (codes "UNSUBSCRIBE")) _ _ (one_no true Unsubscribe args (λ x. refl)) tt))))

-- another name spells another command
other_name : (name : Bytes) (args : Words) → bytes_eq name (codes "BRPOP") ≡ false → NoPop (named name args)
other_name name args other =
    known_no _
    (or_no (key_command name args) _ (key_no name args)
    (or_no (list_command name args) _ (list_no name args other)
    (or_no (set_command name args) _ (sets_no name args)
    (or_no (hash_command name args) _ (hash_no name args)
    (or_no (sorted_set_command name args) _ (scores_no name args)
    (or_no (transaction_command name args) (connection_command name args) (transactions_no name args) (connections_no name args)))))))

-- and this one spells BRPOP
this_name : (name : Bytes) (args : Words) → bytes_eq name (codes "BRPOP") ≡ true → named name args ≡ brpop_of args
this_name name args e = ap (λ n. named n args) (same_true name (codes "BRPOP") e)

-- BRPOP is faulty, or has its keys
data PopShape (args : Words) : Type 0 where
  lawful : (ks : List Bytes) → brpop_of args ≡ Brpop ks → PopShape args
  not_lawful : (fault : Fault) → brpop_of args ≡ faulty fault → PopShape args

pop_shape : (args : Words) → PopShape args
pop_shape [] = not_lawful Arity refl
pop_shape (k ∷ []) = not_lawful Arity refl
pop_shape (k ∷ x ∷ xs) = go (natural_of (final x xs)) refl
  where
    go : (o : Option ℕ) → natural_of (final x xs) ≡ o → PopShape (k ∷ x ∷ xs)
    go None e = not_lawful Integer (ap (brpop_until (k ∷ front x xs)) e)
    go (Some n) e = lawful (k ∷ front x xs) (ap (brpop_until (k ∷ front x xs)) e)

-- ---- what the keys hold

live_there : (at : ℕ) (m : Keys) (k : Bytes) → is_live at (get m k) ≡ true → (h : Held) × (get (live_at at m) k ≡ Some h)
live_there at m k e = go (get m k) refl e
  where
    go : (o : Option Held) → get m k ≡ o → is_live at o ≡ true → (h : Held) × (get (live_at at m) k ≡ Some h)
    go None was f = absurd (cc f)
    go (Some h) was f = by (is_expired at (Some h)) refl f
      where
        by : (b : Bool) → is_expired at (Some h) ≡ b → not b ≡ true → (g : Held) × (get (live_at at m) k ≡ Some g)
        by true x y = absurd (cc y)
        by false x y = (h, get-live_at at m k ∙ ap (λ o. if is_expired at o then None else o) was ∙ ap (λ b. if b then None else Some h) x)

live_gone : (at : ℕ) (m : Keys) (k : Bytes) → is_live at (get m k) ≡ false → get (live_at at m) k ≡ None
live_gone at m k e = get-live_at at m k ∙ go (get m k) e
  where
    go : (o : Option Held) → is_live at o ≡ false → (if is_expired at o then None else o) ≡ None
    go None f = refl
    go (Some h) f = by (is_expired at (Some h)) f
      where
        by : (b : Bool) → not b ≡ false → (if b then None else Some h) ≡ None
        by true x = refl
        by false x = absurd (cc x)

-- the first key that is there gives an element, or is of another kind
present_answers : (m : Keys) (k : Bytes) (ks : List Bytes) (v : Stored) → IsLimited v → value_at m k ≡ Some v → (brpop m (k ∷ ks)).answer ≢ NullArray
present_answers m k ks v is was e = go v is (sym (ap (λ o. (brpop_at m k o (brpop m ks)).answer) was) ∙ e)
  where
    go : (w : Stored) → IsLimited w → (brpop_at m k (Some w) (brpop m ks)).answer ≡ NullArray → ⊥
    go (Items []) l f = l.0 refl
    go (Items (x ∷ xs)) l f = cc f
    go other l f = cc f

absent_answers : (m : Keys) (k : Bytes) (ks : List Bytes) → get m k ≡ None → (brpop m (k ∷ ks)).answer ≡ (brpop m ks).answer
absent_answers m k ks e = ap (λ o. (brpop_at m k (value_of o) (brpop m ks)).answer) e

-- no key is there exactly where BRPOP answers the null array
waits : (at : ℕ) (m : Keys) (ks : List Bytes) → AreLimited (live_at at m) → list_any (λ k. is_live at (get m k)) ks ≡ false → (brpop (live_at at m) ks).answer ≡ NullArray
waits at m [] all e = refl
waits at m (k ∷ ks) all e = go (is_live at (get m k)) refl e (waits at m ks all)
  where
    go : (b : Bool) → is_live at (get m k) ≡ b → (b || list_any (λ x. is_live at (get m x)) ks) ≡ false → (list_any (λ x. is_live at (get m x)) ks ≡ false → (brpop (live_at at m) ks).answer ≡ NullArray) → (brpop (live_at at m) (k ∷ ks)).answer ≡ NullArray
    go true x f later = absurd (cc f)
    go false x f later = absent_answers (live_at at m) k ks (live_gone at m k x) ∙ later f

finds_one : (at : ℕ) (m : Keys) (ks : List Bytes) → AreLimited (live_at at m) → (brpop (live_at at m) ks).answer ≡ NullArray → list_any (λ k. is_live at (get m k)) ks ≡ false
finds_one at m [] all e = refl
finds_one at m (k ∷ ks) all e = go (is_live at (get m k)) refl (finds_one at m ks all)
  where
    go : (b : Bool) → is_live at (get m k) ≡ b → ((brpop (live_at at m) ks).answer ≡ NullArray → list_any (λ x. is_live at (get m x)) ks ≡ false) → (b || list_any (λ x. is_live at (get m x)) ks) ≡ false
    go true x later = let h = live_there at m k x in absurd (present_answers (live_at at m) k ks h.0.value (all k h.0 h.1).1 (ap value_of h.1) e)
    go false x later = later (sym (absent_answers (live_at at m) k ks (live_gone at m k x)) ∙ e)

-- ---- the words

pop_keys_are : (ks ls : List Bytes) → Brpop ks ≡ Brpop ls → ks ≡ ls
pop_keys_are ks ls e = cc e

module _ (s : State) (at : ℕ) (name : Bytes) (args : Words) (h : HasLimits s) where
  all : AreLimited (live_at at s.keys)
  all = (limited_settled s at h).keys

  spells : (b : Bool) → bytes_eq (map upper_byte name) (codes "BRPOP") ≡ b → ((if b then finds at s.keys (brpop_of args) else true) ≡ false) ↔ ((ks : List Bytes) × (named (map upper_byte name) args ≡ Brpop ks) × ((brpop (live_at at s.keys) ks).answer ≡ NullArray))
  spells false e = (λ f. absurd (cc f), λ w. let no = other_name (map upper_byte name) args e in let yes : is_pop (named (map upper_byte name) args) ≡ true = ap is_pop w.1 in absurd (cc (no, yes)))
  spells true e = by (pop_shape args)
    where
      by : PopShape args → (finds at s.keys (brpop_of args) ≡ false) ↔ ((ks : List Bytes) × (named (map upper_byte name) args ≡ Brpop ks) × ((brpop (live_at at s.keys) ks).answer ≡ NullArray))
      by (lawful ks is) = (
        λ f. (ks, this_name (map upper_byte name) args e ∙ is, waits at s.keys ks all (sym (ap (finds at s.keys) is) ∙ f)),
        λ w.
            let same : ks ≡ w.0 = pop_keys_are ks w.0 (sym is ∙ sym (this_name (map upper_byte name) args e) ∙ w.1) in
            ap (finds at s.keys) is ∙ finds_one at s.keys ks all (subst (λ l. (brpop (live_at at s.keys) l).answer ≡ NullArray) (sym same) w.2),
      )
      by (not_lawful fault is) = (
        λ f. let t : finds at s.keys (brpop_of args) ≡ true = ap (finds at s.keys) is in absurd (cc (t, f)),
        λ w. let no : faulty fault ≡ Brpop w.0 = sym is ∙ sym (this_name (map upper_byte name) args e) ∙ w.1 in absurd (cc no),
      )

-- it is ready unless it would wait
pub ready_waits : (s : State) (at : ℕ) (words : Words) → HasLimits s → (ready_of s at words ≡ false) ↔ WouldWait s at words
unfolding command_of
ready_waits s at [] h = (λ f. absurd (cc f), λ w. absurd (cc (w.1)))
ready_waits s at (name ∷ args) h = spells s at name args h (bytes_eq (map upper_byte name) (codes "BRPOP")) refl
