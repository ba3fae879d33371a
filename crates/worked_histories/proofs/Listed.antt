-- A store over lists of entries, which computes: what its commands leave is what the store's commands leave.
use Rattle.std.proofs.Common.{◌≡◌, ℕ, ◌+◌, zero, suc, List, [], ◌∷◌, ◌++◌, Bool, true, false, cond, refl, sym, ap, ◌∙◌, None, Some, Option, ℤ, length, if◌then◌else◌}
use Rattle.std.specs.Prelude.{map, not, ◌&&◌, is_some, nat_le, take, drop, option_map, int_le}
use Rattle.std.specs.List.{list_any}
use Rattle.std.specs.declared.cmp.Ordering.{Ordering}
use Rattle.std.specs.declared.cmp.Ordering.TheVariants.{Less, Equal, Greater}
use Rattle.std.specs.Ordering.{eq_by_cmp}
use Rattle.std.specs.Cmp.{IsTotalOrder, eq_by_cmp_equiv}
use Rattle.std.specs.FinMap.{FinMap, get, insert, remove, retain_keys, empty, entries, from_entries, len, same_map, entries-insert, get-from_entries, get-remove, get-retain_keys, len-entries, len-empty, IsAntisymmetric}
use Rattle.std.specs.FinMap.Entries.{find, put, where_key, by_order, find-put, find-where_key}
use Rattle.wire_values.specs.Order.{bytes_cmp}
use Rattle.wire_values.specs.declared.value.Value.{Value}
use Rattle.wire_values.specs.declared.value.Value.TheVariants.{Bulk, NullBulk, NullArray}
use Rattle.store_tables.proofs.Maps.{bytes_total, bytes_anti}
use Rattle.store_model.specs.Words.{Bytes, front, final}
use Rattle.store_model.specs.Replies.{done, number, pair, wrong_type, full, bulk, bulks, pong}
use Rattle.store_model.specs.Keys.{Keys, value_at, value_of, expiry_of, CommandOutcome, out, is_long, taken_out, after_taking, dropped, is_over, is_expired}
use Rattle.store_model.specs.Keys as key
use Rattle.store_model.specs.Texts.{text_answer, until, set_text}
use Rattle.store_model.specs.Lists.{pushed_at_head, put_list, lpush, rpush, shortened, brpop_at, brpop}
use Rattle.store_model.specs.Sets.{put_in, after_adding, sadd_to, sadd, srem, members_answer}
use Rattle.store_model.specs.Hashes.{hset_to, hset, field_answer, hdel}
use Rattle.store_model.specs.SortedSets.{zadd_over, zadd_to, zadd, zrem, between, ranks_answer}
use Rattle.store_model.specs.Commands.{Around, both, run}
use Rattle.store_model.specs.declared.command.Command.{Command}
use Rattle.store_model.specs.declared.command.Command.TheVariants.{Ping, Get, Set, Del, Lpush, Rpush, Brpop, Sadd, Srem, Smembers, Hset, Hget, Hdel, Zadd, Zrem, Zrevrangebyscore}
use Rattle.store_model.specs.declared.held.Held.{Held}
use Rattle.store_model.specs.declared.held.Stored.{Stored}
use Rattle.store_model.specs.declared.held.Stored.TheVariants.{Text, Items, Members, Hash, Scores}

-- ---- lists of entries for maps; the first entry of a key counts

-- in the order of the keys, each once
abbrev pub in_order : {K X : Type 0} → (K → K → Ordering) → List (K × X) → List (K × X)
in_order R [] = []
in_order R (e ∷ es) = put R e.0 e.1 (in_order R es)

-- without a key
abbrev pub without_key : {K X : Type 0} → (K → K → Ordering) → List (K × X) → K → List (K × X)
without_key R es k = where_key R (λ x. not (eq_by_cmp R k x)) es

-- each value changed
abbrev pub changed : {K X Y : Type 0} → (X → Y) → List (K × X) → List (K × Y)
changed f [] = []
changed f (e ∷ es) = (e.0, f e.1) ∷ changed f es

no_entry : {A : Type 0} (es : List A) → length es ≡ 0 → es ≡ []
no_entry [] e = refl
no_entry (x ∷ es) e = cc e

turned : {A : Type 0} (b : Bool) (x y : A) → cond (not b) x y ≡ cond b y x
turned true x y = refl
turned false x y = refl

module _ {K : Type 0} {R : K → K → Ordering} (o : IsTotalOrder R) (anti : IsAntisymmetric R) where
  pub entries_are : {X : Type 0} (es : List (K × X)) → entries (from_entries {R = R} es) ≡ in_order R es
  entries_are {X = X} [] = no_entry (entries (empty {X = X} {R = R})) (sym (len-entries empty) ∙ len-empty R X)
  entries_are (e ∷ es) = entries-insert o (from_entries es) e.0 e.1 ∙ ap (put R e.0 e.1) (entries_are es)

  pub length_is : {X : Type 0} (es : List (K × X)) → len (from_entries {R = R} es) ≡ length (in_order R es)
  length_is es = len-entries (from_entries {R = R} es) ∙ ap length (entries_are es)

  pub get_is : {X : Type 0} (es : List (K × X)) (k : K) → get (from_entries {R = R} es) k ≡ find R k es
  get_is es k = get-from_entries o es k

  pub retained_is : {X : Type 0} (es : List (K × X)) (p : K → Bool) → retain_keys (from_entries {R = R} es) p ≡ from_entries (where_key R p es)
  retained_is es p = same_map o anti _ _ (λ q.
      get-retain_keys (from_entries {R = R} es) p q (λ x t. ap p (sym (anti q x t)))
      ∙ (ap (λ v. cond (p q) v None) (get_is es q)
      ∙ (sym (find-where_key R p q (λ x t. ap p (sym (anti q x t))) es) ∙ sym (get_is (where_key R p es) q))))

  pub removed_is : {X : Type 0} (es : List (K × X)) (k : K) → remove (from_entries {R = R} es) k ≡ from_entries (without_key R es k)
  removed_is es k = same_map o anti _ _ (λ q.
      get-remove o (from_entries {R = R} es) k q
      ∙ (ap (λ v. cond (eq_by_cmp R q k) None v) (get_is es q)
      ∙ (ap (λ b. cond b None (find R q es)) ((eq_by_cmp_equiv o).symm q k)
      ∙ (sym (turned (eq_by_cmp R k q) (find R q es) None)
      ∙ (sym (find-where_key R (λ x. not (eq_by_cmp R k x)) q (λ x t. ap (λ y. not (eq_by_cmp R k y)) (sym (anti q x t))) es)
      ∙ sym (get_is (without_key R es k) q))))))

  find_in_order : {X : Type 0} (es : List (K × X)) (q : K) → find R q (in_order R es) ≡ find R q es
  find_in_order [] q = refl
  find_in_order (e ∷ es) q = find-put R o q e.0 e.1 (in_order R es) ∙ ap (cond (eq_by_cmp R q e.0) (Some e.1)) (find_in_order es q)

  pub in_order_is : {X : Type 0} (es : List (K × X)) → from_entries {R = R} es ≡ from_entries (in_order R es)
  in_order_is es = same_map o anti _ _ (λ q. get_is es q ∙ (sym (find_in_order es q) ∙ sym (get_is (in_order R es) q)))

module _ {K X Y : Type 0} (R : K → K → Ordering) (f : X → Y) where
  pub find_changed : (q : K) (es : List (K × X)) → find R q (changed f es) ≡ option_map f (find R q es)
  find_changed q [] = refl
  find_changed q (e ∷ es) = by (eq_by_cmp R q e.0) (find_changed q es) where
    by : (b : Bool) → find R q (changed f es) ≡ option_map f (find R q es) → cond b (Some (f e.1)) (find R q (changed f es)) ≡ option_map f (cond b (Some e.1) (find R q es))
    by true h = refl
    by false h = h

  pub where_changed : (p : K → Bool) (es : List (K × X)) → where_key R p (changed f es) ≡ changed f (where_key R p es)
  where_changed p [] = refl
  where_changed p (e ∷ es) = by (p e.0) (where_changed p es) where
    by : (b : Bool) → where_key R p (changed f es) ≡ changed f (where_key R p es) → cond b ((e.0, f e.1) ∷ where_key R p (changed f es)) (where_key R p (changed f es)) ≡ changed f (cond b (e ∷ where_key R p es) (where_key R p es))
    by true h = ap (λ z. (e.0, f e.1) ∷ z) h
    by false h = h

  put_changed : (k : K) (v : X) (es : List (K × X)) → put R k (f v) (changed f es) ≡ changed f (put R k v es)
  put_changed k v [] = refl
  put_changed k v (e ∷ es) = by (R k e.0) (put_changed k v es) where
    by : (r : Ordering) → put R k (f v) (changed f es) ≡ changed f (put R k v es)
        → by_order r ((k, f v) ∷ (e.0, f e.1) ∷ changed f es) ((e.0, f v) ∷ changed f es) ((e.0, f e.1) ∷ put R k (f v) (changed f es)) ≡ changed f (by_order r ((k, v) ∷ e ∷ es) ((e.0, v) ∷ es) (e ∷ put R k v es))
    by Less h = refl
    by Equal h = refl
    by Greater h = ap (λ z. (e.0, f e.1) ∷ z) h

  pub order_changed : (es : List (K × X)) → in_order R (changed f es) ≡ changed f (in_order R es)
  order_changed [] = refl
  order_changed (e ∷ es) = ap (put R e.0 (f e.1)) (order_changed es) ∙ put_changed e.0 e.1 (in_order R es)

-- ---- what keys hold

pub data Kind : Type 0 where
  A_text : Bytes → Kind
  A_list : List Bytes → Kind
  A_set : List (Bytes × (Unit {0})) → Kind
  A_hash : List (Bytes × Bytes) → Kind
  Some_scores : List (Bytes × ℤ) → Kind

abbrev pub stored_of : Kind → Stored
stored_of (A_text v) = Text v
stored_of (A_list xs) = Items xs
stored_of (A_set h) = Members (from_entries h)
stored_of (A_hash h) = Hash (from_entries h)
stored_of (Some_scores h) = Scores (from_entries h)

pub record Cell : Type 0 where
  pub kind : Kind
  pub expiry : Option ℕ

abbrev pub held_of : Cell → Held
held_of c = record { value = stored_of c.kind; expiry = c.expiry }

abbrev pub Shelf : Type 0
Shelf = List (Bytes × Cell)

abbrev pub keys_of : Shelf → Keys
keys_of K = from_entries (changed held_of K)

abbrev pub kind_in : Option Cell → Option Kind
kind_in None = None
kind_in (Some c) = Some c.kind

abbrev pub expiry_in : Option Cell → Option ℕ
expiry_in None = None
expiry_in (Some c) = c.expiry

abbrev pub kind_at : Shelf → Bytes → Option Kind
kind_at K k = kind_in (find bytes_cmp k K)

pub held_is : (K : Shelf) (k : Bytes) → get (keys_of K) k ≡ option_map held_of (find bytes_cmp k K)
held_is K k = get_is bytes_total bytes_anti (changed held_of K) k ∙ find_changed bytes_cmp held_of k K

value_is : (K : Shelf) (k : Bytes) → value_at (keys_of K) k ≡ option_map stored_of (kind_at K k)
value_is K k = ap value_of (held_is K k) ∙ by (find bytes_cmp k K) where
  by : (o : Option Cell) → value_of (option_map held_of o) ≡ option_map stored_of (kind_in o)
  by None = refl
  by (Some c) = refl

there_is : (K : Shelf) (k : Bytes) → is_some (get (keys_of K) k) ≡ is_some (find bytes_cmp k K)
there_is K k = ap is_some (held_is K k) ∙ by (find bytes_cmp k K) where
  by : (o : Option Cell) → is_some (option_map held_of o) ≡ is_some o
  by None = refl
  by (Some c) = refl

abbrev pub put_to : Shelf → Bytes → Kind → Shelf
put_to K k v = (k, record { kind = v; expiry = expiry_in (find bytes_cmp k K) }) ∷ K

put_is : (K : Shelf) (k : Bytes) (v : Kind) → key.put (keys_of K) k (stored_of v) ≡ keys_of (put_to K k v)
put_is K k v = ap (λ e. insert (keys_of K) k (record { value = stored_of v; expiry = e })) (ap expiry_of (held_is K k) ∙ by (find bytes_cmp k K)) where
  by : (o : Option Cell) → expiry_of (option_map held_of o) ≡ expiry_in o
  by None = refl
  by (Some c) = refl

gone_is : (K : Shelf) (k : Bytes) → remove (keys_of K) k ≡ keys_of (without_key bytes_cmp K k)
gone_is K k = removed_is bytes_total bytes_anti (changed held_of K) k ∙ ap from_entries (where_changed bytes_cmp held_of (λ x. not (eq_by_cmp bytes_cmp k x)) K)

-- ---- what commands leave

pub record Left : Type 0 where
  pub keys : Shelf
  pub altered : List Bytes
  pub answer : Value

abbrev pub left : Shelf → List Bytes → Value → Left
left K ks a = record { keys = K; altered = ks; answer = a }

abbrev pub outcome_of : Left → CommandOutcome
outcome_of l = out (keys_of l.keys) l.altered l.answer

abbrev pub put_items : Shelf → Bytes → List Bytes → Left
put_items K k xs = left (put_to K k (A_list xs)) (k ∷ []) (number (length xs))

put_items_is : (K : Shelf) (k : Bytes) (xs : List Bytes) → put_list (keys_of K) k xs ≡ outcome_of (put_items K k xs)
put_items_is K k xs = ap (λ m. out m (k ∷ []) (number (length xs))) (put_is K k (A_list xs))

abbrev pub pushes_left : Shelf → Bytes → List Bytes → Option Kind → Left
pushes_left K k vs None = put_items K k (pushed_at_head vs [])
pushes_left K k vs (Some (A_list xs)) = put_items K k (pushed_at_head vs xs)
pushes_left K k vs (Some other) = left K [] wrong_type

pushes_left_is : (K : Shelf) (k : Bytes) (vs : List Bytes) (o : Option Kind) → lpush (keys_of K) k vs (option_map stored_of o) ≡ outcome_of (pushes_left K k vs o)
pushes_left_is K k vs None = put_items_is K k (pushed_at_head vs [])
pushes_left_is K k vs (Some (A_list xs)) = put_items_is K k (pushed_at_head vs xs)
pushes_left_is K k vs (Some (A_text v)) = refl
pushes_left_is K k vs (Some (A_set h)) = refl
pushes_left_is K k vs (Some (A_hash h)) = refl
pushes_left_is K k vs (Some (Some_scores h)) = refl

abbrev pub pushes_right : Shelf → Bytes → List Bytes → Option Kind → Left
pushes_right K k vs None = put_items K k vs
pushes_right K k vs (Some (A_list xs)) = put_items K k (xs ++ vs)
pushes_right K k vs (Some other) = left K [] wrong_type

pushes_right_is : (K : Shelf) (k : Bytes) (vs : List Bytes) (o : Option Kind) → rpush (keys_of K) k vs (option_map stored_of o) ≡ outcome_of (pushes_right K k vs o)
pushes_right_is K k vs None = put_items_is K k vs
pushes_right_is K k vs (Some (A_list xs)) = put_items_is K k (xs ++ vs)
pushes_right_is K k vs (Some (A_text v)) = refl
pushes_right_is K k vs (Some (A_set h)) = refl
pushes_right_is K k vs (Some (A_hash h)) = refl
pushes_right_is K k vs (Some (Some_scores h)) = refl

abbrev pub shorter : Shelf → Bytes → List Bytes → Shelf
shorter K k [] = without_key bytes_cmp K k
shorter K k (x ∷ xs) = put_to K k (A_list (x ∷ xs))

shorter_is : (K : Shelf) (k : Bytes) (xs : List Bytes) → shortened (keys_of K) k xs ≡ keys_of (shorter K k xs)
shorter_is K k [] = gone_is K k
shorter_is K k (x ∷ xs) = put_is K k (A_list (x ∷ xs))

abbrev pub pops_at : Shelf → Bytes → Option Kind → Left → Left
pops_at K k None later = later
pops_at K k (Some (A_list [])) later = later
pops_at K k (Some (A_list (x ∷ xs))) later = left (shorter K k (front x xs)) (k ∷ []) (pair k (final x xs))
pops_at K k (Some other) later = left K [] wrong_type

pops_at_is : (K : Shelf) (k : Bytes) (o : Option Kind) (later : Left) → brpop_at (keys_of K) k (option_map stored_of o) (outcome_of later) ≡ outcome_of (pops_at K k o later)
pops_at_is K k None later = refl
pops_at_is K k (Some (A_list [])) later = refl
pops_at_is K k (Some (A_list (x ∷ xs))) later = ap (λ m. out m (k ∷ []) (pair k (final x xs))) (shorter_is K k (front x xs))
pops_at_is K k (Some (A_text v)) later = refl
pops_at_is K k (Some (A_set h)) later = refl
pops_at_is K k (Some (A_hash h)) later = refl
pops_at_is K k (Some (Some_scores h)) later = refl

abbrev pub pops : Shelf → List Bytes → Left
pops K [] = left K [] NullArray
pops K (k ∷ ks) = pops_at K k (kind_at K k) (pops K ks)

pops_is : (K : Shelf) (ks : List Bytes) → brpop (keys_of K) ks ≡ outcome_of (pops K ks)
pops_is K [] = refl
pops_is K (k ∷ ks) = ap (brpop_at (keys_of K) k (value_at (keys_of K) k)) (pops_is K ks) ∙ (ap (λ o. brpop_at (keys_of K) k o (outcome_of (pops K ks))) (value_is K k) ∙ pops_at_is K k (kind_at K k) (pops K ks))

-- without these members, and how many were there
abbrev pub taken : {X : Type 0} → List (Bytes × X) → List Bytes → List (Bytes × X) × ℕ
taken h [] = (h, 0)
taken h (x ∷ xs) = let r = taken (without_key bytes_cmp h x) xs in (r.0, (if is_some (find bytes_cmp x h) then 1 else 0) + r.1)

taken_is : {X : Type 0} (h : List (Bytes × X)) (xs : List Bytes) → taken_out (from_entries {R = bytes_cmp} h) xs ≡ (from_entries (taken h xs).0, (taken h xs).1)
taken_is h [] = refl
taken_is h (x ∷ xs) =
    (λ i. let r = taken_out (removed_is bytes_total bytes_anti h x i) xs in (r.0, (if is_some (get_is bytes_total bytes_anti h x i) then 1 else 0) + r.1))
    ∙ ap (λ r. (r.0, (if is_some (find bytes_cmp x h) then 1 else 0) + r.1)) (taken_is (without_key bytes_cmp h x) xs)

abbrev pub kept_of : Shelf → Bytes → Kind → ℕ → Shelf
kept_of K k v zero = without_key bytes_cmp K k
kept_of K k v (suc n) = put_to K k v

kept_is : (K : Shelf) (k : Bytes) (v : Kind) (n : ℕ) → key.kept (keys_of K) k (stored_of v) n ≡ keys_of (kept_of K k v n)
kept_is K k v zero = gone_is K k
kept_is K k v (suc n) = put_is K k v

abbrev pub takes : Shelf → Bytes → Kind → ℕ → ℕ → Left
takes K k v n zero = left K [] (number 0)
takes K k v n (suc p) = left (kept_of K k v n) (k ∷ []) (number (suc p))

takes_is : (K : Shelf) (k : Bytes) (v : Kind) (n p : ℕ) → after_taking (keys_of K) k (stored_of v) n p ≡ outcome_of (takes K k v n p)
takes_is K k v n zero = refl
takes_is K k v n (suc p) = ap (λ m. out m (k ∷ []) (number (suc p))) (kept_is K k v n)

-- what is taken out of a set, a hash or a sorted set, by how it stands under its key
takes_from : {X : Type 0} (K : Shelf) (k : Bytes) (make : List (Bytes × X) → Kind) (made : FinMap bytes_cmp X → Stored) → ((h : List (Bytes × X)) → made (from_entries h) ≡ stored_of (make h)) → (h : List (Bytes × X)) (xs : List Bytes)
    → (let r = taken_out (from_entries {R = bytes_cmp} h) xs in after_taking (keys_of K) k (made r.0) (len r.0) r.1) ≡ outcome_of (takes K k (make (taken h xs).0) (length (in_order bytes_cmp (taken h xs).0)) (taken h xs).1)
takes_from K k make made same h xs =
    ap (λ r. after_taking (keys_of K) k (made r.0) (len r.0) r.1) (taken_is h xs)
    ∙ (ap (λ s. after_taking (keys_of K) k s (len (from_entries {R = bytes_cmp} (taken h xs).0)) (taken h xs).1) (same (taken h xs).0)
    ∙ (ap (λ n. after_taking (keys_of K) k (stored_of (make (taken h xs).0)) n (taken h xs).1) (length_is bytes_total bytes_anti (taken h xs).0)
    ∙ takes_is K k (make (taken h xs).0) (length (in_order bytes_cmp (taken h xs).0)) (taken h xs).1))

abbrev pub taking_from : {X : Type 0} → Shelf → Bytes → (List (Bytes × X) → Kind) → List (Bytes × X) → List Bytes → Left
taking_from K k make h xs = takes K k (make (taken h xs).0) (length (in_order bytes_cmp (taken h xs).0)) (taken h xs).1

-- ---- sets

abbrev pub joined_in : List (Bytes × (Unit {0})) → List Bytes → List (Bytes × (Unit {0})) × ℕ
joined_in h [] = (h, 0)
joined_in h (x ∷ xs) = let r = joined_in ((x, tt) ∷ h) xs in (r.0, (if is_some (find bytes_cmp x h) then 0 else 1) + r.1)

joined_is : (h : List (Bytes × (Unit {0}))) (xs : List Bytes) → put_in (from_entries h) xs ≡ (from_entries (joined_in h xs).0, (joined_in h xs).1)
joined_is h [] = refl
joined_is h (x ∷ xs) =
    ap (λ v. let r = put_in (from_entries ((x, tt) ∷ h)) xs in (r.0, (if is_some v then 0 else 1) + r.1)) (get_is bytes_total bytes_anti h x)
    ∙ ap (λ r. (r.0, (if is_some (find bytes_cmp x h) then 0 else 1) + r.1)) (joined_is ((x, tt) ∷ h) xs)

abbrev pub adds : Shelf → Bytes → List (Bytes × (Unit {0})) → ℕ → Bool → Left
adds K k h n false = left K [] full
adds K k h zero true = left K [] (number 0)
adds K k h (suc p) true = left (put_to K k (A_set h)) (k ∷ []) (number (suc p))

adds_is : (K : Shelf) (k : Bytes) (h : List (Bytes × (Unit {0}))) (n : ℕ) (b : Bool) → after_adding (keys_of K) k (from_entries h) n b ≡ outcome_of (adds K k h n b)
adds_is K k h n false = refl
adds_is K k h zero true = refl
adds_is K k h (suc p) true = ap (λ m. out m (k ∷ []) (number (suc p))) (put_is K k (A_set h))

abbrev pub adds_to : Shelf → Bytes → List Bytes → List (Bytes × (Unit {0})) → Left
adds_to K k xs h = let r = joined_in h xs in adds K k r.0 r.1 (not (list_any is_long xs) && nat_le (length (in_order bytes_cmp r.0)) 1024)

adds_to_is : (K : Shelf) (k : Bytes) (xs : List Bytes) (h : List (Bytes × (Unit {0}))) → sadd_to (keys_of K) k xs (from_entries h) ≡ outcome_of (adds_to K k xs h)
adds_to_is K k xs h =
    ap (λ r. after_adding (keys_of K) k r.0 r.1 (not (list_any is_long xs) && nat_le (len r.0) 1024)) (joined_is h xs)
    ∙ (ap (λ n. after_adding (keys_of K) k (from_entries (joined_in h xs).0) (joined_in h xs).1 (not (list_any is_long xs) && nat_le n 1024)) (length_is bytes_total bytes_anti (joined_in h xs).0)
    ∙ adds_is K k (joined_in h xs).0 (joined_in h xs).1 (not (list_any is_long xs) && nat_le (length (in_order bytes_cmp (joined_in h xs).0)) 1024))

abbrev pub set_adds : Shelf → Bytes → List Bytes → Option Kind → Left
set_adds K k xs None = adds_to K k xs []
set_adds K k xs (Some (A_set h)) = adds_to K k xs h
set_adds K k xs (Some other) = left K [] wrong_type

set_adds_is : (K : Shelf) (k : Bytes) (xs : List Bytes) (o : Option Kind) → sadd (keys_of K) k xs (option_map stored_of o) ≡ outcome_of (set_adds K k xs o)
set_adds_is K k xs None = adds_to_is K k xs []
set_adds_is K k xs (Some (A_set h)) = adds_to_is K k xs h
set_adds_is K k xs (Some (A_text v)) = refl
set_adds_is K k xs (Some (A_list v)) = refl
set_adds_is K k xs (Some (A_hash h)) = refl
set_adds_is K k xs (Some (Some_scores h)) = refl

abbrev pub set_takes : Shelf → Bytes → List Bytes → Option Kind → Left
set_takes K k xs None = left K [] (number 0)
set_takes K k xs (Some (A_set h)) = taking_from K k A_set h xs
set_takes K k xs (Some other) = left K [] wrong_type

set_takes_is : (K : Shelf) (k : Bytes) (xs : List Bytes) (o : Option Kind) → srem (keys_of K) k xs (option_map stored_of o) ≡ outcome_of (set_takes K k xs o)
set_takes_is K k xs None = refl
set_takes_is K k xs (Some (A_set h)) = takes_from K k A_set Members (λ g. refl) h xs
set_takes_is K k xs (Some (A_text v)) = refl
set_takes_is K k xs (Some (A_list v)) = refl
set_takes_is K k xs (Some (A_hash h)) = refl
set_takes_is K k xs (Some (Some_scores h)) = refl

abbrev pub firsts_of : {X : Type 0} → List (Bytes × X) → List Bytes
firsts_of es = map (λ e. e.0) es

abbrev pub set_told : Option Kind → Value
set_told None = bulks []
set_told (Some (A_set h)) = bulks (firsts_of (in_order bytes_cmp h))
set_told (Some other) = wrong_type

set_told_is : (o : Option Kind) → members_answer (option_map stored_of o) ≡ set_told o
set_told_is None = refl
set_told_is (Some (A_set h)) = ap (λ es. bulks (firsts_of es)) (entries_are bytes_total bytes_anti h)
set_told_is (Some (A_text v)) = refl
set_told_is (Some (A_list v)) = refl
set_told_is (Some (A_hash h)) = refl
set_told_is (Some (Some_scores h)) = refl

-- ---- hashes

abbrev pub sets_to : Shelf → Bytes → Bytes → Bytes → List (Bytes × Bytes) → Left
sets_to K k f v h = if is_long f then left K [] full else left (put_to K k (A_hash ((f, v) ∷ h))) (k ∷ []) (number (if is_some (find bytes_cmp f h) then 0 else 1))

sets_to_is : (K : Shelf) (k f v : Bytes) (h : List (Bytes × Bytes)) → hset_to (keys_of K) k f v (from_entries h) ≡ outcome_of (sets_to K k f v h)
sets_to_is K k f v h = by (is_long f) where
  by : (b : Bool) → (if b then out (keys_of K) [] full else out (key.put (keys_of K) k (Hash (insert (from_entries h) f v))) (k ∷ []) (number (if is_some (get (from_entries {R = bytes_cmp} h) f) then 0 else 1)))
      ≡ outcome_of (if b then left K [] full else left (put_to K k (A_hash ((f, v) ∷ h))) (k ∷ []) (number (if is_some (find bytes_cmp f h) then 0 else 1)))
  by true = refl
  by false = λ i. out (put_is K k (A_hash ((f, v) ∷ h)) i) (k ∷ []) (number (if is_some (get_is bytes_total bytes_anti h f i) then 0 else 1))

abbrev pub hash_sets : Shelf → Bytes → Bytes → Bytes → Option Kind → Left
hash_sets K k f v None = sets_to K k f v []
hash_sets K k f v (Some (A_hash h)) = sets_to K k f v h
hash_sets K k f v (Some other) = left K [] wrong_type

hash_sets_is : (K : Shelf) (k f v : Bytes) (o : Option Kind) → hset (keys_of K) k f v (option_map stored_of o) ≡ outcome_of (hash_sets K k f v o)
hash_sets_is K k f v None = sets_to_is K k f v []
hash_sets_is K k f v (Some (A_hash h)) = sets_to_is K k f v h
hash_sets_is K k f v (Some (A_text x)) = refl
hash_sets_is K k f v (Some (A_list x)) = refl
hash_sets_is K k f v (Some (A_set h)) = refl
hash_sets_is K k f v (Some (Some_scores h)) = refl

abbrev pub hash_told : Bytes → Option Kind → Value
hash_told f None = NullBulk
hash_told f (Some (A_hash h)) = bulk (find bytes_cmp f h)
hash_told f (Some other) = wrong_type

hash_told_is : (f : Bytes) (o : Option Kind) → field_answer f (option_map stored_of o) ≡ hash_told f o
hash_told_is f None = refl
hash_told_is f (Some (A_hash h)) = ap bulk (get_is bytes_total bytes_anti h f)
hash_told_is f (Some (A_text x)) = refl
hash_told_is f (Some (A_list x)) = refl
hash_told_is f (Some (A_set h)) = refl
hash_told_is f (Some (Some_scores h)) = refl

abbrev pub hash_takes : Shelf → Bytes → List Bytes → Option Kind → Left
hash_takes K k fs None = left K [] (number 0)
hash_takes K k fs (Some (A_hash h)) = taking_from K k A_hash h fs
hash_takes K k fs (Some other) = left K [] wrong_type

hash_takes_is : (K : Shelf) (k : Bytes) (fs : List Bytes) (o : Option Kind) → hdel (keys_of K) k fs (option_map stored_of o) ≡ outcome_of (hash_takes K k fs o)
hash_takes_is K k fs None = refl
hash_takes_is K k fs (Some (A_hash h)) = takes_from K k A_hash Hash (λ g. refl) h fs
hash_takes_is K k fs (Some (A_text x)) = refl
hash_takes_is K k fs (Some (A_list x)) = refl
hash_takes_is K k fs (Some (A_set h)) = refl
hash_takes_is K k fs (Some (Some_scores h)) = refl

-- ---- sorted sets

abbrev pub scores_over : Shelf → Bytes → ℤ → Bytes → List (Bytes × ℤ) → Option ℤ → Left
scores_over K k s x h None = left (put_to K k (Some_scores ((x, s) ∷ h))) (k ∷ []) (number 1)
scores_over K k s x h (Some t) = if int_le s t && int_le t s then left K [] (number 0) else left (put_to K k (Some_scores ((x, s) ∷ h))) (k ∷ []) (number 0)

scores_over_is : (K : Shelf) (k : Bytes) (s : ℤ) (x : Bytes) (h : List (Bytes × ℤ)) (o : Option ℤ) → zadd_over (keys_of K) k s x (from_entries h) o ≡ outcome_of (scores_over K k s x h o)
scores_over_is K k s x h None = ap (λ m. out m (k ∷ []) (number 1)) (put_is K k (Some_scores ((x, s) ∷ h)))
scores_over_is K k s x h (Some t) = by (int_le s t && int_le t s) where
  by : (b : Bool) → (if b then out (keys_of K) [] (number 0) else out (key.put (keys_of K) k (Scores (insert (from_entries h) x s))) (k ∷ []) (number 0))
      ≡ outcome_of (if b then left K [] (number 0) else left (put_to K k (Some_scores ((x, s) ∷ h))) (k ∷ []) (number 0))
  by true = refl
  by false = ap (λ m. out m (k ∷ []) (number 0)) (put_is K k (Some_scores ((x, s) ∷ h)))

abbrev pub scores_to : Shelf → Bytes → ℤ → Bytes → List (Bytes × ℤ) → Left
scores_to K k s x h = if is_long x then left K [] full else scores_over K k s x h (find bytes_cmp x h)

scores_to_is : (K : Shelf) (k : Bytes) (s : ℤ) (x : Bytes) (h : List (Bytes × ℤ)) → zadd_to (keys_of K) k s x (from_entries h) ≡ outcome_of (scores_to K k s x h)
scores_to_is K k s x h = by (is_long x) where
  by : (b : Bool) → (if b then out (keys_of K) [] full else zadd_over (keys_of K) k s x (from_entries h) (get (from_entries {R = bytes_cmp} h) x)) ≡ outcome_of (if b then left K [] full else scores_over K k s x h (find bytes_cmp x h))
  by true = refl
  by false = ap (zadd_over (keys_of K) k s x (from_entries h)) (get_is bytes_total bytes_anti h x) ∙ scores_over_is K k s x h (find bytes_cmp x h)

abbrev pub scores_add : Shelf → Bytes → ℤ → Bytes → Option Kind → Left
scores_add K k s x None = scores_to K k s x []
scores_add K k s x (Some (Some_scores h)) = scores_to K k s x h
scores_add K k s x (Some other) = left K [] wrong_type

scores_add_is : (K : Shelf) (k : Bytes) (s : ℤ) (x : Bytes) (o : Option Kind) → zadd (keys_of K) k s x (option_map stored_of o) ≡ outcome_of (scores_add K k s x o)
scores_add_is K k s x None = scores_to_is K k s x []
scores_add_is K k s x (Some (Some_scores h)) = scores_to_is K k s x h
scores_add_is K k s x (Some (A_text v)) = refl
scores_add_is K k s x (Some (A_list v)) = refl
scores_add_is K k s x (Some (A_set h)) = refl
scores_add_is K k s x (Some (A_hash h)) = refl

abbrev pub scores_take : Shelf → Bytes → List Bytes → Option Kind → Left
scores_take K k xs None = left K [] (number 0)
scores_take K k xs (Some (Some_scores h)) = taking_from K k Some_scores h xs
scores_take K k xs (Some other) = left K [] wrong_type

scores_take_is : (K : Shelf) (k : Bytes) (xs : List Bytes) (o : Option Kind) → zrem (keys_of K) k xs (option_map stored_of o) ≡ outcome_of (scores_take K k xs o)
scores_take_is K k xs None = refl
scores_take_is K k xs (Some (Some_scores h)) = takes_from K k Some_scores Scores (λ g. refl) h xs
scores_take_is K k xs (Some (A_text v)) = refl
scores_take_is K k xs (Some (A_list v)) = refl
scores_take_is K k xs (Some (A_set h)) = refl
scores_take_is K k xs (Some (A_hash h)) = refl

abbrev pub scores_told : ℤ → ℤ → ℕ → ℕ → Option Kind → Value
scores_told high low skip most None = bulks []
scores_told high low skip most (Some (Some_scores h)) = bulks (take 4096 (take most (drop skip (map (λ e. e.0) (between high low (in_order bytes_cmp h) [])))))
scores_told high low skip most (Some other) = wrong_type

scores_told_is : (high low : ℤ) (skip most : ℕ) (o : Option Kind) → ranks_answer high low skip most (option_map stored_of o) ≡ scores_told high low skip most o
scores_told_is high low skip most None = refl
scores_told_is high low skip most (Some (Some_scores h)) = ap (λ es. bulks (take 4096 (take most (drop skip (map (λ e. e.0) (between high low es [])))))) (entries_are bytes_total bytes_anti h)
scores_told_is high low skip most (Some (A_text v)) = refl
scores_told_is high low skip most (Some (A_list v)) = refl
scores_told_is high low skip most (Some (A_set h)) = refl
scores_told_is high low skip most (Some (A_hash h)) = refl

-- ---- texts and keys

abbrev pub text_told : Option Kind → Value
text_told None = NullBulk
text_told (Some (A_text v)) = Bulk v
text_told (Some other) = wrong_type

text_told_is : (o : Option Kind) → text_answer (option_map stored_of o) ≡ text_told o
text_told_is None = refl
text_told_is (Some (A_text v)) = refl
text_told_is (Some (A_list v)) = refl
text_told_is (Some (A_set h)) = refl
text_told_is (Some (A_hash h)) = refl
text_told_is (Some (Some_scores h)) = refl

abbrev pub text_sets : Shelf → Bytes → Bytes → Option ℕ → Bool → Left
text_sets K k v e true = left K [] NullBulk
text_sets K k v e false = left ((k, record { kind = A_text v; expiry = e }) ∷ K) (k ∷ []) done

text_sets_is : (K : Shelf) (k v : Bytes) (e : Option ℕ) (b : Bool) → set_text (keys_of K) k v e b ≡ outcome_of (text_sets K k v e b)
text_sets_is K k v e true = refl
text_sets_is K k v e false = refl

abbrev pub drops : Shelf → List Bytes → Shelf × List Bytes
drops K [] = (K, [])
drops K (k ∷ ks) = let r = drops (without_key bytes_cmp K k) ks in (r.0, (if is_some (find bytes_cmp k K) then k ∷ r.1 else r.1))

drops_is : (K : Shelf) (ks : List Bytes) → dropped (keys_of K) ks ≡ (keys_of (drops K ks).0, (drops K ks).1)
drops_is K [] = refl
drops_is K (k ∷ ks) =
    (λ i. let r = dropped (gone_is K k i) ks in (r.0, (if there_is K k i then k ∷ r.1 else r.1)))
    ∙ ap (λ r. (r.0, (if is_some (find bytes_cmp k K) then k ∷ r.1 else r.1))) (drops_is (without_key bytes_cmp K k) ks)

-- ---- a command

-- the commands that are done here
abbrev pub is_done : Command → Bool
is_done Ping = true
is_done (Get k) = true
is_done (Set k v absent life) = true
is_done (Del ks) = true
is_done (Lpush k vs) = true
is_done (Rpush k vs) = true
is_done (Brpop ks) = true
is_done (Sadd k xs) = true
is_done (Srem k xs) = true
is_done (Smembers k) = true
is_done (Hset k f v) = true
is_done (Hget k f) = true
is_done (Hdel k fs) = true
is_done (Zadd k s x) = true
is_done (Zrem k xs) = true
is_done (Zrevrangebyscore k high low skip most) = true
is_done other = false

abbrev pub does : ℕ → Shelf → Command → Left
does at K Ping = left K [] pong
does at K (Get k) = left K [] (text_told (kind_at K k))
does at K (Set k v absent life) = text_sets K k v (until at life) (both absent (is_some (find bytes_cmp k K)))
does at K (Del ks) = let r = drops K ks in left r.0 r.1 (number (length r.1))
does at K (Lpush k vs) = pushes_left K k vs (kind_at K k)
does at K (Rpush k vs) = pushes_right K k vs (kind_at K k)
does at K (Brpop ks) = pops K ks
does at K (Sadd k xs) = set_adds K k xs (kind_at K k)
does at K (Srem k xs) = set_takes K k xs (kind_at K k)
does at K (Smembers k) = left K [] (set_told (kind_at K k))
does at K (Hset k f v) = hash_sets K k f v (kind_at K k)
does at K (Hget k f) = left K [] (hash_told f (kind_at K k))
does at K (Hdel k fs) = hash_takes K k fs (kind_at K k)
does at K (Zadd k s x) = scores_add K k s x (kind_at K k)
does at K (Zrem k xs) = scores_take K k xs (kind_at K k)
does at K (Zrevrangebyscore k high low skip most) = left K [] (scores_told high low skip most (kind_at K k))
does at K other = left K [] NullBulk

pub does_is : (e : Around) (K : Shelf) (command : Command) → is_done command ≡ true → run e (keys_of K) command ≡ outcome_of (does e.moment K command)
does_is e K Ping h = refl
does_is e K (Get k) h = ap (out (keys_of K) []) (ap text_answer (value_is K k) ∙ text_told_is (kind_at K k))
does_is e K (Set k v absent life) h = ap (λ b. set_text (keys_of K) k v (until e.moment life) (both absent b)) (there_is K k) ∙ text_sets_is K k v (until e.moment life) (both absent (is_some (find bytes_cmp k K)))
does_is e K (Del ks) h = ap (λ r. out r.0 r.1 (number (length r.1))) (drops_is K ks)
does_is e K (Lpush k vs) h = ap (lpush (keys_of K) k vs) (value_is K k) ∙ pushes_left_is K k vs (kind_at K k)
does_is e K (Rpush k vs) h = ap (rpush (keys_of K) k vs) (value_is K k) ∙ pushes_right_is K k vs (kind_at K k)
does_is e K (Brpop ks) h = pops_is K ks
does_is e K (Sadd k xs) h = ap (sadd (keys_of K) k xs) (value_is K k) ∙ set_adds_is K k xs (kind_at K k)
does_is e K (Srem k xs) h = ap (srem (keys_of K) k xs) (value_is K k) ∙ set_takes_is K k xs (kind_at K k)
does_is e K (Smembers k) h = ap (out (keys_of K) []) (ap members_answer (value_is K k) ∙ set_told_is (kind_at K k))
does_is e K (Hset k f v) h = ap (hset (keys_of K) k f v) (value_is K k) ∙ hash_sets_is K k f v (kind_at K k)
does_is e K (Hget k f) h = ap (out (keys_of K) []) (ap (field_answer f) (value_is K k) ∙ hash_told_is f (kind_at K k))
does_is e K (Hdel k fs) h = ap (hdel (keys_of K) k fs) (value_is K k) ∙ hash_takes_is K k fs (kind_at K k)
does_is e K (Zadd k s x) h = ap (zadd (keys_of K) k s x) (value_is K k) ∙ scores_add_is K k s x (kind_at K k)
does_is e K (Zrem k xs) h = ap (zrem (keys_of K) k xs) (value_is K k) ∙ scores_take_is K k xs (kind_at K k)
does_is e K (Zrevrangebyscore k high low skip most) h = ap (out (keys_of K) []) (ap (ranks_answer high low skip most) (value_is K k) ∙ scores_told_is high low skip most (kind_at K k))
does_is e K other h = absurd (no_way h) where
  no_way : false ≡ true → ⊥
  no_way e = cc e
