-- What is left of a set, hash or sorted set after members were taken out or put in.
use Rattle.std.proofs.Common.{◌≡◌, ℕ, zero, suc, ◌+◌, ◌<◌, List, [], ◌∷◌, Bool, true, false, cond, refl, sym, ap, subst, ◌∙◌, None, Some, Option, length, nat_eq, ℤ, arith, IfOk, Result}
use Rattle.std.specs.Prelude.{is_some, not}
use Rattle.std.specs.declared.alloc.AllocError.{AllocError}
use Rattle.std.proofs.lemmas.Result.{IfOk-weaker}
use Rattle.std.specs.FinMap.{FinMap, get, insert, remove, empty, len, get-empty}
use Rattle.wire_values.specs.Order.{bytes_cmp}
use Rattle.store_tables.proofs.Maps.{bytes_total, bytes_anti}
use Rattle.store_tables.proofs.Lookups.{insert_same, remove_same, remove-insert}
use Rattle.store_model.specs.Words.{Bytes}
use Rattle.store_model.specs.Replies.{number}
use Rattle.store_model.specs.Keys.{Keys, put, out, taken_out, kept, after_taking}
use Rattle.store_model.specs.Sets.{members_at, srem, sadd, sadd_to, put_in}
use Rattle.store_model.specs.Hashes.{hash_at, hdel, hset, hset_to}
use Rattle.store_model.specs.SortedSets.{scores_at, zadd, zadd_to, zrem}
use Rattle.store_keys.specs.declared.effect.Effect.{Effect}
use Rattle.store_model.specs.declared.held.Stored.{Stored}
use Rattle.store_model.specs.declared.held.Stored.TheVariants.{Text, Items, Members, Hash, Scores}
use Rattle.store_keys.proofs.Rooms.{same_some}

-- where none was there, nothing is taken out
pub taken_none : {X : Type 0} (h : FinMap bytes_cmp X) (xs : List Bytes) → (taken_out h xs).1 ≡ 0 → (taken_out h xs).0 ≡ h
taken_none h [] e = refl
taken_none {X = X} h (x ∷ xs) e = go (get h x) refl e (taken_none (remove h x) xs)
  where
    go : (o : Option X) → get h x ≡ o → cond (is_some o) 1 0 + (taken_out (remove h x) xs).1 ≡ 0 → ((taken_out (remove h x) xs).1 ≡ 0 → (taken_out (remove h x) xs).0 ≡ remove h x) → (taken_out (remove h x) xs).0 ≡ h
    go (Some v) was n later = absurd (omega (arith, n))
    go None was n later = later (omega (arith, n)) ∙ remove_same bytes_total bytes_anti h x was

pub taken_empty : {X : Type 0} (h : FinMap bytes_cmp X) (xs : List Bytes) → h ≡ empty → (taken_out h xs).1 ≡ 0
taken_empty h [] e = refl
taken_empty {X = X} h (x ∷ xs) e =
    let none : get h x ≡ None = ap (λ t. get t x) e ∙ get-empty bytes_cmp x in
    let later : (taken_out (remove h x) xs).1 ≡ 0 = taken_empty (remove h x) xs (remove_same bytes_total bytes_anti h x none ∙ e) in
    let count : cond {A = ℕ} (is_some (get h x)) 1 0 ≡ 0 = ap (λ o. cond {A = ℕ} (is_some o) 1 0) none in
    omega (arith, later, count)

kept_room : (m n : Keys) (k : Bytes) (v : Stored) (l : ℕ) → ((v : Stored) → put n k v ≡ put m k v) → remove n k ≡ remove m k → kept n k v l ≡ kept m k v l
kept_room m n k v zero room gone = gone
kept_room m n k v (suc p) room gone = room v

-- what SREM, HDEL and ZREM leave once what was taken out is put back
pub taking_done : {X : Type 0} (wrap : FinMap bytes_cmp X → Stored) (m n p : Keys) (k : Bytes) (h : FinMap bytes_cmp X) (xs : List Bytes) (res : Result Effect AllocError)
    → ((v : Stored) → put n k v ≡ put m k v) → remove n k ≡ remove m k → cond (nat_eq (len h) 0) n (put n k (wrap h)) ≡ m
    → ((taken_out h xs).1 ≡ 0 → IfOk res (λ e. out p e.altered e.answer ≡ out (cond (nat_eq (len (taken_out h xs).0) 0) n (put n k (wrap (taken_out h xs).0))) [] (number 0)))
    → (0 < (taken_out h xs).1 → IfOk res (λ e. out p e.altered e.answer ≡ out (kept n k (wrap (taken_out h xs).0) (len (taken_out h xs).0)) (k ∷ []) (number (taken_out h xs).1)))
    → IfOk res (λ e. out p e.altered e.answer ≡ after_taking m k (wrap (taken_out h xs).0) (len (taken_out h xs).0) (taken_out h xs).1)
taking_done wrap m n p k h xs res room gone back none some = go (taken_out h xs).1 refl
  where
    go : (c : ℕ) → (taken_out h xs).1 ≡ c → IfOk res (λ e. out p e.altered e.answer ≡ after_taking m k (wrap (taken_out h xs).0) (len (taken_out h xs).0) c)
    go zero is = IfOk-weaker res _ _ (λ e same. same ∙ ap (λ t. out t [] (number 0)) (ap (λ t. cond (nat_eq (len t) 0) n (put n k (wrap t))) (taken_none h xs is) ∙ back)) (none is)
    go (suc c) is = IfOk-weaker res _ _ (λ e same. same ∙ ap (λ t. out t (k ∷ []) (number (taken_out h xs).1)) (kept_room m n k (wrap (taken_out h xs).0) (len (taken_out h xs).0) room gone) ∙ ap (λ t. out (kept m k (wrap (taken_out h xs).0) (len (taken_out h xs).0)) (k ∷ []) (number t)) is) (some (omega (arith, is)))

nothing_taken : {X : Type 0} (m : Keys) (k : Bytes) (wrap : FinMap bytes_cmp X → Stored) (h : FinMap bytes_cmp X) (xs : List Bytes) → h ≡ empty → after_taking m k (wrap (taken_out h xs).0) (len (taken_out h xs).0) (taken_out h xs).1 ≡ out m [] (number 0)
nothing_taken m k wrap h xs e = ap (λ t. after_taking m k (wrap (taken_out h xs).0) (len (taken_out h xs).0) t) (taken_empty h xs e)

pub srem_at : (m : Keys) (k : Bytes) (xs : List Bytes) (o : Option Stored) (h : FinMap bytes_cmp (Unit {0})) → Some h ≡ members_at o
    → after_taking m k (Members (taken_out h xs).0) (len (taken_out h xs).0) (taken_out h xs).1 ≡ srem m k xs o
srem_at m k xs None h s = nothing_taken m k Members h xs (same_some _ _ s)
srem_at m k xs (Some (Members g)) h s = ap (λ t. after_taking m k (Members (taken_out t xs).0) (len (taken_out t xs).0) (taken_out t xs).1) (same_some _ _ s)
srem_at m k xs (Some (Text g)) h s = cc
srem_at m k xs (Some (Items g)) h s = cc
srem_at m k xs (Some (Hash g)) h s = cc
srem_at m k xs (Some (Scores g)) h s = cc

pub hdel_at : (m : Keys) (k : Bytes) (xs : List Bytes) (o : Option Stored) (h : FinMap bytes_cmp Bytes) → Some h ≡ hash_at o
    → after_taking m k (Hash (taken_out h xs).0) (len (taken_out h xs).0) (taken_out h xs).1 ≡ hdel m k xs o
hdel_at m k xs None h s = nothing_taken m k Hash h xs (same_some _ _ s)
hdel_at m k xs (Some (Hash g)) h s = ap (λ t. after_taking m k (Hash (taken_out t xs).0) (len (taken_out t xs).0) (taken_out t xs).1) (same_some _ _ s)
hdel_at m k xs (Some (Text g)) h s = cc
hdel_at m k xs (Some (Items g)) h s = cc
hdel_at m k xs (Some (Members g)) h s = cc
hdel_at m k xs (Some (Scores g)) h s = cc

pub zrem_at : (m : Keys) (k : Bytes) (xs : List Bytes) (o : Option Stored) (h : FinMap bytes_cmp ℤ) → Some h ≡ scores_at o
    → after_taking m k (Scores (taken_out h xs).0) (len (taken_out h xs).0) (taken_out h xs).1 ≡ zrem m k xs o
zrem_at m k xs None h s = nothing_taken m k Scores h xs (same_some _ _ s)
zrem_at m k xs (Some (Scores g)) h s = ap (λ t. after_taking m k (Scores (taken_out t xs).0) (len (taken_out t xs).0) (taken_out t xs).1) (same_some _ _ s)
zrem_at m k xs (Some (Text g)) h s = cc
zrem_at m k xs (Some (Items g)) h s = cc
zrem_at m k xs (Some (Members g)) h s = cc
zrem_at m k xs (Some (Hash g)) h s = cc

-- these members were put into a set in turn; the new ones tell how many they are, and taking them out undoes it
pub record PutIn (start : FinMap bytes_cmp (Unit {0})) (ys : List Bytes) (h : FinMap bytes_cmp (Unit {0})) (xs new : List Bytes) : Type 0 where
  pub left : (put_in h xs).0 ≡ (put_in start ys).0
  pub told : length new + (put_in h xs).1 ≡ (put_in start ys).1
  pub undone : (taken_out h new).0 ≡ start

pub put_first : (h : FinMap bytes_cmp (Unit {0})) (xs new : List Bytes) → new ≡ [] → PutIn h xs h xs new
put_first h xs new e = record {
  left = refl;
  told = let none : length new ≡ 0 = ap length e in omega (arith, none);
  undone = ap (λ t. (taken_out h t).0) e;
}

none_there : {X : Type 0} (o : Option X) (b : Bool) → is_some o ≡ not b → b ≡ true → o ≡ None
none_there None b e t = refl
none_there (Some x) b e t = let clash : true ≡ false = e ∙ ap not t in cc

some_there : {X : Type 0} (o : Option X) (b : Bool) → is_some o ≡ not b → b ≡ false → (x : X) × (o ≡ Some x)
some_there None b e t = let clash : false ≡ true = e ∙ ap not t in absurd (cc)
some_there (Some x) b e t = (x, refl)

pub put_new : (start : FinMap bytes_cmp (Unit {0})) (ys : List Bytes) (h g : FinMap bytes_cmp (Unit {0})) (zs xs new more : List Bytes) (x : Bytes) (o : Option (Unit {0})) (b : Bool)
    → PutIn start ys h zs new → zs ≡ x ∷ xs → o ≡ get h x → is_some o ≡ not b → b ≡ true → g ≡ insert h x tt → more ≡ x ∷ new → PutIn start ys g xs more
put_new start ys h g zs xs new more x o b p e was is t set onto =
    let none : get h x ≡ None = sym was ∙ none_there o b is t in
    let count : cond {A = ℕ} (is_some (get h x)) 0 1 ≡ 1 = ap (λ q. cond {A = ℕ} (is_some q) 0 1) none in
    let longer : length more ≡ suc (length new) = ap length onto in
    let told : length new + (cond (is_some (get h x)) 0 1 + (put_in (insert h x tt) xs).1) ≡ (put_in start ys).1 = ap (λ q. length new + (put_in h q).1) (sym e) ∙ p.told in
    let later : (put_in g xs).1 ≡ (put_in (insert h x tt) xs).1 = ap (λ q. (put_in q xs).1) set in
    record {
      left = ap (λ q. (put_in q xs).0) set ∙ ap (λ q. (put_in h q).0) (sym e) ∙ p.left;
      told = omega (arith, count, longer, told, later);
      undone = ap (λ q. (taken_out q more).0) set ∙ ap (λ q. (taken_out (insert h x tt) q).0) onto ∙ ap (λ q. (taken_out q new).0) (remove-insert bytes_total bytes_anti h x tt ∙ remove_same bytes_total bytes_anti h x none) ∙ p.undone;
    }

pub put_old : (start : FinMap bytes_cmp (Unit {0})) (ys : List Bytes) (h g : FinMap bytes_cmp (Unit {0})) (zs xs new : List Bytes) (x : Bytes) (o : Option (Unit {0})) (b : Bool)
    → PutIn start ys h zs new → zs ≡ x ∷ xs → o ≡ get h x → is_some o ≡ not b → b ≡ false → g ≡ insert h x tt → PutIn start ys g xs new
put_old start ys h g zs xs new x o b p e was is t set =
    let there = some_there o b is t in
    let same : g ≡ h = set ∙ insert_same bytes_total bytes_anti h x tt (sym was ∙ there.1) in
    let count : cond {A = ℕ} (is_some (get h x)) 0 1 ≡ 0 = ap (λ q. cond {A = ℕ} (is_some q) 0 1) (sym was ∙ there.1) in
    let told : length new + (cond (is_some (get h x)) 0 1 + (put_in (insert h x tt) xs).1) ≡ (put_in start ys).1 = ap (λ q. length new + (put_in h q).1) (sym e) ∙ p.told in
    let later : (put_in g xs).1 ≡ (put_in (insert h x tt) xs).1 = ap (λ q. (put_in q xs).1) set in
    record {
      left = ap (λ q. (put_in q xs).0) set ∙ ap (λ q. (put_in h q).0) (sym e) ∙ p.left;
      told = omega (arith, count, told, later);
      undone = ap (λ q. (taken_out q new).0) same ∙ p.undone;
    }

-- one member more was put in
pub put_step : (start : FinMap bytes_cmp (Unit {0})) (ys : List Bytes) (h g : FinMap bytes_cmp (Unit {0})) (zs xs new more : List Bytes) (x : Bytes)
    → PutIn start ys h zs new → zs ≡ x ∷ xs → g ≡ insert h x tt → more ≡ cond (is_some (get h x)) new (x ∷ new) → PutIn start ys g xs more
put_step start ys h g zs xs new more x p e set onto = go (get h x) refl
  where
    go : (o : Option (Unit {0})) → o ≡ get h x → PutIn start ys g xs more
    go None was = put_new start ys h g zs xs new more x None true p e was refl refl set (onto ∙ ap (λ q. cond (is_some q) new (x ∷ new)) (sym was))
    go (Some u) was =
        let Put : List Bytes → Type 0 = λ q. PutIn start ys g xs q in
        subst Put (sym (onto ∙ ap (λ q. cond (is_some q) new (x ∷ new)) (sym was))) (put_old start ys h g zs xs new x (Some u) false p e was refl refl set)

pub sadd_at : (m : Keys) (k : Bytes) (xs : List Bytes) (o : Option Stored) (h : FinMap bytes_cmp (Unit {0})) → Some h ≡ members_at o → sadd_to m k xs h ≡ sadd m k xs o
sadd_at m k xs None h s = ap (sadd_to m k xs) (same_some _ _ s)
sadd_at m k xs (Some (Members g)) h s = ap (sadd_to m k xs) (same_some _ _ s)
sadd_at m k xs (Some (Text g)) h s = cc
sadd_at m k xs (Some (Items g)) h s = cc
sadd_at m k xs (Some (Hash g)) h s = cc
sadd_at m k xs (Some (Scores g)) h s = cc

-- the same, from what the code has at hand
pub taking_left : {X : Type 0} (wrap : FinMap bytes_cmp X → Stored) (m n p : Keys) (k : Bytes) (h g : FinMap bytes_cmp X) (xs : List Bytes) (c l : ℕ) (res : Result Effect AllocError)
    → ◌≡◌ {A = FinMap bytes_cmp X × ℕ} (g, c) (taken_out h xs) → l ≡ len g
    → ((v : Stored) → put n k v ≡ put m k v) → remove n k ≡ remove m k → cond (nat_eq (len h) 0) n (put n k (wrap h)) ≡ m
    → (c ≡ 0 → IfOk res (λ e. out p e.altered e.answer ≡ out (cond (nat_eq l 0) n (put n k (wrap g))) [] (number 0)))
    → (0 < c → IfOk res (λ e. out p e.altered e.answer ≡ out (kept n k (wrap g) l) (k ∷ []) (number c)))
    → IfOk res (λ e. out p e.altered e.answer ≡ after_taking m k (wrap (taken_out h xs).0) (len (taken_out h xs).0) (taken_out h xs).1)
taking_left {X = X} wrap m n p k h g xs c l res e left room gone back none some =
    let None' : FinMap bytes_cmp X × ℕ → Type 0 = λ r. (r.1 ≡ 0 → IfOk res (λ e. out p e.altered e.answer ≡ out (cond (nat_eq (len r.0) 0) n (put n k (wrap r.0))) [] (number 0))) in
    let Some' : FinMap bytes_cmp X × ℕ → Type 0 = λ r. (0 < r.1 → IfOk res (λ e. out p e.altered e.answer ≡ out (kept n k (wrap r.0) (len r.0)) (k ∷ []) (number r.1))) in
    taking_done wrap m n p k h xs res room gone back
    (subst None' e (subst (λ t. (c ≡ 0 → IfOk res (λ e. out p e.altered e.answer ≡ out (cond (nat_eq t 0) n (put n k (wrap g))) [] (number 0)))) left none))
    (subst Some' e (subst (λ t. (0 < c → IfOk res (λ e. out p e.altered e.answer ≡ out (kept n k (wrap g) t) (k ∷ []) (number c)))) left some))

pub hset_at : (m : Keys) (k f v : Bytes) (o : Option Stored) (h : FinMap bytes_cmp Bytes) → Some h ≡ hash_at o → hset_to m k f v h ≡ hset m k f v o
hset_at m k f v None h s = ap (hset_to m k f v) (same_some _ _ s)
hset_at m k f v (Some (Hash g)) h s = ap (hset_to m k f v) (same_some _ _ s)
hset_at m k f v (Some (Text g)) h s = cc
hset_at m k f v (Some (Items g)) h s = cc
hset_at m k f v (Some (Members g)) h s = cc
hset_at m k f v (Some (Scores g)) h s = cc

pub zadd_at : (m : Keys) (k : Bytes) (n : ℤ) (x : Bytes) (o : Option Stored) (h : FinMap bytes_cmp ℤ) → Some h ≡ scores_at o → zadd_to m k n x h ≡ zadd m k n x o
zadd_at m k n x None h s = ap (zadd_to m k n x) (same_some _ _ s)
zadd_at m k n x (Some (Scores g)) h s = ap (zadd_to m k n x) (same_some _ _ s)
zadd_at m k n x (Some (Text g)) h s = cc
zadd_at m k n x (Some (Items g)) h s = cc
zadd_at m k n x (Some (Members g)) h s = cc
zadd_at m k n x (Some (Hash g)) h s = cc
