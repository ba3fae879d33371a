-- Commands keep the limits of keys and of what they hold.
use Rattle.std.proofs.Common.{◌≡◌, ◌≢◌, ◌⊎◌, inl, inr, ℕ, zero, suc, ◌+◌, ◌-◌, ◌≤◌, List, [], ◌∷◌, ◌++◌, length, Bool, true, false, refl, sym, ap, subst, ◌∙◌, arith, None, Some, Option}
use Rattle.std.specs.Prelude.{All, ◌&&◌, ◌||◌, not, is_some, nat_le, ℤ, int_le, if◌then◌else◌}
use Rattle.std.specs.List.{list_any}
use Rattle.std.proofs.lemmas.Bool.Decides.{nat_tests}
use Rattle.std.proofs.lemmas.List.Elements.{All-nil, All-cons, All-head, All-tail, All-append}
use Rattle.std.specs.FinMap.{FinMap, get, insert, remove, empty, len, get-empty, empty_of_len, len-remove}
use Rattle.wire_values.specs.Order.{bytes_cmp}
use Rattle.wire_values.specs.declared.value.Value.{Value}
use Rattle.wire_grammar.specs.Fits.{IsShort}
use Rattle.store_tables.proofs.Maps.{bytes_total, bytes_anti}
use Rattle.store_model.specs.Limits.{member_limit, set_limit}
use Rattle.store_model.specs.Words.{Bytes, front, final}
use Rattle.store_model.specs.Keys.{Keys, value_of, value_at, expiry_of, put, out, is_long, taken_out, after_taking, dropped, expire}
use Rattle.store_model.specs.Replies.{full, number}
use Rattle.store_model.specs.Texts.{until, set_text}
use Rattle.store_model.specs.Lists.{lpush, rpush, rpop, brpop, brpop_at, shortened, pushed_at_head}
use Rattle.store_model.specs.Sets.{sadd, sadd_to, srem, put_in, after_adding}
use Rattle.store_model.specs.Hashes.{hset, hset_to, hdel}
use Rattle.store_model.specs.SortedSets.{zadd, zadd_to, zadd_over, zrem}
use Rattle.store_model.specs.Commands.{Around, run, both}
use Rattle.store_model.specs.declared.command.Command.{Command}
use Rattle.store_model.specs.declared.command.Command.TheVariants.{Lpush, Rpush, Rpop, Brpop, Zadd, Hset, Zrem, Hdel, Sadd, Srem, Set, Del, Expire}
use Rattle.store_model.specs.declared.held.Held.{Held}
use Rattle.store_model.specs.declared.held.Stored.{Stored}
use Rattle.store_model.specs.declared.held.Stored.TheVariants.{Text, Items, Members, Hash, Scores}
use Rattle.store_laws.specs.StoreLimits.{HasShortNames, HasShortTexts, IsLimited, AreLimited, IsShortCommand}
use Rattle.store_laws.proofs.Maps.{get-insert_same, get-insert_other, get-remove_same, get-remove_other, same_or}
use Rattle.store_laws.proofs.Elements.{IsAmong}

-- ---- lists

pub All-front : {A : Type 0} (P : A → Type 0) (x : A) (xs : List A) → All P (x ∷ xs) → All P (front x xs)
All-front P x [] all = All-nil P
All-front P x (y ∷ ys) all = All-cons P x (front y ys) (All-head P x (y ∷ ys) all) (All-front P y ys (All-tail P x (y ∷ ys) all))

pub All-final : {A : Type 0} (P : A → Type 0) (x : A) (xs : List A) → All P (x ∷ xs) → P (final x xs)
All-final P x [] all = All-head P x [] all
All-final P x (y ∷ ys) all = All-final P y ys (All-tail P x (y ∷ ys) all)

at_head : (P : Bytes → Type 0) (vs xs : List Bytes) → All P vs → All P xs → All P (pushed_at_head vs xs)
at_head P [] xs a b = b
at_head P (v ∷ vs) xs a b = at_head P vs (v ∷ xs) (All-tail P v vs a) (All-cons P v xs (All-head P v vs a) b)

nil_no : (x : Bytes) (xs : List Bytes) → x ∷ xs ≢ []
nil_no x xs e = cc e

pushed_some : (vs xs : List Bytes) → xs ≢ [] → pushed_at_head vs xs ≢ []
pushed_some [] xs n = n
pushed_some (v ∷ vs) xs n = pushed_some vs (v ∷ xs) (nil_no v xs)

pushed_full : (vs xs : List Bytes) → vs ≢ [] → pushed_at_head vs xs ≢ []
pushed_full [] xs n = absurd (n refl)
pushed_full (v ∷ vs) xs n = pushed_some vs (v ∷ xs) (nil_no v xs)

end_full : (xs vs : List Bytes) → vs ≢ [] → xs ++ vs ≢ []
end_full [] vs n = n
end_full (x ∷ xs) vs n = nil_no x (xs ++ vs)

pub All_among : (P : Bytes → Type 0) (xs : List Bytes) → ((x : Bytes) → IsAmong x xs → P x) → All P xs
All_among P [] h = All-nil P
All_among P (x ∷ xs) h = All-cons P x xs (h x (inl refl)) (All_among P xs (λ y a. h y (inr a)))

-- ---- keys

limited_insert : (m : Keys) (k : Bytes) (h : Held) → IsShort k → IsLimited h.value → AreLimited m → AreLimited (insert m k h)
limited_insert m k h short is all q g e = go (same_or q k)
  where
    same : q ≡ k → h ≡ g
    same s = let a : get (insert m k h) k ≡ Some g = subst (λ x. get (insert m k h) x ≡ Some g) s e in let b = get-insert_same bytes_cmp bytes_total bytes_anti m k h in cc (a, b)

    go : (q ≡ k) ⊎ (q ≢ k) → IsShort q × IsLimited g.value
    go (inl s) = (subst IsShort (sym s) short, subst (λ (x : Held). IsLimited x.value) (same s) is)
    go (inr n) = all q g (sym (get-insert_other bytes_cmp bytes_total bytes_anti m k h q n) ∙ e)

limited_remove : (m : Keys) (k : Bytes) → AreLimited m → AreLimited (remove m k)
limited_remove m k all q g e = go (same_or q k)
  where
    go : (q ≡ k) ⊎ (q ≢ k) → IsShort q × IsLimited g.value
    go (inl s) = let a : get (remove m k) k ≡ Some g = subst (λ x. get (remove m k) x ≡ Some g) s e in let b = get-remove_same bytes_cmp bytes_total bytes_anti m k in absurd (cc (a, b))
    go (inr n) = all q g (sym (get-remove_other bytes_cmp bytes_total bytes_anti m k q n) ∙ e)

limited_put : (m : Keys) (k : Bytes) (v : Stored) → IsShort k → IsLimited v → AreLimited m → AreLimited (put m k v)
limited_put m k v short is all = limited_insert m k (record { value = v; expiry = expiry_of (get m k) }) short is all

-- what a key holds is within the limits
pub held_limited : (m : Keys) (k : Bytes) (v : Stored) → AreLimited m → value_at m k ≡ Some v → IsLimited v
held_limited m k v all e = go (get m k) refl e
  where
    go : (o : Option Held) → get m k ≡ o → value_of o ≡ Some v → IsLimited v
    go None was is = absurd (cc is)
    go (Some h) was is = let same : h.value ≡ v = cc is in subst IsLimited same (all k h was).1

limited_short : (m : Keys) (k x : Bytes) (xs : List Bytes) → IsShort k → All IsShort (x ∷ xs) → AreLimited m → AreLimited (shortened m k (front x xs))
limited_short m k x xs short is all = go (front x xs) (All-front IsShort x xs is)
  where
    go : (ys : List Bytes) → All IsShort ys → AreLimited (shortened m k ys)
    go [] a = limited_remove m k all
    go (y ∷ ys) a = limited_put m k (Items (y ∷ ys)) short (nil_no y ys, a) all

-- ---- tables

pub len_some : {X : Type 0} (h : FinMap bytes_cmp X) (x : Bytes) → is_some (get h x) ≡ true → 1 ≤ len h
len_some h x is = go (len h) refl
  where
    go : (n : ℕ) → len h ≡ n → 1 ≤ n
    go zero e = let none : get h x ≡ None = ap (λ m. get m x) (empty_of_len h e) ∙ get-empty bytes_cmp x in let no : is_some (get h x) ≡ false = ap is_some none in absurd (cc (is, no))
    go (suc n) e = omega arith

-- what is left after some are taken out was there
taken_from : {X : Type 0} (h : FinMap bytes_cmp X) (xs : List Bytes) (q : Bytes) (v : X) → get (taken_out h xs).0 q ≡ Some v → get h q ≡ Some v
taken_from h [] q v e = e
taken_from h (x ∷ xs) q v e = go (same_or q x) (taken_from (remove h x) xs q v e)
  where
    go : (q ≡ x) ⊎ (q ≢ x) → get (remove h x) q ≡ Some v → get h q ≡ Some v
    go (inl s) f = let a : get (remove h x) x ≡ Some v = subst (λ y. get (remove h x) y ≡ Some v) s f in let b = get-remove_same bytes_cmp bytes_total bytes_anti h x in absurd (cc (a, b))
    go (inr n) f = sym (get-remove_other bytes_cmp bytes_total bytes_anti h x q n) ∙ f

some_of : {X : Type 0} (o : Option X) → is_some o ≡ true → (x : X) × (o ≡ Some x)
some_of None e = absurd (cc e)
some_of (Some x) e = (x, refl)

taken_names : {X : Type 0} (h : FinMap bytes_cmp X) (xs : List Bytes) → HasShortNames h → HasShortNames (taken_out h xs).0
taken_names h xs names q is = let f = some_of (get (taken_out h xs).0 q) is in names q (ap is_some (taken_from h xs q f.0 f.1))

len_less : {X : Type 0} (h : FinMap bytes_cmp X) (xs : List Bytes) → len (taken_out h xs).0 ≤ len h
len_less h [] = omega arith
len_less h (x ∷ xs) = let a = len_less (remove h x) xs in let b = len_removed h x in omega (arith, a, b)
  where
    by : (b : Bool) (n m : ℕ) → m ≡ (if b then n - 1 else n) → m ≤ n
    by true n m e = omega (arith, e)
    by false n m e = omega (arith, e)

    len_removed : {X : Type 0} (h : FinMap bytes_cmp X) (x : Bytes) → len (remove h x) ≤ len h
    len_removed h x = by (is_some (get h x)) (len h) (len (remove h x)) (len-remove bytes_total h x)

limited_taking : (m : Keys) (k : Bytes) (v : Stored) (n p : ℕ) → IsShort k → ((i : ℕ) → n ≡ suc i → IsLimited v) → AreLimited m → AreLimited (after_taking m k v n p).keys
limited_taking m k v n zero short is all = all
limited_taking m k v zero (suc p) short is all = limited_remove m k all
limited_taking m k v (suc n) (suc p) short is all = limited_put m k v short (is n refl) all

-- ---- sets

put_keeps : (h : FinMap bytes_cmp (Unit {0})) (xs : List Bytes) (q : Bytes) → is_some (get h q) ≡ true → is_some (get (put_in h xs).0 q) ≡ true
put_keeps h [] q e = e
put_keeps h (x ∷ xs) q e = put_keeps (insert h x tt) xs q (go (same_or q x))
  where
    go : (q ≡ x) ⊎ (q ≢ x) → is_some (get (insert h x tt) q) ≡ true
    go (inl s) = ap is_some (ap (get (insert h x tt)) s ∙ get-insert_same bytes_cmp bytes_total bytes_anti h x tt)
    go (inr n) = ap is_some (get-insert_other bytes_cmp bytes_total bytes_anti h x tt q n) ∙ e

put_first : (h : FinMap bytes_cmp (Unit {0})) (x : Bytes) (xs : List Bytes) → is_some (get (put_in h (x ∷ xs)).0 x) ≡ true
put_first h x xs = put_keeps (insert h x tt) xs x (ap is_some (get-insert_same bytes_cmp bytes_total bytes_anti h x tt))

not_long : (x : Bytes) → is_long x ≡ false → length x ≤ member_limit
not_long x e = grind (arith, nat_tests)

or_none : (a b : Bool) → (a || b) ≡ false → (a ≡ false) × (b ≡ false)
or_none true b e = absurd (cc e)
or_none false b e = (refl, e)

inserted_names : {X : Type 0} (h : FinMap bytes_cmp X) (x : Bytes) (v : X) → length x ≤ member_limit → HasShortNames h → HasShortNames (insert h x v)
inserted_names h x v short names q is = go (same_or q x)
  where
    go : (q ≡ x) ⊎ (q ≢ x) → length q ≤ member_limit
    go (inl s) = subst (λ (y : Bytes). length y ≤ member_limit) (sym s) short
    go (inr n) = names q (ap is_some (sym (get-insert_other bytes_cmp bytes_total bytes_anti h x v q n)) ∙ is)

put_names : (h : FinMap bytes_cmp (Unit {0})) (xs : List Bytes) → list_any is_long xs ≡ false → HasShortNames h → HasShortNames (put_in h xs).0
put_names h [] e names = names
put_names h (x ∷ xs) e names = let o = or_none (is_long x) (list_any is_long xs) e in put_names (insert h x tt) xs o.1 (inserted_names h x tt (not_long x o.0) names)

limited_adding : (m : Keys) (k : Bytes) (xs : List Bytes) (h : FinMap bytes_cmp (Unit {0})) → IsShort k → HasShortNames h → AreLimited m → AreLimited (sadd_to m k xs h).keys
limited_adding m k xs h short names all = go xs refl (put_in h xs).1 (list_any is_long xs) (nat_le (len (put_in h xs).0) set_limit) refl refl refl
  where
    go : (ys : List Bytes) → xs ≡ ys → (n : ℕ) (a b : Bool) → (put_in h xs).1 ≡ n → list_any is_long xs ≡ a → nat_le (len (put_in h xs).0) set_limit ≡ b → AreLimited (after_adding m k (put_in h xs).0 n (not a && b)).keys
    go ys s n true b e f g = all
    go ys s n false false e f g = all
    go ys s zero false true e f g = all
    go [] s (suc n) false true e f g = let z : (put_in h xs).1 ≡ 0 = ap (λ zs. (put_in h zs).1) s in absurd (cc (z, e))
    go (y ∷ ys) s (suc n) false true e f g =
        let there : is_some (get (put_in h xs).0 y) ≡ true = subst (λ zs. is_some (get (put_in h zs).0 y) ≡ true) (sym s) (put_first h y ys) in
        limited_put m k (Members (put_in h xs).0) short (len_some (put_in h xs).0 y there, grind (arith, nat_tests), put_names h xs f names) all

no_names : (X : Type 0) → HasShortNames (empty {X = X} {R = bytes_cmp})
no_names X q is = let none : is_some {T = X} (get empty q) ≡ false = ap is_some (get-empty {X = X} bytes_cmp q) in absurd (cc (is, none))

limited_sadd : (m : Keys) (k : Bytes) (xs : List Bytes) (o : Option Stored) → value_at m k ≡ o → IsShort k → AreLimited m → AreLimited (sadd m k xs o).keys
limited_sadd m k xs None was short all = limited_adding m k xs empty short (no_names (Unit {0})) all
limited_sadd m k xs (Some (Members h)) was short all = limited_adding m k xs h short (held_limited m k (Members h) all was).2 all
limited_sadd m k xs (Some other) was short all = all

limited_srem : (m : Keys) (k : Bytes) (xs : List Bytes) (o : Option Stored) → value_at m k ≡ o → IsShort k → AreLimited m → AreLimited (srem m k xs o).keys
limited_srem m k xs None was short all = all
limited_srem m k xs (Some (Members h)) was short all =
    let had = held_limited m k (Members h) all was in
    limited_taking m k (Members (taken_out h xs).0) _ _ short (λ i e. (omega (arith, e), omega (arith, len_less h xs, had.1), taken_names h xs had.2)) all
limited_srem m k xs (Some other) was short all = all

-- ---- hashes and sorted sets

inserted_texts : (h : FinMap bytes_cmp Bytes) (f v : Bytes) → IsShort v → HasShortTexts h → HasShortTexts (insert h f v)
inserted_texts h f v short texts q w e = go (same_or q f)
  where
    go : (q ≡ f) ⊎ (q ≢ f) → IsShort w
    go (inl s) =
        let a : get (insert h f v) f ≡ Some w = subst (λ x. get (insert h f v) x ≡ Some w) s e in
        let b = get-insert_same bytes_cmp bytes_total bytes_anti h f v in
        let same : v ≡ w = cc (a, b) in subst IsShort same short
    go (inr n) = texts q w (sym (get-insert_other bytes_cmp bytes_total bytes_anti h f v q n) ∙ e)

some_inserted : {X : Type 0} (h : FinMap bytes_cmp X) (x : Bytes) (v : X) → 1 ≤ len (insert h x v)
some_inserted h x v = len_some (insert h x v) x (ap is_some (get-insert_same bytes_cmp bytes_total bytes_anti h x v))

limited_setting : (m : Keys) (k f v : Bytes) (h : FinMap bytes_cmp Bytes) → IsShort k → IsShort v → HasShortNames h → HasShortTexts h → AreLimited m → AreLimited (hset_to m k f v h).keys
limited_setting m k f v h short text names texts all = go (is_long f) refl full _
  where
    go : (b : Bool) → is_long f ≡ b → (x a : Value) → AreLimited (if b then out m [] x else out (put m k (Hash (insert h f v))) (k ∷ []) a).keys
    go true e x a = all
    go false e x a = limited_put m k (Hash (insert h f v)) short (some_inserted h f v, inserted_names h f v (not_long f e) names, inserted_texts h f v text texts) all

no_texts : HasShortTexts empty
no_texts q w e = let none = get-empty {X = Bytes} bytes_cmp q in absurd (cc (e, none))

limited_hset : (m : Keys) (k f v : Bytes) (o : Option Stored) → value_at m k ≡ o → IsShort k → IsShort v → AreLimited m → AreLimited (hset m k f v o).keys
limited_hset m k f v None was short text all = limited_setting m k f v empty short text (no_names Bytes) no_texts all
limited_hset m k f v (Some (Hash h)) was short text all = let had = held_limited m k (Hash h) all was in limited_setting m k f v h short text had.1 had.2 all
limited_hset m k f v (Some other) was short text all = all

limited_hdel : (m : Keys) (k : Bytes) (xs : List Bytes) (o : Option Stored) → value_at m k ≡ o → IsShort k → AreLimited m → AreLimited (hdel m k xs o).keys
limited_hdel m k xs None was short all = all
limited_hdel m k xs (Some (Hash h)) was short all =
    let had = held_limited m k (Hash h) all was in
    limited_taking m k (Hash (taken_out h xs).0) _ _ short (λ i e. (omega (arith, e), taken_names h xs had.1, λ q w g. had.2 q w (taken_from h xs q w g))) all
limited_hdel m k xs (Some other) was short all = all

limited_over : (m : Keys) (k : Bytes) (s : ℤ) (x : Bytes) (h : FinMap bytes_cmp ℤ) (o : Option ℤ) → IsShort k → length x ≤ member_limit → HasShortNames h → AreLimited m → AreLimited (zadd_over m k s x h o).keys
limited_over m k s x h None short name names all = limited_put m k (Scores (insert h x s)) short (some_inserted h x s, inserted_names h x s name names) all
limited_over m k s x h (Some t) short name names all = go (int_le s t && int_le t s)
  where
    go : (b : Bool) → AreLimited (if b then out m [] (number 0) else out (put m k (Scores (insert h x s))) (k ∷ []) (number 0)).keys
    go true = all
    go false = limited_put m k (Scores (insert h x s)) short (some_inserted h x s, inserted_names h x s name names) all

limited_scoring : (m : Keys) (k : Bytes) (s : ℤ) (x : Bytes) (h : FinMap bytes_cmp ℤ) → IsShort k → HasShortNames h → AreLimited m → AreLimited (zadd_to m k s x h).keys
limited_scoring m k s x h short names all = go (is_long x) refl
  where
    go : (b : Bool) → is_long x ≡ b → AreLimited (if b then out m [] full else zadd_over m k s x h (get h x)).keys
    go true e = all
    go false e = limited_over m k s x h (get h x) short (not_long x e) names all

limited_zadd : (m : Keys) (k : Bytes) (s : ℤ) (x : Bytes) (o : Option Stored) → value_at m k ≡ o → IsShort k → AreLimited m → AreLimited (zadd m k s x o).keys
limited_zadd m k s x None was short all = limited_scoring m k s x empty short (no_names ℤ) all
limited_zadd m k s x (Some (Scores h)) was short all = limited_scoring m k s x h short (held_limited m k (Scores h) all was).1 all
limited_zadd m k s x (Some other) was short all = all

limited_zrem : (m : Keys) (k : Bytes) (xs : List Bytes) (o : Option Stored) → value_at m k ≡ o → IsShort k → AreLimited m → AreLimited (zrem m k xs o).keys
limited_zrem m k xs None was short all = all
limited_zrem m k xs (Some (Scores h)) was short all =
    let had = held_limited m k (Scores h) all was in
    limited_taking m k (Scores (taken_out h xs).0) _ _ short (λ i e. (omega (arith, e), taken_names h xs had.1)) all
limited_zrem m k xs (Some other) was short all = all

-- ---- lists and texts

limited_lpush : (m : Keys) (k : Bytes) (vs : List Bytes) (o : Option Stored) → value_at m k ≡ o → IsShort k → vs ≢ [] → All IsShort vs → AreLimited m → AreLimited (lpush m k vs o).keys
limited_lpush m k vs None was short some are all = limited_put m k (Items (pushed_at_head vs [])) short (pushed_full vs [] some, at_head IsShort vs [] are (All-nil IsShort)) all
limited_lpush m k vs (Some (Items xs)) was short some are all = limited_put m k (Items (pushed_at_head vs xs)) short (pushed_full vs xs some, at_head IsShort vs xs are (held_limited m k (Items xs) all was).1) all
limited_lpush m k vs (Some other) was short some are all = all

limited_rpush : (m : Keys) (k : Bytes) (vs : List Bytes) (o : Option Stored) → value_at m k ≡ o → IsShort k → vs ≢ [] → All IsShort vs → AreLimited m → AreLimited (rpush m k vs o).keys
limited_rpush m k vs None was short some are all = limited_put m k (Items vs) short (some, are) all
limited_rpush m k vs (Some (Items xs)) was short some are all = limited_put m k (Items (xs ++ vs)) short (end_full xs vs some, All-append IsShort xs vs (held_limited m k (Items xs) all was).1 are) all
limited_rpush m k vs (Some other) was short some are all = all

limited_rpop : (m : Keys) (k : Bytes) (o : Option Stored) → value_at m k ≡ o → IsShort k → AreLimited m → AreLimited (rpop m k o).keys
limited_rpop m k None was short all = all
limited_rpop m k (Some (Items [])) was short all = all
limited_rpop m k (Some (Items (x ∷ xs))) was short all = limited_short m k x xs short (held_limited m k (Items (x ∷ xs)) all was).1 all
limited_rpop m k (Some other) was short all = all

limited_brpop : (m : Keys) (ks : List Bytes) → All IsShort ks → AreLimited m → AreLimited (brpop m ks).keys
limited_brpop m [] are all = all
limited_brpop m (k ∷ ks) are all = go (value_at m k) refl (limited_brpop m ks (All-tail IsShort k ks are) all)
  where
    go : (o : Option Stored) → value_at m k ≡ o → AreLimited (brpop m ks).keys → AreLimited (brpop_at m k o (brpop m ks)).keys
    go None was later = later
    go (Some (Items [])) was later = later
    go (Some (Items (x ∷ xs))) was later = limited_short m k x xs (All-head IsShort k ks are) (held_limited m k (Items (x ∷ xs)) all was).1 all
    go (Some other) was later = all

limited_dropped : (m : Keys) (ks : List Bytes) → AreLimited m → AreLimited (dropped m ks).0
limited_dropped m [] all = all
limited_dropped m (k ∷ ks) all = limited_dropped (remove m k) ks (limited_remove m k all)

limited_set : (m : Keys) (k v : Bytes) (e : Option ℕ) (b : Bool) → IsShort k → IsShort v → AreLimited m → AreLimited (set_text m k v e b).keys
limited_set m k v e true short text all = all
limited_set m k v e false short text all = limited_insert m k (record { value = Text v; expiry = e }) short text all

limited_expire : (m : Keys) (k : Bytes) (e : ℕ) (o : Option Held) → get m k ≡ o → AreLimited m → AreLimited (expire m k e o).keys
limited_expire m k e None was all = all
limited_expire m k e (Some h) was all = let had = all k h was in limited_insert m k (record { value = h.value; expiry = Some e }) had.0 had.1 all

-- what a command leaves of the keys is within the limits
pub run_limited : (e : Around) (m : Keys) (c : Command) → IsShortCommand c → AreLimited m → AreLimited (run e m c).keys
run_limited e m (Lpush k vs) is all = limited_lpush m k vs (value_at m k) refl is.0 is.1 is.2 all
run_limited e m (Rpush k vs) is all = limited_rpush m k vs (value_at m k) refl is.0 is.1 is.2 all
run_limited e m (Rpop k) is all = limited_rpop m k (value_at m k) refl is all
run_limited e m (Brpop ks) is all = limited_brpop m ks is all
run_limited e m (Zadd k s x) is all = limited_zadd m k s x (value_at m k) refl is.0 all
run_limited e m (Hset k f v) is all = limited_hset m k f v (value_at m k) refl is.0 is.2 all
run_limited e m (Zrem k xs) is all = limited_zrem m k xs (value_at m k) refl is.0 all
run_limited e m (Hdel k fs) is all = limited_hdel m k fs (value_at m k) refl is.0 all
run_limited e m (Sadd k xs) is all = limited_sadd m k xs (value_at m k) refl is.0 all
run_limited e m (Srem k xs) is all = limited_srem m k xs (value_at m k) refl is.0 all
run_limited e m (Set k v absent life) is all = limited_set m k v (until e.moment life) (both absent (is_some (get m k))) is.0 is.1 all
run_limited e m (Del ks) is all = limited_dropped m ks all
run_limited e m (Expire k s) is all = limited_expire m k (e.moment + s) (get m k) refl all
run_limited e m other is all = all
