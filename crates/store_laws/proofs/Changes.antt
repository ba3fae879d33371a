-- What each command of a block does to the keys that places are read from.
use Rattle.std.proofs.Common.{◌≡◌, ◌≢◌, ◌⊎◌, inl, inr, ℕ, zero, suc, ◌+◌, List, [], ◌∷◌, ◌++◌, Bool, true, false, refl, sym, ap, subst, ◌∙◌, arith, None, Some, Option, length}
use Rattle.std.specs.Prelude.{is_some, bytes_eq, ℤ, int_le, ◌&&◌, if◌then◌else◌}
use Rattle.std.specs.FinMap.{FinMap, get, insert, remove, empty, entries, len, get-empty, empty_of_len}
use Rattle.wire_values.specs.Order.{bytes_cmp}
use Rattle.wire_values.specs.declared.value.Value.{Value}
use Rattle.wire_values.specs.declared.value.Value.TheVariants.{NullArray}
use Rattle.store_tables.proofs.Maps.{bytes_total, bytes_anti}
use Rattle.store_model.specs.Words.{Bytes, front, final}
use Rattle.store_model.specs.Replies.{number, pair, full}
use Rattle.store_model.specs.Keys.{Keys, value_of, value_at, expiry_of, put, CommandOutcome, out, is_long, after_taking, kept}
use Rattle.store_model.specs.Lists.{put_list, lpush, rpush, brpop, brpop_at, shortened}
use Rattle.store_model.specs.Hashes.{hset, hdel}
use Rattle.store_model.specs.SortedSets.{zadd, zadd_over, zrem}
use Rattle.store_model.specs.Commands.{Around, run}
use Rattle.store_model.specs.declared.command.Command.TheVariants.{Lpush, Rpush, Brpop, Zadd, Hset, Zrem, Hdel}
use Rattle.store_model.specs.declared.held.Held.{Held}
use Rattle.store_model.specs.declared.held.Stored.{Stored}
use Rattle.store_model.specs.declared.held.Stored.TheVariants.{Items, Hash, Scores}
use Rattle.store_laws.proofs.Maps.{total, weight, get-insert_same, get-insert_other, get-remove_same, get-remove_other, total-insert, total-remove, same_or, same-refl}
use Rattle.store_laws.proofs.Names.{Names}

-- a list or nothing
abbrev pub IsListOrNone : Option Stored → Type 0
IsListOrNone None = Unit {0}
IsListOrNone (Some (Items xs)) = Unit {0}
IsListOrNone (Some other) = ⊥

-- a hash or nothing
abbrev pub IsHashOrNone : Option Stored → Type 0
IsHashOrNone None = Unit {0}
IsHashOrNone (Some (Hash h)) = Unit {0}
IsHashOrNone (Some other) = ⊥

-- a sorted set or nothing
abbrev pub IsScoresOrNone : Option Stored → Type 0
IsScoresOrNone None = Unit {0}
IsScoresOrNone (Some (Scores h)) = Unit {0}
IsScoresOrNone (Some other) = ⊥

-- each of the texts passes the test
abbrev pub Each : (Bytes → Bool) → List Bytes → Type 0
Each p [] = Unit {0}
Each p (k ∷ ks) = (p k ≡ true) × Each p ks

-- the field of a hash
abbrev pub field_of : Option Stored → Bytes → Option Bytes
field_of (Some (Hash h)) t = get h t
field_of other t = None

-- whether a hash has the field
abbrev pub has_field : Option Stored → Bytes → Bool
has_field o t = is_some (field_of o t)

-- whether a sorted set has the member
abbrev pub has_member : Option Stored → Bytes → Bool
has_member (Some (Scores h)) t = is_some (get h t)
has_member other t = false

-- how much the elements count for t
abbrev pub tagged : Names → Bytes → List Bytes → ℕ
tagged σ t [] = 0
tagged σ t (x ∷ xs) = σ.weigh t x + tagged σ t xs

-- how much a value counts for t
abbrev pub in_value : Names → Bytes → Stored → ℕ
in_value σ t (Items xs) = tagged σ t xs
in_value σ t other = 0

-- how much the list under a queue's key counts for t
abbrev pub in_list : Names → Bytes → Bytes → Stored → ℕ
in_list σ t k v = if σ.is_queue k then in_value σ t v else 0

-- the same of a value with its expiry
abbrev pub in_held : Names → Bytes → Bytes → Held → ℕ
in_held σ t k h = in_list σ t k h.value

-- what each key holds, and that it lasts
pub record Kinds (σ : Names) (m : Keys) : Type 0 where
  pub lists : (k : Bytes) → σ.is_queue k ≡ true → IsListOrNone (value_at m k)
  pub table : IsHashOrNone (value_at m σ.unacked)
  pub members : IsScoresOrNone (value_at m σ.index)
  pub lists_last : (k : Bytes) → σ.is_queue k ≡ true → expiry_of (get m k) ≡ None
  pub table_lasts : expiry_of (get m σ.unacked) ≡ None
  pub members_last : expiry_of (get m σ.index) ≡ None

abbrev pub held : (Bytes → Stored → ℕ) → Bytes → Held → ℕ
held f k h = f k h.value

weight-held : (f : Bytes → Stored → ℕ) (k : Bytes) (o : Option Held) → weight (held f) k o ≡ weight f k (value_of o)
weight-held f k None = refl
weight-held f k (Some h) = refl

-- m' is m but for the value of k
pub record Changed (m m' : Keys) (k : Bytes) (v : Option Stored) : Type 0 where
  pub here : value_at m' k ≡ v
  pub lasts : expiry_of (get m k) ≡ None → expiry_of (get m' k) ≡ None
  pub there : (q : Bytes) → q ≢ k → get m' q ≡ get m q
  pub sums : (f : Bytes → Stored → ℕ) → total (held f) (entries m') + weight f k (value_at m k) ≡ total (held f) (entries m) + weight f k v

pub changed-put : (m : Keys) (k : Bytes) (v : Stored) → Changed m (put m k v) k (Some v)
changed-put m k v =
    let h : Held = record { value = v; expiry = expiry_of (get m k) } in
    record {
      here = ap value_of (get-insert_same bytes_cmp bytes_total bytes_anti m k h);
      lasts = λ e. ap expiry_of (get-insert_same bytes_cmp bytes_total bytes_anti m k h) ∙ e;
      there = λ q n. get-insert_other bytes_cmp bytes_total bytes_anti m k h q n;
      sums = λ f. rw (← weight-held f k (get m k)) (total-insert bytes_cmp bytes_total bytes_anti (held f) m k h);
    }

pub changed-remove : (m : Keys) (k : Bytes) → Changed m (remove m k) k None
changed-remove m k = record {
  here = ap value_of (get-remove_same bytes_cmp bytes_total bytes_anti m k);
  lasts = λ e. ap expiry_of (get-remove_same bytes_cmp bytes_total bytes_anti m k);
  there = λ q n. get-remove_other bytes_cmp bytes_total bytes_anti m k q n;
  sums = λ f.
      let t : total (held f) (entries (remove m k)) + weight (held f) k (get m k) ≡ total (held f) (entries m) = total-remove bytes_cmp bytes_total bytes_anti (held f) m k in
      let w = weight-held f k (get m k) in
      omega (arith, t, w);
}

pub changed-nothing : (m : Keys) (k : Bytes) (v : Option Stored) → value_at m k ≡ v → Changed m m k v
changed-nothing m k v e = record { here = e; lasts = λ z. z; there = λ q n. refl; sums = λ f. ap (λ o. total (held f) (entries m) + weight f k o) e }

-- the key fact, as inequations
pub queue_not_unacked : (σ : Names) (k : Bytes) → σ.is_queue k ≡ true → σ.unacked ≢ k
queue_not_unacked σ k q e = let h : σ.is_queue σ.unacked ≡ true = subst (λ x. σ.is_queue x ≡ true) (sym e) q in cc (h, σ.unacked_not)

pub queue_not_index : (σ : Names) (k : Bytes) → σ.is_queue k ≡ true → σ.index ≢ k
queue_not_index σ k q e = let h : σ.is_queue σ.index ≡ true = subst (λ x. σ.is_queue x ≡ true) (sym e) q in cc (h, σ.index_not)

pub unacked_not_index : (σ : Names) → σ.unacked ≢ σ.index
unacked_not_index σ e = let h : bytes_eq σ.unacked σ.index ≡ true = subst (λ x. bytes_eq σ.unacked x ≡ true) e (same-refl σ.unacked) in cc (h, σ.apart)

-- ---- a change at a queue's key

-- what a change at a queue's key leaves
pub record QueueChanged (σ : Names) (m m' : Keys) (k : Bytes) (v : Option Stored) : Type 0 where
  pub kinds : Kinds σ m'
  pub table : value_at m' σ.unacked ≡ value_at m σ.unacked
  pub members : value_at m' σ.index ≡ value_at m σ.index

pub queue_changed : (σ : Names) (m m' : Keys) (k : Bytes) (v : Option Stored) → Kinds σ m → σ.is_queue k ≡ true → IsListOrNone v → Changed m m' k v → QueueChanged σ m m' k v
queue_changed σ m m' k v ks q is ch =
    let u' = ch.there σ.unacked (queue_not_unacked σ k q) in
    let i' = ch.there σ.index (queue_not_index σ k q) in
    let u = ap value_of u' in
    let i = ap value_of i' in
    record {
      kinds = record {
        lists = λ x qx. go x qx (same_or x k);
        table = subst IsHashOrNone (sym u) ks.table;
        members = subst IsScoresOrNone (sym i) ks.members;
        lists_last = λ x qx. last x qx (same_or x k);
        table_lasts = ap expiry_of u' ∙ ks.table_lasts;
        members_last = ap expiry_of i' ∙ ks.members_last;
      };
      table = u;
      members = i;
    }
  where
    go : (x : Bytes) → σ.is_queue x ≡ true → (x ≡ k) ⊎ (x ≢ k) → IsListOrNone (value_at m' x)
    go x qx (inl e) = subst (λ y. IsListOrNone (value_at m' y)) (sym e) (subst IsListOrNone (sym ch.here) is)
    go x qx (inr n) = subst IsListOrNone (sym (ap value_of (ch.there x n))) (ks.lists x qx)

    last : (x : Bytes) → σ.is_queue x ≡ true → (x ≡ k) ⊎ (x ≢ k) → expiry_of (get m' x) ≡ None
    last x qx (inl e) = subst (λ y. expiry_of (get m' y) ≡ None) (sym e) (ch.lasts (ks.lists_last k q))
    last x qx (inr n) = ap expiry_of (ch.there x n) ∙ ks.lists_last x qx

-- the elements with a tag, of a value or of none
abbrev pub in_option : Names → Bytes → Option Stored → ℕ
in_option σ t None = 0
in_option σ t (Some v) = in_value σ t v

pub weight-queue : (σ : Names) (t k : Bytes) (v : Option Stored) → σ.is_queue k ≡ true → weight (in_list σ t) k v ≡ in_option σ t v
weight-queue σ t k None q = refl
weight-queue σ t k (Some v) q = ap (λ b. if b then in_value σ t v else 0) q

pub weight-other : (σ : Names) (t k : Bytes) (v : Option Stored) → σ.is_queue k ≡ false → weight (in_list σ t) k v ≡ 0
weight-other σ t k None q = refl
weight-other σ t k (Some v) q = ap (λ b. if b then in_value σ t v else 0) q

pub queue_sums : (σ : Names) (m m' : Keys) (k : Bytes) (v : Option Stored) → σ.is_queue k ≡ true → Changed m m' k v → (t : Bytes)
    → total (in_held σ t) (entries m') + in_option σ t (value_at m k) ≡ total (in_held σ t) (entries m) + in_option σ t v
queue_sums σ m m' k v q ch t = rw (← weight-queue σ t k (value_at m k) q, ← weight-queue σ t k v q) (ch.sums (in_list σ t))

-- the sums over the lists don't feel a change at another key
pub other_sums : (σ : Names) (m m' : Keys) (k : Bytes) (v : Option Stored) → σ.is_queue k ≡ false → Changed m m' k v → (t : Bytes)
    → total (in_held σ t) (entries m') ≡ total (in_held σ t) (entries m)
other_sums σ m m' k v q ch t =
    let s = ch.sums (in_list σ t) in
    let a = weight-other σ t k (value_at m k) q in
    let b = weight-other σ t k v q in
    omega (arith, s, a, b)

-- ---- LPUSH of one element

pub record Pushed (σ : Names) (m : Keys) (k v : Bytes) (r : CommandOutcome) : Type 0 where
  pub size : ℕ
  pub answer : r.answer ≡ number size
  pub after : QueueChanged σ m r.keys k (value_at r.keys k)
  pub gains : (t : Bytes) → total (in_held σ t) (entries r.keys) ≡ total (in_held σ t) (entries m) + σ.weigh t v

pub lpush_done : (σ : Names) (around : Around) (m : Keys) (k v : Bytes) → Kinds σ m → σ.is_queue k ≡ true → Pushed σ m k v (run around m (Lpush k (v ∷ [])))
lpush_done σ around m k v ks q = go (value_at m k) refl (ks.lists k q)
  where
    at : (xs : List Bytes) (o : Option Stored) → value_at m k ≡ o → ((t : Bytes) → in_option σ t o ≡ tagged σ t xs) → Pushed σ m k v (put_list m k (v ∷ xs))
    at xs o e had =
        let ch = changed-put m k (Items (v ∷ xs)) in
        record {
          size = suc (length xs);
          answer = refl;
          after = subst (λ x. QueueChanged σ m (put m k (Items (v ∷ xs))) k x) (sym ch.here) (queue_changed σ m _ k _ ks q tt ch);
          gains = λ t.
              let s = queue_sums σ m _ k _ q ch t in
              let h : in_option σ t (value_at m k) ≡ tagged σ t xs = ap (in_option σ t) e ∙ had t in
              omega (arith, s, h);
        }

    go : (o : Option Stored) → value_at m k ≡ o → IsListOrNone o → Pushed σ m k v (lpush m k (v ∷ []) o)
    go None e is = at [] None e (λ t. refl)
    go (Some (Items xs)) e is = at xs (Some (Items xs)) e (λ t. refl)
    go (Some other) e is = absurd is

-- ---- BRPOP

pub tagged-front : (σ : Names) (t x : Bytes) (xs : List Bytes) → tagged σ t (front x xs) + σ.weigh t (final x xs) ≡ σ.weigh t x + tagged σ t xs
tagged-front σ t x [] = omega arith
tagged-front σ t x (y ∷ ys) = let r = tagged-front σ t y ys in omega (arith, r)

pub record Popped (σ : Names) (m : Keys) (k v : Bytes) (r : CommandOutcome) : Type 0 where
  pub queue : σ.is_queue k ≡ true
  pub answer : r.answer ≡ pair k v
  pub after : QueueChanged σ m r.keys k (value_at r.keys k)
  pub loses : (t : Bytes) → total (in_held σ t) (entries r.keys) + σ.weigh t v ≡ total (in_held σ t) (entries m)

abbrev pub Brpopped : Names → Keys → CommandOutcome → Type 0
Brpopped σ m r = (r ≡ out m [] NullArray) ⊎ ((k : Bytes) × (v : Bytes) × Popped σ m k v r)

pub popped_one : (σ : Names) (m : Keys) (k x : Bytes) (xs : List Bytes) → Kinds σ m → σ.is_queue k ≡ true → value_at m k ≡ Some (Items (x ∷ xs))
    → Popped σ m k (final x xs) (out (shortened m k (front x xs)) (k ∷ []) (pair k (final x xs)))
popped_one σ m k x xs ks q e = go (front x xs) (λ t. tagged-front σ t x xs)
  where
    done : (m' : Keys) (o : Option Stored) (ys : List Bytes) → IsListOrNone o → Changed m m' k o → ((t : Bytes) → in_option σ t o ≡ tagged σ t ys) → ((t : Bytes) → tagged σ t ys + σ.weigh t (final x xs) ≡ σ.weigh t x + tagged σ t xs) → Popped σ m k (final x xs) (out m' (k ∷ []) (pair k (final x xs)))
    done m' o ys is ch has fr = record {
      queue = q;
      answer = refl;
      after = subst (λ y. QueueChanged σ m m' k y) (sym ch.here) (queue_changed σ m m' k o ks q is ch);
      loses = λ t.
          let s = queue_sums σ m m' k o q ch t in
          let h : in_option σ t (value_at m k) ≡ σ.weigh t x + tagged σ t xs = ap (in_option σ t) e in
          omega (arith, s, h, has t, fr t);
    }

    go : (ys : List Bytes) → ((t : Bytes) → tagged σ t ys + σ.weigh t (final x xs) ≡ σ.weigh t x + tagged σ t xs) → Popped σ m k (final x xs) (out (shortened m k ys) (k ∷ []) (pair k (final x xs)))
    go [] fr = done (remove m k) None [] tt (changed-remove m k) (λ t. refl) fr
    go (y ∷ ys) fr = done (put m k (Items (y ∷ ys))) (Some (Items (y ∷ ys))) (y ∷ ys) tt (changed-put m k (Items (y ∷ ys))) (λ t. refl) fr

pub brpop_done : (σ : Names) (around : Around) (m : Keys) (ks : List Bytes) → Kinds σ m → Each σ.is_queue ks → Brpopped σ m (run around m (Brpop ks))
brpop_done σ around m [] kinds qs = inl refl
brpop_done σ around m (k ∷ ks) kinds qs = go (value_at m k) refl (kinds.lists k qs.0) (brpop_done σ around m ks kinds qs.1)
  where
    go : (o : Option Stored) → value_at m k ≡ o → IsListOrNone o → Brpopped σ m (brpop m ks) → Brpopped σ m (brpop_at m k o (brpop m ks))
    go None e is later = later
    go (Some (Items [])) e is later = later
    go (Some (Items (x ∷ xs))) e is later = inr (k, final x xs, popped_one σ m k x xs kinds qs.0 e)
    go (Some other) e is later = absurd is

-- ---- the table

-- after a command at k, what `has` says of x is `yes`, and of others what it was
pub record Marked (has : Option Stored → Bytes → Bool) (Kind : Option Stored → Type 0) (m m' : Keys) (k x : Bytes) (yes : Bool) : Type 0 where
  pub value : Option Stored
  pub change : Changed m m' k value
  pub kind : Kind value
  pub this : has value x ≡ yes
  pub others : (t : Bytes) → t ≢ x → has value t ≡ has (value_at m k) t

pub zadd_done : (around : Around) (m : Keys) (k : Bytes) (s : ℤ) (x : Bytes) → is_long x ≡ false → IsScoresOrNone (value_at m k) → Marked has_member IsScoresOrNone m (run around m (Zadd k s x)).keys k x true
zadd_done around m k s x short is = go (value_at m k) refl is
  where
    at : (h : FinMap bytes_cmp ℤ) → ((t : Bytes) → is_some (get h t) ≡ has_member (value_at m k) t) → Marked has_member IsScoresOrNone m (put m k (Scores (insert h x s))) k x true
    at h had = record {
      value = Some (Scores (insert h x s));
      change = changed-put m k (Scores (insert h x s));
      kind = tt;
      this = ap is_some (get-insert_same bytes_cmp bytes_total bytes_anti h x s);
      others = λ t n. ap is_some (get-insert_other bytes_cmp bytes_total bytes_anti h x s t n) ∙ had t;
    }

    by_score : (h : FinMap bytes_cmp ℤ) (t : ℤ) (b : Bool) → ((y : Bytes) → is_some (get h y) ≡ has_member (value_at m k) y) → get h x ≡ Some t → value_at m k ≡ Some (Scores h)
        → Marked has_member IsScoresOrNone m (if b then out m [] (number 0) else out (put m k (Scores (insert h x s))) (k ∷ []) (number 0)).keys k x true
    by_score h t true had there e = record {
      value = Some (Scores h);
      change = changed-nothing m k _ e;
      kind = tt;
      this = ap is_some there;
      others = λ y n. had y;
    }
    by_score h t false had there e = at h had

    over : (h : FinMap bytes_cmp ℤ) (r : Option ℤ) → ((y : Bytes) → is_some (get h y) ≡ has_member (value_at m k) y) → get h x ≡ r → (value_at m k ≡ Some (Scores h)) ⊎ (r ≡ None) → Marked has_member IsScoresOrNone m (zadd_over m k s x h r).keys k x true
    over h None had there e = at h had
    over h (Some t) had there (inl e) = by_score h t (int_le s t && int_le t s) had there e
    over h (Some t) had there (inr e) = cc e

    to : (h : FinMap bytes_cmp ℤ) (r : Option ℤ) (b : Bool) → b ≡ false → ((y : Bytes) → is_some (get h y) ≡ has_member (value_at m k) y) → get h x ≡ r → (value_at m k ≡ Some (Scores h)) ⊎ (r ≡ None)
        → Marked has_member IsScoresOrNone m (if b then out m [] full else zadd_over m k s x h r).keys k x true
    to h r true shut had there e = cc shut
    to h r false shut had there e = over h r had there e

    go : (o : Option Stored) → value_at m k ≡ o → IsScoresOrNone o → Marked has_member IsScoresOrNone m (zadd m k s x o).keys k x true
    go None e z = to empty (get empty x) (is_long x) short (λ t. ap is_some (get-empty bytes_cmp t) ∙ ap (λ o. has_member o t) (sym e)) refl (inr (get-empty bytes_cmp x))
    go (Some (Scores h)) e z = to h (get h x) (is_long x) short (λ t. ap (λ o. has_member o t) (sym e)) refl (inl e)
    go (Some other) e z = absurd z

pub hset_done : (around : Around) (m : Keys) (k x v : Bytes) → is_long x ≡ false → IsHashOrNone (value_at m k) → Marked has_field IsHashOrNone m (run around m (Hset k x v)).keys k x true
hset_done around m k x v short is = go (value_at m k) refl is
  where
    at : (h : FinMap bytes_cmp Bytes) → ((t : Bytes) → is_some (get h t) ≡ has_field (value_at m k) t) → Marked has_field IsHashOrNone m (put m k (Hash (insert h x v))) k x true
    at h had = record {
      value = Some (Hash (insert h x v));
      change = changed-put m k (Hash (insert h x v));
      kind = tt;
      this = ap is_some (get-insert_same bytes_cmp bytes_total bytes_anti h x v);
      others = λ t n. ap is_some (get-insert_other bytes_cmp bytes_total bytes_anti h x v t n) ∙ had t;
    }

    to : (h : FinMap bytes_cmp Bytes) (b : Bool) (a : Value) → b ≡ false → ((t : Bytes) → is_some (get h t) ≡ has_field (value_at m k) t)
        → Marked has_field IsHashOrNone m (if b then out m [] full else out (put m k (Hash (insert h x v))) (k ∷ []) a).keys k x true
    to h true a shut had = cc shut
    to h false a shut had = at h had

    go : (o : Option Stored) → value_at m k ≡ o → IsHashOrNone o → Marked has_field IsHashOrNone m (hset m k x v o).keys k x true
    go None e z = to empty (is_long x) _ short (λ t. ap is_some (get-empty bytes_cmp t) ∙ ap (λ o. has_field o t) (sym e))
    go (Some (Hash h)) e z = to h (is_long x) _ short (λ t. ap (λ o. has_field o t) (sym e))
    go (Some other) e z = absurd z

-- with no entry nothing is there
len_none : {X : Type 0} (h : FinMap bytes_cmp X) → len h ≡ 0 → (t : Bytes) → is_some (get h t) ≡ false
len_none h e t = ap (λ x. is_some (get x t)) (empty_of_len h e) ∙ ap is_some (get-empty bytes_cmp t)

absent : (b : Bool) → (if b then 1 else 0) + 0 ≡ zero → b ≡ false
absent true e = absurd (omega arith)
absent false e = refl

pub zrem_done : (around : Around) (m : Keys) (k x : Bytes) → IsScoresOrNone (value_at m k) → Marked has_member IsScoresOrNone m (run around m (Zrem k (x ∷ []))).keys k x false
zrem_done around m k x is = go (value_at m k) refl is
  where
    shut : (h : FinMap bytes_cmp ℤ) → value_at m k ≡ Some (Scores h) → (n : ℕ) → len (remove h x) ≡ n → Marked has_member IsScoresOrNone m (kept m k (Scores (remove h x)) n) k x false
    shut h e zero z = record {
      value = None;
      change = changed-remove m k;
      kind = tt;
      this = refl;
      others = λ t n.
          let a = len_none (remove h x) z t in
          let b : is_some (get (remove h x) t) ≡ is_some (get h t) = ap is_some (get-remove_other bytes_cmp bytes_total bytes_anti h x t n) in
          let c : has_member (value_at m k) t ≡ is_some (get h t) = ap (λ o. has_member o t) e in cc (a, b, c);
    }
    shut h e (suc p) z = record {
      value = Some (Scores (remove h x));
      change = changed-put m k (Scores (remove h x));
      kind = tt;
      this = ap is_some (get-remove_same bytes_cmp bytes_total bytes_anti h x);
      others = λ t n. ap is_some (get-remove_other bytes_cmp bytes_total bytes_anti h x t n) ∙ ap (λ o. has_member o t) (sym e);
    }

    taken : (h : FinMap bytes_cmp ℤ) → value_at m k ≡ Some (Scores h) → (n : ℕ) → (if is_some (get h x) then 1 else 0) + 0 ≡ n → Marked has_member IsScoresOrNone m (after_taking m k (Scores (remove h x)) (len (remove h x)) n).keys k x false
    taken h e zero z = record {
      value = Some (Scores h);
      change = changed-nothing m k _ e;
      kind = tt;
      this = absent (is_some (get h x)) z;
      others = λ t n. ap (λ o. has_member o t) (sym e);
    }
    taken h e (suc p) z = shut h e (len (remove h x)) refl

    go : (o : Option Stored) → value_at m k ≡ o → IsScoresOrNone o → Marked has_member IsScoresOrNone m (zrem m k (x ∷ []) o).keys k x false
    go None e z = record {
      value = None;
      change = changed-nothing m k _ e;
      kind = tt;
      this = refl;
      others = λ t n. ap (λ o. has_member o t) (sym e);
    }
    go (Some (Scores h)) e z = taken h e ((if is_some (get h x) then 1 else 0) + 0) refl
    go (Some other) e z = absurd z

pub hdel_done : (around : Around) (m : Keys) (k x : Bytes) → IsHashOrNone (value_at m k) → Marked has_field IsHashOrNone m (run around m (Hdel k (x ∷ []))).keys k x false
hdel_done around m k x is = go (value_at m k) refl is
  where
    shut : (h : FinMap bytes_cmp Bytes) → value_at m k ≡ Some (Hash h) → (n : ℕ) → len (remove h x) ≡ n → Marked has_field IsHashOrNone m (kept m k (Hash (remove h x)) n) k x false
    shut h e zero z = record {
      value = None;
      change = changed-remove m k;
      kind = tt;
      this = refl;
      others = λ t n.
          let a = len_none (remove h x) z t in
          let b : is_some (get (remove h x) t) ≡ is_some (get h t) = ap is_some (get-remove_other bytes_cmp bytes_total bytes_anti h x t n) in
          let c : has_field (value_at m k) t ≡ is_some (get h t) = ap (λ o. has_field o t) e in cc (a, b, c);
    }
    shut h e (suc p) z = record {
      value = Some (Hash (remove h x));
      change = changed-put m k (Hash (remove h x));
      kind = tt;
      this = ap is_some (get-remove_same bytes_cmp bytes_total bytes_anti h x);
      others = λ t n. ap is_some (get-remove_other bytes_cmp bytes_total bytes_anti h x t n) ∙ ap (λ o. has_field o t) (sym e);
    }

    taken : (h : FinMap bytes_cmp Bytes) → value_at m k ≡ Some (Hash h) → (n : ℕ) → (if is_some (get h x) then 1 else 0) + 0 ≡ n → Marked has_field IsHashOrNone m (after_taking m k (Hash (remove h x)) (len (remove h x)) n).keys k x false
    taken h e zero z = record {
      value = Some (Hash h);
      change = changed-nothing m k _ e;
      kind = tt;
      this = absent (is_some (get h x)) z;
      others = λ t n. ap (λ o. has_field o t) (sym e);
    }
    taken h e (suc p) z = shut h e (len (remove h x)) refl

    go : (o : Option Stored) → value_at m k ≡ o → IsHashOrNone o → Marked has_field IsHashOrNone m (hdel m k (x ∷ []) o).keys k x false
    go None e z = record {
      value = None;
      change = changed-nothing m k _ e;
      kind = tt;
      this = refl;
      others = λ t n. ap (λ o. has_field o t) (sym e);
    }
    go (Some (Hash h)) e z = taken h e ((if is_some (get h x) then 1 else 0) + 0) refl
    go (Some other) e z = absurd z

-- HDEL tells whether the field was there
pub hdel_answer : (around : Around) (m : Keys) (k x : Bytes) → IsHashOrNone (value_at m k) → (run around m (Hdel k (x ∷ []))).answer ≡ number ((if has_field (value_at m k) x then 1 else 0) + 0)
hdel_answer around m k x is = go (value_at m k) is
  where
    told : (h : FinMap bytes_cmp Bytes) (n : ℕ) → (after_taking m k (Hash (remove h x)) (len (remove h x)) n).answer ≡ number n
    told h zero = refl
    told h (suc p) = refl

    go : (o : Option Stored) → IsHashOrNone o → (hdel m k (x ∷ []) o).answer ≡ number ((if has_field o x then 1 else 0) + 0)
    go None z = refl
    go (Some (Hash h)) z = told h ((if is_some (get h x) then 1 else 0) + 0)
    go (Some other) z = absurd z

-- ---- RPUSH of one element

tagged-append : (σ : Names) (t : Bytes) (xs : List Bytes) (v : Bytes) → tagged σ t (xs ++ v ∷ []) ≡ tagged σ t xs + σ.weigh t v
tagged-append σ t [] v = omega arith
tagged-append σ t (x ∷ xs) v = let r = tagged-append σ t xs v in omega (arith, r)

pub rpush_done : (σ : Names) (around : Around) (m : Keys) (k v : Bytes) → Kinds σ m → σ.is_queue k ≡ true → Pushed σ m k v (run around m (Rpush k (v ∷ [])))
rpush_done σ around m k v ks q = go (value_at m k) refl (ks.lists k q)
  where
    at : (xs : List Bytes) (o : Option Stored) → value_at m k ≡ o → ((t : Bytes) → in_option σ t o ≡ tagged σ t xs) → Pushed σ m k v (put_list m k (xs ++ v ∷ []))
    at xs o e had =
        let ch = changed-put m k (Items (xs ++ v ∷ [])) in
        record {
          size = length (xs ++ v ∷ []);
          answer = refl;
          after = subst (λ x. QueueChanged σ m (put m k (Items (xs ++ v ∷ []))) k x) (sym ch.here) (queue_changed σ m _ k _ ks q tt ch);
          gains = λ t.
              let s = queue_sums σ m _ k _ q ch t in
              let h : in_option σ t (value_at m k) ≡ tagged σ t xs = ap (in_option σ t) e ∙ had t in
              let a = tagged-append σ t xs v in
              omega (arith, s, h, a);
        }

    go : (o : Option Stored) → value_at m k ≡ o → IsListOrNone o → Pushed σ m k v (rpush m k (v ∷ []) o)
    go None e is = at [] None e (λ t. refl)
    go (Some (Items xs)) e is = at xs (Some (Items xs)) e (λ t. refl)
    go (Some other) e is = absurd is
