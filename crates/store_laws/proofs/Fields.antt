-- The fields of a hash before and after HSET and HDEL, and the members of a sorted set after ZADD and ZREM.
use Rattle.std.proofs.Common.{◌≡◌, ◌≢◌, ◌⊎◌, inl, inr, ℕ, zero, suc, [], ◌∷◌, Bool, true, false, refl, sym, ap, subst, ◌∙◌, None, Some, Option}
use Rattle.std.specs.Prelude.{if◌then◌else◌}
use Rattle.std.specs.FinMap.{FinMap, get, insert, remove, empty, len, get-empty}
use Rattle.wire_values.specs.Order.{bytes_cmp}
use Rattle.wire_values.specs.declared.value.Value.{Value}
use Rattle.store_tables.proofs.Maps.{bytes_total, bytes_anti}
use Rattle.store_model.specs.Words.{Bytes}
use Rattle.store_model.specs.Replies.{full}
use Rattle.store_model.specs.Keys.{Keys, value_at, put, out, is_long, kept, after_taking}
use Rattle.store_model.specs.Hashes.{hset, hdel}
use Rattle.store_model.specs.Commands.{Around, run}
use Rattle.store_model.specs.declared.command.Command.TheVariants.{Hset, Hdel}
use Rattle.store_model.specs.declared.held.Stored.{Stored}
use Rattle.store_model.specs.declared.held.Stored.TheVariants.{Hash}
use Rattle.store_laws.proofs.Maps.{get-insert_same, get-insert_other, get-remove_same, get-remove_other, same_or}
use Rattle.store_laws.proofs.Changes.{IsHashOrNone, field_of, changed-put, changed-remove}

some_inj : (x y : Bytes) → Some x ≡ Some y → x ≡ y
some_inj x y e = cc e

-- a field after HSET was there before, or is the one that was set
pub hset_from : (e : Around) (m : Keys) (k x u t w : Bytes) → IsHashOrNone (value_at m k) → field_of (value_at (run e m (Hset k x u)).keys k) t ≡ Some w → (field_of (value_at m k) t ≡ Some w) ⊎ ((x ≡ t) × (u ≡ w))
hset_from e m k x u t w is st = go (value_at m k) refl is st
  where
    at : (h : FinMap bytes_cmp Bytes) → ((y : Bytes) → get h y ≡ field_of (value_at m k) y) → field_of (value_at (put m k (Hash (insert h x u))) k) t ≡ Some w → (field_of (value_at m k) t ≡ Some w) ⊎ ((x ≡ t) × (u ≡ w))
    at h had is' = by (same_or t x)
      where
        now : get (insert h x u) t ≡ Some w
        now = sym (ap (λ o. field_of o t) (changed-put m k (Hash (insert h x u))).here) ∙ is'

        by : (t ≡ x) ⊎ (t ≢ x) → (field_of (value_at m k) t ≡ Some w) ⊎ ((x ≡ t) × (u ≡ w))
        by (inl same) = inr (sym same, some_inj u w (sym (get-insert_same bytes_cmp bytes_total bytes_anti h x u) ∙ subst (λ z. get (insert h x u) z ≡ Some w) same now))
        by (inr n) = inl (sym (had t) ∙ sym (get-insert_other bytes_cmp bytes_total bytes_anti h x u t n) ∙ now)

    to : (h : FinMap bytes_cmp Bytes) (b : Bool) (a : Value) → ((y : Bytes) → get h y ≡ field_of (value_at m k) y) → field_of (value_at (if b then out m [] full else out (put m k (Hash (insert h x u))) (k ∷ []) a).keys k) t ≡ Some w
        → (field_of (value_at m k) t ≡ Some w) ⊎ ((x ≡ t) × (u ≡ w))
    to h true a had is' = inl is'
    to h false a had is' = at h had is'

    go : (o : Option Stored) → value_at m k ≡ o → IsHashOrNone o → field_of (value_at (hset m k x u o).keys k) t ≡ Some w → (field_of (value_at m k) t ≡ Some w) ⊎ ((x ≡ t) × (u ≡ w))
    go None was z is' = to empty (is_long x) _ (λ y. get-empty bytes_cmp y ∙ sym (ap (λ o. field_of o y) was)) is'
    go (Some (Hash h)) was z is' = to h (is_long x) _ (λ y. sym (ap (λ o. field_of o y) was)) is'
    go (Some other) was z is' = absurd z

-- the field that HSET set
pub hset_here : (e : Around) (m : Keys) (k x u : Bytes) → is_long x ≡ false → IsHashOrNone (value_at m k) → field_of (value_at (run e m (Hset k x u)).keys k) x ≡ Some u
hset_here e m k x u short is = go (value_at m k) is
  where
    to : (h : FinMap bytes_cmp Bytes) (b : Bool) (a : Value) → b ≡ false → field_of (value_at (if b then out m [] full else out (put m k (Hash (insert h x u))) (k ∷ []) a).keys k) x ≡ Some u
    to h true a long = cc long
    to h false a long = ap (λ o. field_of o x) (changed-put m k (Hash (insert h x u))).here ∙ get-insert_same bytes_cmp bytes_total bytes_anti h x u

    go : (o : Option Stored) → IsHashOrNone o → field_of (value_at (hset m k x u o).keys k) x ≡ Some u
    go None z = to empty (is_long x) _ short
    go (Some (Hash h)) z = to h (is_long x) _ short
    go (Some other) z = absurd z

-- a field after HDEL was there before
pub hdel_from : (e : Around) (m : Keys) (k x t w : Bytes) → IsHashOrNone (value_at m k) → field_of (value_at (run e m (Hdel k (x ∷ []))).keys k) t ≡ Some w → field_of (value_at m k) t ≡ Some w
hdel_from e m k x t w is st = go (value_at m k) refl is st
  where
    shut : (h : FinMap bytes_cmp Bytes) (n : ℕ) → value_at m k ≡ Some (Hash h) → field_of (value_at (kept m k (Hash (remove h x)) n) k) t ≡ Some w → field_of (value_at m k) t ≡ Some w
    shut h zero was is' = let z = ap (λ o. field_of o t) (changed-remove m k).here in absurd (cc (z, is'))
    shut h (suc n) was is' = by (same_or t x)
      where
        now : get (remove h x) t ≡ Some w
        now = sym (ap (λ o. field_of o t) (changed-put m k (Hash (remove h x))).here) ∙ is'

        by : (t ≡ x) ⊎ (t ≢ x) → field_of (value_at m k) t ≡ Some w
        by (inl same) = let z = get-remove_same bytes_cmp bytes_total bytes_anti h x in let y : get (remove h x) x ≡ Some w = subst (λ q. get (remove h x) q ≡ Some w) same now in absurd (cc (z, y))
        by (inr n') = ap (λ o. field_of o t) was ∙ sym (get-remove_other bytes_cmp bytes_total bytes_anti h x t n') ∙ now

    taken : (h : FinMap bytes_cmp Bytes) (p : ℕ) → value_at m k ≡ Some (Hash h) → field_of (value_at (after_taking m k (Hash (remove h x)) (len (remove h x)) p).keys k) t ≡ Some w → field_of (value_at m k) t ≡ Some w
    taken h zero was is' = is'
    taken h (suc p) was is' = shut h (len (remove h x)) was is'

    go : (o : Option Stored) → value_at m k ≡ o → IsHashOrNone o → field_of (value_at (hdel m k (x ∷ []) o).keys k) t ≡ Some w → field_of (value_at m k) t ≡ Some w
    go None was z is' = is'
    go (Some (Hash h)) was z is' = taken h _ was is'
    go (Some other) was z is' = absurd z
