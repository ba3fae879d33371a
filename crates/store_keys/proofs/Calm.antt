-- Where no key is due nothing is dropped, and nobody is marked.
use Rattle.std.proofs.Common.{◌≡◌, ◌<◌, ◌≤◌, ℕ, List, [], ◌∷◌, Bool, true, false, cond, refl, sym, ap, subst, ◌∙◌, None, Some, Option, map, length, arith}
use Rattle.std.specs.Prelude.{not, ◌||◌}
use Rattle.std.proofs.lemmas.Bool.{lt-leb}
use Rattle.std.specs.List.{list_any}
use Rattle.std.specs.Ordering.{eq_by_cmp}
use Rattle.std.specs.Cmp.{nat_cmp_total}
use Rattle.std.specs.FinMap.{get, insert, remove, empty, entries, from_entries, same_map, get-empty, get-insert, get-remove, get-from_entries, get-retain_keys, nat_cmp-IsAntisymmetric}
use Rattle.std.specs.FinMap.Entries.{find}
use Rattle.wire_values.specs.Order.{bytes_cmp}
use Rattle.store_tables.proofs.Maps.{bytes_total, bytes_anti}
use Rattle.store_model.specs.Words.{Bytes}
use Rattle.store_model.specs.Keys.{Keys, is_expired, is_over, due_keys, live_at}
use Rattle.store_keys.specs.Expiries.{end_by, end_at, EndsFrom, AllEndFrom, IsCalm}
use Rattle.store_model.specs.Connections.{Conns, touch, touched}
use Rattle.store_model.specs.Store.{State, settled}
use Rattle.store_model.specs.declared.held.Held.{Held}
use Rattle.store_model.specs.declared.connection.Conn.{Conn}
use Rattle.store_keys.proofs.Dues.{any_false, any_same, made_again, touch_due_is}

-- ---- the moment before which no key expires

by_sooner : (n p : ℕ) (x : Option ℕ) → n ≤ p → p ≤ end_by p x → n ≤ end_by n x
by_sooner n p None h g = omega arith
by_sooner n p (Some e) h g = omega arith

at_sooner : (n p : ℕ) (o : Option Held) → n ≤ p → p ≤ end_at p o → n ≤ end_at n o
at_sooner n p None h g = omega arith
at_sooner n p (Some x) h g = by_sooner n p x.expiry h g

pub ends_sooner : (n p : ℕ) (m : Keys) → n ≤ p → EndsFrom p m → EndsFrom n m
ends_sooner n p m h g = λ k. at_sooner n p (get m k) h (g k)

pub ends_empty : (n : ℕ) → EndsFrom n empty
ends_empty n = λ k. let P : Option Held → Type 0 = λ o. n ≤ end_at n o in subst P (sym (get-empty bytes_cmp k)) (omega arith)

choice : (n : ℕ) (b : Bool) (o p : Option Held) → n ≤ end_at n o → n ≤ end_at n p → n ≤ end_at n (cond b o p)
choice n true o p h g = h
choice n false o p h g = g

pub ends_insert : (n : ℕ) (m : Keys) (k : Bytes) (x : Held) → n ≤ end_by n x.expiry → EndsFrom n m → EndsFrom n (insert m k x)
ends_insert n m k x h g = λ q.
    let P : Option Held → Type 0 = λ o. n ≤ end_at n o in
    subst P (sym (get-insert bytes_total m k x q)) (choice n (eq_by_cmp bytes_cmp q k) (Some x) (get m q) h (g q))

pub ends_remove : (n : ℕ) (m : Keys) (k : Bytes) → EndsFrom n m → EndsFrom n (remove m k)
ends_remove n m k g = λ q.
    let P : Option Held → Type 0 = λ o. n ≤ end_at n o in
    let none : n ≤ end_at n None = omega arith in
    subst P (sym (get-remove bytes_total m k q)) (choice n (eq_by_cmp bytes_cmp q k) None (get m q) none (g q))

found : (n : ℕ) (q : Bytes) (es : List (Bytes × Held)) → AllEndFrom n es → n ≤ end_at n (find bytes_cmp q es)
found n q [] h = omega arith
found n q (e ∷ es) h = choice n (eq_by_cmp bytes_cmp q e.0) (Some e.1) (find bytes_cmp q es) h.0 (found n q es h.1)

pub ends_made : (n : ℕ) (es : List (Bytes × Held)) → AllEndFrom n es → EndsFrom n (from_entries es)
ends_made n es h = λ q.
    let P : Option Held → Type 0 = λ o. n ≤ end_at n o in
    subst P (sym (get-from_entries bytes_total es q)) (found n q es h)

-- one entry more was looked at, and the moment is no later than its expiry
pub one_seen : (s p : ℕ) (e : Bytes × Held) (es fs : List (Bytes × Held)) → ((n : ℕ) → n ≤ s → AllEndFrom n (e ∷ es) → AllEndFrom n fs) → p ≤ s → p ≤ end_by p e.1.expiry
    → (n : ℕ) → n ≤ p → AllEndFrom n es → AllEndFrom n fs
one_seen s p e es fs before less ends n h rest = before n (omega arith) (by_sooner n p e.1.expiry h ends, rest)

-- ---- nothing is due before it

not_over : (at n : ℕ) (x : Option ℕ) → at < n → n ≤ end_by n x → is_over at x ≡ false
not_over at n None h g = refl
not_over at n (Some e) h g = lt-leb e at (omega arith)

not_due : (at n : ℕ) (o : Option Held) → at < n → n ≤ end_at n o → is_expired at o ≡ false
not_due at n None h g = refl
not_due at n (Some x) h g = not_over at n x.expiry h g

pub calm_before : (at n : ℕ) (m : Keys) → at < n → EndsFrom n m → IsCalm at m
calm_before at n m h g = λ k. not_due at n (get m k) h (g k)

live_calm : (at : ℕ) (m : Keys) → IsCalm at m → live_at at m ≡ m
live_calm at m h = same_map bytes_total bytes_anti _ _ (λ q.
    get-retain_keys m (λ k. not (is_expired at (get m k))) q (λ x t. ap (λ y. not (is_expired at (get m y))) (sym (bytes_anti q x t)))
    ∙ ap (λ b. cond (not b) (get m q) None) (h q))

unmarked : (b : Bool) → (b || false) ≡ b
unmarked true = refl
unmarked false = refl

same_conn : (c : Conn) (b : Bool) → b ≡ false → record c { marked = c.marked || b } ≡ c
same_conn c b e = (λ i. record c { marked = c.marked || e i }) ∙ (λ i. record c { marked = unmarked c.marked i })

untouched : (at : ℕ) (m : Keys) (c : Conn) → IsCalm at m → touch (due_keys at (entries m)) c ≡ c
untouched at m c h =
    sym (touch_due_is at m c)
    ∙ same_conn c (list_any (λ k. is_expired at (get m k)) c.watched) (any_same (λ k. is_expired at (get m k)) (λ k. false) c.watched h ∙ any_false c.watched)

map_same : (f : Conn → Conn) → ((c : Conn) → f c ≡ c) → (es : List (ℕ × Conn)) → map (λ e. (e.0, f e.1)) es ≡ es
map_same f h [] = refl
map_same f h (e ∷ es) = λ i. (e.0, h e.1 i) ∷ map_same f h es i

-- where no connection changes they are as before
pub touched_same : (ks : List Bytes) (cs : Conns) → ((c : Conn) → touch ks c ≡ c) → touched ks cs ≡ cs
unfolding touched
touched_same ks cs h = ap from_entries (map_same (touch ks) h (entries cs)) ∙ made_again nat_cmp_total nat_cmp-IsAntisymmetric cs

-- where no key was altered nobody is marked
pub touched_none : (ks : List Bytes) (cs : Conns) → length ks ≡ 0 → cs ≡ touched ks cs
touched_none [] cs h = sym (touched_same [] cs (λ c. same_conn c false refl))
touched_none (k ∷ ks) cs h = absurd (omega (arith, h))

pub settled_calm : (at : ℕ) (s : State) → IsCalm at s.keys → settled s at ≡ s
settled_calm at s h =
    let keys : live_at at s.keys ≡ s.keys = live_calm at s.keys h in
    let conns : touched (due_keys at (entries s.keys)) s.conns ≡ s.conns = touched_same _ s.conns (λ c. untouched at s.keys c h) in
    λ i. record { keys = keys i; conns = conns i }
