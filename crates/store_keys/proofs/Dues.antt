-- Keys that are due: those that are dropped, and the connections that watch them.
use Rattle.std.proofs.Common.{◌≡◌, ℕ, List, [], ◌∷◌, Bool, true, false, cond, refl, sym, ap, ◌∙◌, None, Some, Option, T}
use Rattle.std.specs.Prelude.{not, ◌||◌, ◌&&◌, bytes_eq, filter}
use Rattle.std.specs.List.{list_any, AllByRecursion}
use Rattle.std.specs.List.Sorted.{IsStrictlySortedBy}
use Rattle.std.specs.Map.{keys_of}
use Rattle.std.specs.declared.cmp.Ordering.TheVariants.{Less, Equal, Greater}
use Rattle.std.specs.Ordering.{eq_by_cmp, is_eq, is_lt}
use Rattle.std.specs.declared.cmp.Ordering.{Ordering}
use Rattle.std.specs.Cmp.{IsTotalOrder, eq_by_cmp_equiv}
use Rattle.std.specs.Cmp.Lexicographic.{texts_ties}
use Rattle.std.specs.FinMap.{FinMap, IsAntisymmetric, get, entries, entries_sorted, same_entries_map, from_entries, same_map, get-from_entries, get-retain_keys}
use Rattle.std.specs.FinMap.Entries.{find, below_all, is_sorted}
use Rattle.wire_values.specs.Order.{bytes_cmp}
use Rattle.store_tables.proofs.Maps.{bytes_total, bytes_anti, entries_made}
use Rattle.store_tables.proofs.Lookups.{tied_same}
use Rattle.store_model.specs.Words.{Bytes}
use Rattle.store_model.specs.Keys.{Keys, is_over, is_expired, due_keys, live_at}
use Rattle.store_model.specs.Connections.{hit, touch, touch_due}
use Rattle.store_model.specs.declared.held.Held.{Held}
use Rattle.store_model.specs.declared.connection.Conn.{Conn}

first : (a b : Bool) → T (a && b) → T a
first true b p = tt
first false b p = p

second : (a b : Bool) → T (a && b) → T b
second true b p = p
second false b p = absurd p

less : (r : Ordering) → T (is_lt r) → r ≡ Less
less Less p = refl
less Equal p = absurd p
less Greater p = absurd p

-- what isn't due
abbrev lasting : ℕ → Option Held → Option Held
lasting at o = cond (not (is_expired at o)) o None

abbrev pub not_over : ℕ → Bytes × Held → Bool
not_over at e = not (is_over at e.1.expiry)

absent : (q : Bytes) (es : List (Bytes × Held)) → AllByRecursion (λ y. bytes_cmp q y ≡ Less) (keys_of es) → find bytes_cmp q es ≡ None
absent q [] h = refl
absent q (e ∷ es) h = ap (λ r. cond (is_eq r) (Some e.1) (find bytes_cmp q es)) h.0 ∙ absent q es h.1

absent_at : (q : Bytes) (e : Bytes × Held) (es : List (Bytes × Held)) → AllByRecursion (λ y. bytes_cmp e.0 y ≡ Less) (keys_of es) → eq_by_cmp bytes_cmp q e.0 ≡ true → find bytes_cmp q es ≡ None
absent_at q e es h t = ap (λ k. find bytes_cmp k es) (tied_same bytes_total bytes_anti q e.0 t) ∙ absent e.0 es h

-- one entry more, by whether it has the key and whether it is over
one_more : (at : ℕ) (q : Bytes) (e : Bytes × Held) (es : List (Bytes × Held)) (same over : Bool) → is_over at e.1.expiry ≡ over → (same ≡ true → find bytes_cmp q es ≡ None) → find bytes_cmp q (filter (not_over at) es) ≡ lasting at (find bytes_cmp q es)
    → cond (not over) (cond same (Some e.1) (find bytes_cmp q (filter (not_over at) es))) (find bytes_cmp q (filter (not_over at) es)) ≡ lasting at (cond same (Some e.1) (find bytes_cmp q es))
one_more at q e es true true o n later = later ∙ ap (lasting at) (n refl) ∙ sym (ap (λ b. cond (not b) (Some e.1) None) o)
one_more at q e es true false o n later = sym (ap (λ b. cond (not b) (Some e.1) None) o)
one_more at q e es false true o n later = later
one_more at q e es false false o n later = later

moved : {X : Type 0} (c : Bool) (q : Bytes) (e : Bytes × X) (es : List (Bytes × X)) → find bytes_cmp q (cond c (e ∷ es) es) ≡ cond c (cond (eq_by_cmp bytes_cmp q e.0) (Some e.1) (find bytes_cmp q es)) (find bytes_cmp q es)
moved true q e es = refl
moved false q e es = refl

find-lasting : (at : ℕ) (q : Bytes) (es : List (Bytes × Held)) → IsStrictlySortedBy bytes_cmp (keys_of es) → find bytes_cmp q (filter (not_over at) es) ≡ lasting at (find bytes_cmp q es)
unfolding IsStrictlySortedBy
find-lasting at q [] h = refl
find-lasting at q (e ∷ es) h =
    moved (not_over at e) q e (filter (not_over at) es)
    ∙ one_more at q e es (eq_by_cmp bytes_cmp q e.0) (is_over at e.1.expiry) refl (absent_at q e es h.0) (find-lasting at q es h.1)

-- the entries that aren't over are the map without the keys that are due
pub live_made : (at : ℕ) (es : List (Bytes × Held)) → IsStrictlySortedBy bytes_cmp (keys_of es) → from_entries {R = bytes_cmp} (filter (not_over at) es) ≡ live_at at (from_entries es)
live_made at es h =
    let m : Keys = from_entries es in
    same_map bytes_total bytes_anti _ _ (λ q.
    get-from_entries bytes_total (filter (not_over at) es) q ∙ find-lasting at q es h
    ∙ sym (ap (lasting at) (get-from_entries bytes_total es q))
    ∙ sym (get-retain_keys m (λ k. not (is_expired at (get m k))) q (λ x t. ap (λ y. not (is_expired at (get m y))) (sym (bytes_anti q x t)))))

-- ---- marks

pub any_false : {A : Type 0} (ws : List A) → list_any (λ w. false) ws ≡ false
any_false [] = refl
any_false (w ∷ ws) = any_false ws

or_four : (a b c d : Bool) → ((a || b) || (c || d)) ≡ ((a || c) || (b || d))
or_four true b c d = refl
or_four false true true d = refl
or_four false true false d = refl
or_four false false c d = refl

any_or : {A : Type 0} (p q : A → Bool) (ws : List A) → list_any (λ w. p w || q w) ws ≡ (list_any p ws || list_any q ws)
any_or p q [] = refl
any_or p q (w ∷ ws) = ap (λ b. (p w || q w) || b) (any_or p q ws) ∙ or_four (p w) (q w) (list_any p ws) (list_any q ws)

any_swap : (ks ws : List Bytes) → list_any (λ k. list_any (bytes_eq k) ws) ks ≡ list_any (λ w. list_any (λ k. bytes_eq k w) ks) ws
any_swap [] ws = sym (any_false ws)
any_swap (k ∷ ks) ws = ap (λ b. list_any (bytes_eq k) ws || b) (any_swap ks ws) ∙ sym (any_or (bytes_eq k) (λ w. list_any (λ k. bytes_eq k w) ks) ws)

pub any_same : {A : Type 0} (p q : A → Bool) (ws : List A) → ((w : A) → p w ≡ q w) → list_any p ws ≡ list_any q ws
any_same p q ws h = ap (λ f. list_any f ws) (λ i w. h w i)

tied : (k w : Bytes) → bytes_eq k w ≡ eq_by_cmp bytes_cmp w k
tied k w = texts_ties k w ∙ (eq_by_cmp_equiv bytes_total).symm k w

one_due : (at : ℕ) (w : Bytes) (e : Bytes × Held) (es : List (Bytes × Held)) (same over : Bool) → is_over at e.1.expiry ≡ over → (same ≡ true → find bytes_cmp w es ≡ None) → list_any (λ k. bytes_eq k w) (due_keys at es) ≡ is_expired at (find bytes_cmp w es)
    → cond over (same || list_any (λ k. bytes_eq k w) (due_keys at es)) (list_any (λ k. bytes_eq k w) (due_keys at es)) ≡ is_expired at (cond same (Some e.1) (find bytes_cmp w es))
one_due at w e es true true o n later = sym o
one_due at w e es true false o n later = later ∙ ap (is_expired at) (n refl) ∙ sym o
one_due at w e es false true o n later = later
one_due at w e es false false o n later = later

any_moved : (c : Bool) (w : Bytes) (k : Bytes) (ks : List Bytes) → list_any (λ k. bytes_eq k w) (cond c (k ∷ ks) ks) ≡ cond c (eq_by_cmp bytes_cmp w k || list_any (λ k. bytes_eq k w) ks) (list_any (λ k. bytes_eq k w) ks)
any_moved true w k ks = ap (λ b. b || list_any (λ k. bytes_eq k w) ks) (tied k w)
any_moved false w k ks = refl

due_among : (at : ℕ) (w : Bytes) (es : List (Bytes × Held)) → IsStrictlySortedBy bytes_cmp (keys_of es) → list_any (λ k. bytes_eq k w) (due_keys at es) ≡ is_expired at (find bytes_cmp w es)
unfolding IsStrictlySortedBy
due_among at w [] h = refl
due_among at w (e ∷ es) h =
    any_moved (is_over at e.1.expiry) w e.0 (due_keys at es)
    ∙ one_due at w e es (eq_by_cmp bytes_cmp w e.0) (is_over at e.1.expiry) refl (absent_at w e es h.0) (due_among at w es h.1)

below_strictly : {K X : Type 0} (R : K → K → Ordering) (x : K) (es : List (K × X)) → T (below_all R x es) → AllByRecursion (λ y. R x y ≡ Less) (keys_of es)
below_strictly R x [] h = tt
below_strictly R x (e ∷ es) h = (less (R x e.0) (first (is_lt (R x e.0)) (below_all R x es) h), below_strictly R x es (second (is_lt (R x e.0)) (below_all R x es) h))

sorted_strictly : {K X : Type 0} (R : K → K → Ordering) (es : List (K × X)) → T (is_sorted R es) → IsStrictlySortedBy R (keys_of es)
unfolding IsStrictlySortedBy
sorted_strictly R [] h = tt
sorted_strictly R (e ∷ es) h = (below_strictly R e.0 es (first (below_all R e.0 es) (is_sorted R es) h), sorted_strictly R es (second (below_all R e.0 es) (is_sorted R es) h))

-- a map's keys rise
pub strictly : {K X : Type 0} {R : K → K → Ordering} (m : FinMap R X) → IsStrictlySortedBy R (keys_of (entries m))
strictly {R = R} m = sorted_strictly R (entries m) (entries_sorted m)

-- a map is made of its entries
pub made_again : {K X : Type 0} {R : K → K → Ordering} → IsTotalOrder R → IsAntisymmetric R → (m : FinMap R X) → from_entries {R = R} (entries m) ≡ m
made_again total anti m = same_entries_map _ _ (entries_made total anti (entries m) (strictly m))

-- one of the keys that are due is watched exactly where a watched key is due
pub due_hit : (at : ℕ) (es : List (Bytes × Held)) → IsStrictlySortedBy bytes_cmp (keys_of es) → (ws : List Bytes) → list_any (λ w. is_expired at (get (from_entries {R = bytes_cmp} es) w)) ws ≡ hit (due_keys at (entries (from_entries {R = bytes_cmp} es))) ws
due_hit at es h ws =
    any_same _ _ ws (λ w. ap (is_expired at) (get-from_entries bytes_total es w) ∙ sym (due_among at w es h))
    ∙ sym (any_swap (due_keys at es) ws)
    ∙ sym (ap (λ t. hit (due_keys at t) ws) (entries_made bytes_total bytes_anti es h))

-- so the connections are marked as for the keys that are due
pub touch_due_is : (at : ℕ) (m : Keys) (c : Conn) → touch_due at m c ≡ touch (due_keys at (entries m)) c
touch_due_is at m c =
    let es = entries m in
    let made : from_entries es ≡ m = made_again bytes_total bytes_anti m in
    let same : list_any (λ w. is_expired at (get m w)) c.watched ≡ hit (due_keys at (entries m)) c.watched =
    ap (λ t. list_any (λ w. is_expired at (get t w)) c.watched) (sym made) ∙ due_hit at es (strictly m) c.watched ∙ ap (λ t. hit (due_keys at (entries t)) c.watched) made in
    λ i. record c { marked = c.marked || same i }
