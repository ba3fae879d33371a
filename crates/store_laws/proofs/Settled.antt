-- Settling drops just what is due, and marks who watches it.
use Rattle.std.proofs.Common.{◌≡◌, inl, inr, ℕ, List, [], ◌∷◌, Bool, true, false, cond, refl, sym, ap, subst, ◌∙◌, None, Some, Option, T}
use Rattle.std.specs.Prelude.{not, ◌||◌, bytes_eq, if◌then◌else◌}
use Rattle.std.specs.List.{list_any}
use Rattle.std.specs.Ordering.{eq_by_cmp}
use Rattle.std.specs.FinMap.{get, entries, entries_sorted, get-entries}
use Rattle.std.specs.FinMap.Entries.{find, is_sorted, below_all}
use Rattle.std.proofs.lemmas.Map.Text.{is_eq-slice_cmp}
use Rattle.wire_values.specs.Order.{bytes_cmp}
use Rattle.store_tables.proofs.Maps.{bytes_total, bytes_anti}
use Rattle.store_model.specs.Words.{Bytes}
use Rattle.store_model.specs.Keys.{Keys, expiry_of, is_over, is_expired, due_keys, live_at}
use Rattle.store_model.specs.Connections.{conn, touch}
use Rattle.store_model.specs.Store.{State, settled}
use Rattle.store_model.specs.declared.held.Held.{Held}
use Rattle.store_laws.specs.Laws.{IsTouched, DropsDue, MarksDue}
use Rattle.store_laws.proofs.Maps.{first, second, below_none, same_true}
use Rattle.store_laws.proofs.Live.{get-live}
use Rattle.store_laws.proofs.Law.{ToldBy, hit_alone}
use Rattle.store_laws.proofs.Connections.{conn-touched, touched_by}

-- what is due is gone, all else stays
pub get-live_at : (at : ℕ) (m : Keys) (k : Bytes) → get (live_at at m) k ≡ (if is_expired at (get m k) then None else get m k)
get-live_at at m k = get-live bytes_cmp bytes_total bytes_anti (λ h. is_over at h.expiry) m k ∙ go (get m k)
  where
    swap : (b : Bool) (o : Option Held) → cond (not b) o None ≡ (if b then None else o)
    swap true o = refl
    swap false o = refl

    go : (o : Option Held) → cond (not (is_expired at o)) o None ≡ (if is_expired at o then None else o)
    go o = swap (is_expired at o) o

pub lasting : (at : ℕ) (o : Option Held) → expiry_of o ≡ None → is_expired at o ≡ false
lasting at None e = refl
lasting at (Some h) e = ap (is_over at) e

pub get-lasting : (at : ℕ) (m : Keys) (k : Bytes) → expiry_of (get m k) ≡ None → get (live_at at m) k ≡ get m k
get-lasting at m k e = get-live_at at m k ∙ ap (λ b. if b then None else get m k) (lasting at (get m k) e)

pub get-not_due : (at : ℕ) (m : Keys) (k : Bytes) → is_expired at (get m k) ≡ false → get (live_at at m) k ≡ get m k
get-not_due at m k e = get-live_at at m k ∙ ap (λ b. if b then None else get m k) e

pub get-due : (at : ℕ) (m : Keys) (k : Bytes) → is_expired at (get m k) ≡ true → get (live_at at m) k ≡ None
get-due at m k e = get-live_at at m k ∙ ap (λ b. if b then None else get m k) e

-- after settling nothing is due
pub none_due : (at : ℕ) (m : Keys) (k : Bytes) → is_expired at (get (live_at at m) k) ≡ false
none_due at m k = ap (is_expired at) (get-live_at at m k) ∙ go (is_expired at (get m k)) refl
  where
    go : (b : Bool) → is_expired at (get m k) ≡ b → is_expired at (if b then None else get m k) ≡ false
    go true e = refl
    go false e = e

-- ---- which keys are due

module _ (at : ℕ) (k : Bytes) where
  unfound : (es : List (Bytes × Held)) → T (is_sorted bytes_cmp es) → list_any (bytes_eq k) (due_keys at es) ≡ is_expired at (find bytes_cmp k es)
  unfound [] sorted = refl
  unfound (e ∷ es) sorted = go (bytes_eq k e.0) (is_over at e.1.expiry) refl refl (unfound es (second (below_all bytes_cmp e.0 es) (is_sorted bytes_cmp es) sorted))
    where
      later : bytes_eq k e.0 ≡ true → is_expired at (find bytes_cmp k es) ≡ false
      later s = ap (is_expired at) (subst (λ x. find bytes_cmp x es ≡ None) (sym (same_true k e.0 s)) (below_none bytes_cmp bytes_total bytes_anti e.0 es (first (below_all bytes_cmp e.0 es) (is_sorted bytes_cmp es) sorted)))

      found : (b : Bool) → bytes_eq k e.0 ≡ b → is_expired at (cond (eq_by_cmp bytes_cmp k e.0) (Some e.1) (find bytes_cmp k es)) ≡ is_expired at (cond b (Some e.1) (find bytes_cmp k es))
      found b s = ap (λ x. is_expired at (cond x (Some e.1) (find bytes_cmp k es))) (is_eq-slice_cmp k e.0 ∙ s)

      go : (b over : Bool) → bytes_eq k e.0 ≡ b → is_over at e.1.expiry ≡ over → list_any (bytes_eq k) (due_keys at es) ≡ is_expired at (find bytes_cmp k es)
          → list_any (bytes_eq k) (if is_over at e.1.expiry then e.0 ∷ due_keys at es else due_keys at es) ≡ is_expired at (find bytes_cmp k (e ∷ es))
      go true true s o rest = ap (λ x. list_any (bytes_eq k) (if x then e.0 ∷ due_keys at es else due_keys at es)) o ∙ ap (λ x. x || list_any (bytes_eq k) (due_keys at es)) s ∙ sym (found true s ∙ o)
      go true false s o rest = ap (λ x. list_any (bytes_eq k) (if x then e.0 ∷ due_keys at es else due_keys at es)) o ∙ rest ∙ later s ∙ sym (found true s ∙ o)
      go false true s o rest = ap (λ x. list_any (bytes_eq k) (if x then e.0 ∷ due_keys at es else due_keys at es)) o ∙ ap (λ x. x || list_any (bytes_eq k) (due_keys at es)) s ∙ rest ∙ sym (found false s)
      go false false s o rest = ap (λ x. list_any (bytes_eq k) (if x then e.0 ∷ due_keys at es else due_keys at es)) o ∙ rest ∙ sym (found false s)

pub due_are : (at : ℕ) (m : Keys) (k : Bytes) → list_any (bytes_eq k) (due_keys at (entries m)) ≡ is_expired at (get m k)
due_are at m k = unfound at k (entries m) (entries_sorted m) ∙ ap (is_expired at) (sym (get-entries m k))

-- a key is among those that are due, or is as before
pub settled_told : (s : State) (at : ℕ) (k : Bytes) → ToldBy s.keys k (due_keys at (entries s.keys)) (settled s at).keys
settled_told s at k = go (is_expired at (get s.keys k)) refl
  where
    go : (b : Bool) → is_expired at (get s.keys k) ≡ b → ToldBy s.keys k (due_keys at (entries s.keys)) (settled s at).keys
    go true e = inl (hit_alone k (due_keys at (entries s.keys)) ∙ due_are at s.keys k ∙ e)
    go false e = inr (get-not_due at s.keys k e)

pub conn-settled : (s : State) (at c : ℕ) → conn (settled s at).conns c ≡ touch (due_keys at (entries s.keys)) (conn s.conns c)
conn-settled s at c = conn-touched (due_keys at (entries s.keys)) s.conns c

pub settled_conns : (s : State) (at c : ℕ) → IsTouched (due_keys at (entries s.keys)) (conn s.conns c) (conn (settled s at).conns c)
settled_conns s at c = subst (IsTouched (due_keys at (entries s.keys)) (conn s.conns c)) (sym (conn-settled s at c)) (touched_by (due_keys at (entries s.keys)) (conn s.conns c))

pub drops_due : (s : State) (at : ℕ) (k : Bytes) → DropsDue s at k
drops_due s at k = get-live_at at s.keys k

pub marks_due : (s : State) (at : ℕ) → MarksDue s at
marks_due s at = record { due = λ k. due_are at s.keys k; conns = λ c. conn-settled s at c }
