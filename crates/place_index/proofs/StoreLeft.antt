-- The store that a walk of the code leaves is that of the world after a history.
use Rattle.std.proofs.Common.{◌≡◌, ℕ, List, [], ◌∷◌, ◌++◌, Bool, true, false, ◌==◌, if◌then◌else◌, refl, sym, ap, subst, ◌∙◌, Option, None, Some, is_some, option_map}
use Rattle.std.specs.Ordering.{nat_cmp}
use Rattle.std.specs.FinMap.{FinMap, empty, get, insert}
use Rattle.store_model.specs.Store.{empty_state}
use Rattle.command_blocks.specs.Calls.{call}
use Rattle.place_model.specs.Histories.{Client, SystemState, after_entries, conn_of, next, next_of, start_from, table}
use Rattle.place_index.specs.Stored.{store_after, store_next}
use Rattle.place_model.specs.declared.heard.Heard.{Heard}
use Rattle.place_model.specs.declared.history.Entry.{Entry}
use Rattle.place_model.specs.declared.history.Entry.TheVariants.{Call as Called, Heard as Noted, Stop}
use Rattle.queue_keys.proofs.Basics.{eqb_true}
use Rattle.place_index.proofs.Tellings.{get_put}

-- a value in the place of another leaves the same keys
still_there : {X : Type 0} (m : FinMap nat_cmp X) (k : ℕ) (old new : X) → get m k ≡ Some old → (c : ℕ) → is_some (get (insert m k new) c) ≡ is_some (get m c)
still_there m k old new e c = ap is_some (get_put m k new c) ∙ go (k == c) refl
  where
    go : (b : Bool) → (k == c) ≡ b → is_some (if b then Some new else get m c) ≡ is_some (get m c)
    go true s = let i : k ≡ c = eqb_true k c s in sym (ap is_some (subst (λ q. get m q ≡ Some old) i e))
    go false s = refl

-- an entry leaves the store that the code leaves, and the same clients
one : (w : SystemState) (e : Entry Heard) (o : Option Client) → get w.clients (conn_of e) ≡ o
    → ((next_of w e o).store ≡ store_next (is_some o) w.store e) × ((c : ℕ) → is_some (get (next_of w e o).clients c) ≡ is_some (get w.clients c))
one w e None is = (refl, λ c. refl)
one w (Called c at words reply) (Some cl) is = (refl, still_there w.clients c cl (record cl { calls = cl.calls ++ call at words reply.answer ∷ [] }) is)
one w (Noted c note) (Some cl) is = (refl, λ c. refl)
one w (Stop c) (Some cl) is = (refl, still_there w.clients c cl (record cl { stopped = true }) is)

-- an entry leaves the same, whatever is known of its client
step : (w : SystemState) (e : Entry Heard) → ((next w e).store ≡ store_next (is_some (get w.clients (conn_of e))) w.store e) × ((c : ℕ) → is_some (get (next w e).clients c) ≡ is_some (get w.clients c))
unfolding next
step w e = one w e (get w.clients (conn_of e)) refl

-- entries in a row
steps : {X : Type 0} (known : FinMap nat_cmp X) (es : List (Entry Heard)) (w : SystemState) → ((c : ℕ) → is_some (get known c) ≡ is_some (get w.clients c)) → store_after known w.store es ≡ (after_entries w es).store
steps known [] w h = refl
steps known (e ∷ es) w h =
    let s = step w e in
    ap (λ q. store_after known q es) (ap (λ b. store_next b w.store e) (h (conn_of e)) ∙ sym s.0)
    ∙ steps known es (next w e) (λ c. h c ∙ sym (s.1 c))

-- ---- the clients of a table

-- a table that has something of each client knows the same connections
some_same : {X : Type 0} (o : Option X) (r : Option Client) (f : Client → X) → o ≡ option_map f r → is_some o ≡ is_some r
some_same o None f e = ap is_some e
some_same o (Some cl) f e = ap is_some e

-- the store after a history that begins with no key
pub store_is : {X : Type 0} (f : Client → X) (known : FinMap nat_cmp X) (cs : List (ℕ × ℕ)) (es : List (Entry Heard)) → ((c : ℕ) → get known c ≡ option_map f (get (table cs) c))
    → store_after known empty_state es ≡ (after_entries (start_from empty cs) es).store
store_is f known cs es h = steps known es (start_from empty cs) (λ c. some_same (get known c) (get (table cs) c) f (h c))
