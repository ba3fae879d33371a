-- The store after a history, by the clients of its table. Serves the proofs of code.
use Rattle.std.specs.Prelude.{Bool, true, false, List, [], ◌∷◌, is_some}
use Rattle.std.specs.FinMap.{FinMap, get}
use Rattle.std.specs.Ordering.{nat_cmp}
use Rattle.store_model.specs.Store.{State, apply_of, gone_of}
use Rattle.place_model.specs.Histories.{conn_of}
use Rattle.place_model.specs.declared.history.Entry.{Entry}
use Rattle.place_model.specs.declared.history.Entry.TheVariants.{Call as Called, Heard as Noted, Stop}

-- the store after an entry, by whether its client is in the table
abbrev pub store_next : {N : Type 0} → Bool → State → Entry N → State
store_next false s e = s
store_next true s (Called c at words reply) = (apply_of s at c words).0
store_next true s (Noted c note) = s
store_next true s (Stop c) = gone_of s c

-- the store after entries in a row of the clients that have a value
abbrev pub store_after : {N X : Type 0} → FinMap nat_cmp X → State → List (Entry N) → State
store_after known s [] = s
store_after known s (e ∷ es) = store_after known (store_next (is_some (get known (conn_of e))) s e) es
