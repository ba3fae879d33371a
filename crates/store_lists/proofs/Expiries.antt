-- What EXPIRE leaves.
use Rattle.std.proofs.Common.{◌≡◌, ℕ, sym, ap, ◌∙◌, None, Some}
use Rattle.std.specs.FinMap.{get, insert, remove}
use Rattle.store_tables.proofs.Maps.{bytes_total, bytes_anti}
use Rattle.store_tables.proofs.Lookups.{insert-remove, remove_same}
use Rattle.store_model.specs.Words.{Bytes}
use Rattle.store_model.specs.Keys.{Keys, expire}
use Rattle.store_model.specs.declared.held.Held.{Held}

pub ends_none : (m n : Keys) (k : Bytes) (e : ℕ) → None ≡ get m k → n ≡ remove m k → n ≡ (expire m k e (get m k)).keys
ends_none m n k e none gone = gone ∙ remove_same bytes_total bytes_anti m k (sym none) ∙ ap (λ o. (expire m k e o).keys) none

pub ends_some : (m n p : Keys) (k : Bytes) (e : ℕ) (h : Held) → Some h ≡ get m k → n ≡ remove m k → p ≡ insert n k (record { value = h.value; expiry = Some e }) → p ≡ (expire m k e (get m k)).keys
ends_some m n p k e h some gone set =
    set ∙ ap (λ t. insert t k (record { value = h.value; expiry = Some e })) gone ∙ insert-remove bytes_total bytes_anti m k _ ∙ ap (λ o. (expire m k e o).keys) some
