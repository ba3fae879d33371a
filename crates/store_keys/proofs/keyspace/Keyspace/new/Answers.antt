use Rattle.std.proofs.Common.{sym, subst, List, ◌≡◌, []}
use Rattle.std.specs.FinMap.{from_entries}
use Rattle.store_model.specs.Words.{Bytes}
use Rattle.store_keys.specs.Expiries.{EndsFrom}
use Rattle.store_model.specs.declared.held.Held.{Held}
use Rattle.store_keys.proofs.Calm.{ends_empty}
use Rattle.store_keys.proofs.keyspace.Keyspace.new.Goals as goal

pub invariant_of-result : goal.invariant_of-result
invariant_of-result c =
    let P : List (Bytes × Held) → Type 0 = λ es. EndsFrom 18446744073709551615 (from_entries es) in
    subst P (sym c.new.ensures.empty) (ends_empty 18446744073709551615)
