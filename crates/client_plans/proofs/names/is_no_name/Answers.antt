use Rattle.std.proofs.Common.{arith, ◌≡◌, [], ◌∷◌, ◌&&◌, refl, ap}
use Rattle.std.specs.List.{list_all}
use Rattle.queue_keys.specs.Names.{Bytes, all_free, is_free}
use Rattle.client_plans.proofs.names.is_no_name.Goals as goal

free_bytes : (q : Bytes) → list_all is_free q ≡ all_free q
free_bytes [] = refl
free_bytes (b ∷ q) = ap (λ t. is_free b && t) (free_bytes q)

pub returns : goal.returns
returns c = grind (arith, free_bytes)
