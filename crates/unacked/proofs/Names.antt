-- Lawful names, one more.
use Rattle.std.proofs.Common.{◌≡◌, ℕ, ◌+◌, ◌<◌, List, [], ◌∷◌, ◌++◌, length, get_or, take, Bool, true, false, refl, ap, ◌∙◌, arith, ◌&&◌}
use Rattle.std.proofs.lemmas.Grind.{common_steps}
use Rattle.queue_keys.specs.Names.{Bytes, is_name}
use Rattle.unacked.specs.Queues.{are_names}

-- both tests hold
pub and_is : (a b : Bool) → (a && b) ≡ true → (a ≡ true) × (b ≡ true)
and_is true b e = (refl, e)
and_is false b e = cc

are_names-append : (qs : List Bytes) (q : Bytes) → are_names qs ≡ true → is_name q ≡ true → are_names (qs ++ q ∷ []) ≡ true
are_names-append [] q e f = ap (λ b. b && true) f
are_names-append (x ∷ xs) q e f = let h = and_is (is_name x) (are_names xs) e in ap (λ b. b && are_names (xs ++ q ∷ [])) h.0 ∙ are_names-append xs q h.1 f

one_more_of : (qs : List Bytes) (i : ℕ) (q : Bytes) → i < length qs → q ≡ get_or qs i q → take (i + 1) qs ≡ take i qs ++ q ∷ []
one_more_of qs i q lt at = grind (arith, common_steps)

-- the names so far, with the next one
pub names_more : (qs : List Bytes) (i : ℕ) (q : Bytes) → i < length qs → q ≡ get_or qs i q → are_names (take i qs) ≡ true → is_name q ≡ true → are_names (take (i + 1) qs) ≡ true
names_more qs i q lt at e f = ap are_names (one_more_of qs i q lt at) ∙ are_names-append (take i qs) q e f

pub no_some : false ≡ true → ⊥
no_some e = cc
