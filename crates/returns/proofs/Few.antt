-- The keys to which a message returns have few bytes.
use Rattle.std.proofs.Common.{◌≡◌, ℕ, zero, suc, ◌≤◌, List, [], ◌∷◌, length, drop, Bool, true, false, refl, sym, ap, ◌∙◌, arith, ◌&&◌}
use Rattle.std.specs.Prelude.{nat_le}
use Rattle.std.proofs.lemmas.Bool.Decides.{nat_tests}
use Rattle.wire_grammar.specs.Fits.{IsShort}
use Rattle.queue_keys.specs.Layouts.{plain}
use Rattle.queue_keys.specs.Lookup.{queues_for, route_keys}
use Rattle.queue_keys.specs.Names.{Bytes, is_name}
use Rattle.queue_keys.specs.QueueKeys.{Each, keys_at, queue_key}
use Rattle.key_laws.proofs.Routes.{queues_named}
use Rattle.place_model.proofs.CommandLimits.{key_few}
use Rattle.returns.specs.Keys.{are_few}

both : (a b : Bool) → a ≡ true → b ≡ true → (a && b) ≡ true
both a b e f = ap (λ x. x && b) e ∙ f

parts : (a b : Bool) → (a && b) ≡ true → (a ≡ true) × (b ≡ true)
parts true b e = (refl, e)
parts false b e = cc

le_so : (n m : ℕ) → n ≤ m → nat_le n m ≡ true
le_so n m h = grind (arith, nat_tests)

at_few : (s : ℕ) (qs : List Bytes) → Each is_name qs → are_few (keys_at plain s qs) ≡ true
at_few s [] h = refl
at_few s (q ∷ qs) h = both (nat_le (length (queue_key plain q s)) 258) (are_few (keys_at plain s qs)) (le_so (length (queue_key plain q s)) 258 (key_few s q h.0)) (at_few s qs h.1)

-- the keys of a lookup
pub routes_few : (words : List Bytes) (s : ℕ) (e r : Bytes) (ms : List Bytes) → words ≡ route_keys plain s e r ms → are_few words ≡ true
routes_few words s e r ms is = ap are_few is ∙ at_few s (queues_for e r ms) (queues_named e r ms)

-- one of them
pub first_short : (ks : List Bytes) (k : Bytes) (i : ℕ) (rest : List Bytes) → are_few ks ≡ true → drop i ks ≡ k ∷ rest → IsShort k
first_short ks k i rest few is = by (drop i ks) (still ks i few) is where
  still : (ks : List Bytes) (i : ℕ) → are_few ks ≡ true → are_few (drop i ks) ≡ true
  still ks zero e = e
  still [] (suc i) e = refl
  still (x ∷ xs) (suc i) e = still xs i (parts (nat_le (length x) 258) (are_few xs) e).1

  by : (l : List Bytes) → are_few l ≡ true → l ≡ k ∷ rest → IsShort k
  by l e f =
      let g : nat_le (length k) 258 ≡ true = (parts (nat_le (length k) 258) (are_few rest) (ap are_few (sym f) ∙ e)).0 in
      let h : length k ≤ 258 = grind (arith, nat_tests) in
      omega (arith, h)
