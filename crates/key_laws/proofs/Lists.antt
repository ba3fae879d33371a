-- Lists of keys of queues.
use Rattle.std.proofs.Common.{length, ap, suc, ◌*◌, arith, length-append, ◌≡◌, inl, inr, ℕ, List, [], ◌∷◌, ◌++◌, Bool, true, refl}
use Rattle.queue_keys.specs.Names.{Bytes, is_name}
use Rattle.queue_keys.specs.Layouts.{Layout, HasStep}
use Rattle.queue_keys.specs.QueueKeys.{queue_key, is_queue_key, Each, IsAway, Differ, keys_at, keys_by, pop_keys}
use Rattle.queue_keys.proofs.Splits.{key_is, key_parts}

each-append : (p : Bytes → Bool) (xs ys : List Bytes) → Each p xs → Each p ys → Each p (xs ++ ys)
each-append p [] ys a b = b
each-append p (x ∷ xs) ys a b = (a.0, each-append p xs ys a.1 b)

pub at_are : (l : Layout) (s : ℕ) (qs : List Bytes) → HasStep l.steps s → Each is_name qs → Each (is_queue_key l) (keys_at l s qs)
at_are l s [] h e = tt
at_are l s (q ∷ qs) h e = (key_is l q s e.0 h, at_are l s qs h e.1)

by_are : (l : Layout) (ss : List ℕ) (qs : List Bytes) → ((s : ℕ) → HasStep ss s → HasStep l.steps s) → Each is_name qs → Each (is_queue_key l) (keys_by l ss qs)
by_are l [] qs h e = tt
by_are l (s ∷ ss) qs h e = each-append (is_queue_key l) (keys_at l s qs) (keys_by l ss qs) (at_are l s qs (h s (inl refl)) e) (by_are l ss qs (λ t i. h t (inr i)) e)

-- the keys of a pop are keys of queues
pub pops_are : (l : Layout) (qs : List Bytes) → Each is_name qs → Each (is_queue_key l) (pop_keys l qs)
pops_are l qs e = by_are l l.steps qs (λ s h. h) e

away_at : (l : Layout) (s : ℕ) (q : Bytes) (qs : List Bytes) → HasStep l.steps s → is_name q ≡ true → Each is_name qs → IsAway q qs → IsAway (queue_key l q s) (keys_at l s qs)
away_at l s q [] h n e a = tt
away_at l s q (x ∷ qs) h n e a = (λ i. a.0 (key_parts l q s x s n e.0 h h i).0, away_at l s q qs h n e.1 a.1)

-- distinct queues have distinct keys at a step
pub at_differ : (l : Layout) (s : ℕ) (qs : List Bytes) → HasStep l.steps s → Each is_name qs → Differ qs → Differ (keys_at l s qs)
at_differ l s [] h e d = tt
at_differ l s (q ∷ qs) h e d = (away_at l s q qs h e.0 e.1 d.0, at_differ l s qs h e.1 d.1)

length-keys_at : (l : Layout) (s : ℕ) (qs : List Bytes) → length (keys_at l s qs) ≡ length qs
length-keys_at l s [] = refl
length-keys_at l s (q ∷ qs) = ap (λ n. suc n) (length-keys_at l s qs)

length-keys_by : (l : Layout) (ss : List ℕ) (qs : List Bytes) → length (keys_by l ss qs) ≡ length ss * length qs
length-keys_by l [] qs = omega arith
length-keys_by l (s ∷ ss) qs =
    let a = length-append (keys_at l s qs) (keys_by l ss qs) in
    let b = length-keys_at l s qs in
    let c = length-keys_by l ss qs in
    omega (arith, a, b, c)

-- a pop has a key for each of its queues at each step
pub length-pop_keys : (l : Layout) (qs : List Bytes) → length (pop_keys l qs) ≡ length l.steps * length qs
length-pop_keys l qs = length-keys_by l l.steps qs
