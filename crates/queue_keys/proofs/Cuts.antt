-- Where a key is cut into the name of its queue and the mark of its step.
use Rattle.std.proofs.Common.{◌≡◌, ℕ, suc, ◌+◌, ◌<◌, ◌≤◌, List, [], ◌∷◌, ◌++◌, length, take, drop, get_or, Bool, true, false, not, cond, ◌==◌, if◌then◌else◌, refl, sym, ap, subst, ◌∙◌, arith, position, Option, None, Some, option_and_then, append_assoc, append-nil, length-append}
use Rattle.std.specs.List.{position_or_len}
use Rattle.std.proofs.lemmas.Grind.{common_steps}
use Rattle.queue_keys.specs.Names.{Bytes}
use Rattle.queue_keys.specs.Layouts.{Layout, plain}
use Rattle.queue_keys.specs.QueueKeys.{if_name, keys_at, marked_step, mark_part, name_part, queue_key, split_key}
use Rattle.queue_keys.proofs.Splits.{name_and_mark}

-- the first 06 stands where the name ends
pub six_at : (k : Bytes) → position_or_len (λ b. b == 6) k ≡ length (name_part k)
six_at [] = refl
six_at (b ∷ k) = one (b == 6) (six_at k)
  where
    one : (t : Bool) → position_or_len (λ b. b == 6) k ≡ length (name_part k) → cond (not t) (1 + position_or_len (λ b. b == 6) k) 0 ≡ length (if t then [] else b ∷ name_part k)
    one true e = refl
    one false e = let n : ℕ = length (name_part k) in let f : 1 + n ≡ suc n = omega arith in ap (λ m. 1 + m) e ∙ f

pub name_within : (k : Bytes) → length (name_part k) ≤ length k
name_within k = let e : length (name_part k) + length (mark_part k) ≡ length k = sym (length-append (name_part k) (mark_part k)) ∙ ap length (name_and_mark k) in omega arith

pub name_taken : (k : Bytes) → take (length (name_part k)) k ≡ name_part k
name_taken k = ap (take (length (name_part k))) (sym (name_and_mark k)) ∙ front (name_part k) (mark_part k)
  where
    front : (x y : Bytes) → take (length x) (x ++ y) ≡ x
    front x y = search common_steps

pub mark_left : (k : Bytes) → drop (length (name_part k)) k ≡ mark_part k
mark_left k = ap (drop (length (name_part k))) (sym (name_and_mark k)) ∙ back (name_part k) (mark_part k)
  where
    back : (x y : Bytes) → drop (length x) (x ++ y) ≡ y
    back x y = search common_steps

-- a place where the test finds it, or the length where it finds none
pub place_is : (k : Bytes) (i : ℕ) → position (λ b. b == 6) k ≡ Some i → i ≡ length (name_part k)
place_is k i e = let f : position_or_len (λ b. b == 6) k ≡ i = grind (arith, common_steps) in sym f ∙ six_at k

pub no_place : (k : Bytes) → position (λ b. b == 6) k ≡ None → length k ≡ length (name_part k)
no_place k e =
    let w = name_within k in
    let s = six_at k in
    let f : length k ≤ position_or_len (λ b. b == 6) k = grind (arith, common_steps) in
    let g : length k ≤ length (name_part k) = subst (λ n. length k ≤ n) s f in
    omega arith

-- a key is split by the step of its mark and by its name
pub split_is : (k n m : Bytes) (o : Option ℕ) → n ≡ name_part k → m ≡ mark_part k → o ≡ marked_step plain.steps m → option_and_then (if_name n) o ≡ split_key plain k
unfolding split_key
split_is k n m o e f g = ap (λ x. option_and_then (if_name x) o) e ∙ ap (option_and_then (if_name (name_part k))) (g ∙ ap (marked_step plain.steps) f)

-- ---- the keys of a pop

pub keys_at-append : (l : Layout) (s : ℕ) (xs : List Bytes) (x : Bytes) → keys_at l s (xs ++ x ∷ []) ≡ keys_at l s xs ++ queue_key l x s ∷ []
keys_at-append l s [] x = refl
keys_at-append l s (y ∷ xs) x = ap (λ (ks : List Bytes). queue_key l y s ∷ ks) (keys_at-append l s xs x)

pub four_steps : (a b c d : List Bytes) → (([] ++ a) ++ b) ++ c ++ d ≡ a ++ (b ++ (c ++ (d ++ [])))
four_steps a b c d = rw (append-nil d) (append_assoc (a ++ b) c d ∙ append_assoc a b (c ++ d))

one_more_of : (qs : List Bytes) (i : ℕ) (q : Bytes) → i < length qs → q ≡ get_or qs i q → take (i + 1) qs ≡ take i qs ++ q ∷ []
one_more_of qs i q lt at = grind (arith, common_steps)

-- the keys so far, with that of the next queue
pub keys_more : (s : ℕ) (qs : List Bytes) (i : ℕ) (q k : Bytes) (first keys new : List Bytes) → i < length qs → q ≡ get_or qs i q → keys ≡ first ++ keys_at plain s (take i qs) → k ≡ queue_key plain q s → new ≡ keys ++ k ∷ [] → new ≡ first ++ keys_at plain s (take (i + 1) qs)
keys_more s qs i q k first keys new lt at inv is made =
    let t = one_more_of qs i q lt at in
    made ∙ ap (λ x. x ++ k ∷ []) inv ∙ append_assoc first (keys_at plain s (take i qs)) (k ∷ [])
    ∙ ap (λ x. first ++ (keys_at plain s (take i qs) ++ x ∷ [])) is
    ∙ ap (λ x. first ++ x) (sym (keys_at-append plain s (take i qs) q))
    ∙ ap (λ x. first ++ keys_at plain s x) (sym t)
