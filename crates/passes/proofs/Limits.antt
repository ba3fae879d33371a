-- The words of a pass are within the limits of a command.
use Rattle.std.proofs.Common.{◌∙◌, ◌≡◌, ℕ, ◌-◌, ◌<◌, ◌≤◌, ◌^◌, [], ◌∷◌, ◌++◌, length, true, false, Bool, sym, subst, ap, codes, decimal, arith, length-append, Result, Ok, Err, if◌then◌else◌}
use Rattle.std.specs.declared.alloc.AllocError.{AllocError}
use Rattle.std.specs.Prelude.{All, IfOk, min, nat_le}
use Rattle.std.proofs.lemmas.Fmt.{length-decimal-le}
use Rattle.std.proofs.lemmas.List.Elements.{All-nil, All-cons}
use Rattle.store_model.specs.Words.{Words}
use Rattle.wire_grammar.specs.Fits.{IsShort, IsWithinLimits}
use Rattle.wire_grammar.proofs.Fitted.{words_fit}
use Rattle.queue_keys.specs.Names.{Bytes}
use Rattle.queue_keys.specs.Texts.{difference, token}
use Rattle.command_blocks.specs.EnvelopeTexts.{plain_setting}
use Rattle.command_blocks.specs.PassBlocks.{lock_words}
use Rattle.passes.specs.Releases.{range_of}

pub decimal_few : (n : ℕ) → n < 2 ^ 64 → length (decimal n) ≤ 20
decimal_few n h = length-decimal-le 20 n (omega arith) (omega (arith, h)) h

-- the score up to which a range goes
pub difference_short : (a b : ℕ) → a < 2 ^ 64 → b < 2 ^ 64 → IsShort (difference a b)
difference_short a b x y = by (nat_le b a) where
  by : (c : Bool) → IsShort (if c then decimal (a - b) else 45 ∷ decimal (b - a))
  by true = let h = decimal_few (a - b) (omega (arith, x)) in omega (arith, h)
  by false = let h = decimal_few (b - a) (omega (arith, y)) in omega (arith, h)

-- the text of a token
pub token_few : (s n : ℕ) → s < 2 ^ 64 → length (token s n) ≤ 41
token_few s n h =
    let a = decimal_few s h in
    let b = decimal_few (min n (2 ^ 64 - 1)) (omega arith) in
    let c = length-append (decimal s) (58 ∷ decimal (min n (2 ^ 64 - 1))) in
    omega (arith, a, b, c)

lock_short : (t : Bytes) → IsShort t → All IsShort (lock_words plain_setting t)
lock_short t x =
    All-cons IsShort (codes "SET") (codes "unacked_mutex" ∷ t ∷ codes "NX" ∷ codes "EX" ∷ codes "300" ∷ []) (omega arith) (
    All-cons IsShort (codes "unacked_mutex") (t ∷ codes "NX" ∷ codes "EX" ∷ codes "300" ∷ []) (omega arith) (
    All-cons IsShort t (codes "NX" ∷ codes "EX" ∷ codes "300" ∷ []) x (
    All-cons IsShort (codes "NX") (codes "EX" ∷ codes "300" ∷ []) (omega arith) (
    All-cons IsShort (codes "EX") (codes "300" ∷ []) (omega arith) (
    All-cons IsShort (codes "300") [] (omega arith) (All-nil IsShort))))))

range_short : (b : Bytes) → IsShort b → All IsShort (range_of b)
range_short b x =
    All-cons IsShort (codes "ZREVRANGEBYSCORE") (codes "unacked_index" ∷ b ∷ codes "0" ∷ codes "LIMIT" ∷ codes "0" ∷ codes "10" ∷ []) (omega arith) (
    All-cons IsShort (codes "unacked_index") (b ∷ codes "0" ∷ codes "LIMIT" ∷ codes "0" ∷ codes "10" ∷ []) (omega arith) (
    All-cons IsShort b (codes "0" ∷ codes "LIMIT" ∷ codes "0" ∷ codes "10" ∷ []) x (
    All-cons IsShort (codes "0") (codes "LIMIT" ∷ codes "0" ∷ codes "10" ∷ []) (omega arith) (
    All-cons IsShort (codes "LIMIT") (codes "0" ∷ codes "10" ∷ []) (omega arith) (
    All-cons IsShort (codes "0") (codes "10" ∷ []) (omega arith) (
    All-cons IsShort (codes "10") [] (omega arith) (All-nil IsShort)))))))

-- three words and three more
pub lock_said : (r : Result Words AllocError) (words : Words) (t slice : Bytes) → IfOk r (λ w. w ≡ words ++ codes "NX" ∷ codes "EX" ∷ codes "300" ∷ []) → words ≡ codes "SET" ∷ codes "unacked_mutex" ∷ slice ∷ [] → slice ≡ t → IfOk r (λ w. w ≡ lock_words plain_setting t)
lock_said (Ok w) words t slice e is same =
    e ∙ ap (λ (l : Words). l ++ codes "NX" ∷ codes "EX" ∷ codes "300" ∷ []) is ∙ ap (λ x. codes "SET" ∷ codes "unacked_mutex" ∷ x ∷ codes "NX" ∷ codes "EX" ∷ codes "300" ∷ []) same
lock_said (Err f) words t slice e is same = tt

-- SET of the mutex under a short token
pub lock_made : (r : Result Words AllocError) (t : Bytes) → IfOk r (λ w. w ≡ lock_words plain_setting t) → IsShort t → IfOk r IsWithinLimits
lock_made (Ok w) t e x = subst IsWithinLimits (sym e) (words_fit 1048576 (lock_words plain_setting t) (omega arith) (omega arith) (omega arith) (lock_short t x))
lock_made (Err f) t e x = tt

-- ZREVRANGEBYSCORE up to a short score
pub range_made : (r : Result Words AllocError) (b : Bytes) → IfOk r (λ w. w ≡ range_of b) → IsShort b → IfOk r IsWithinLimits
range_made (Ok w) b e x = subst IsWithinLimits (sym e) (words_fit 1048576 (range_of b) (omega arith) (omega arith) (omega arith) (range_short b x))
range_made (Err f) b e x = tt

-- a token's text that was made
pub token_made : (r : Result Bytes AllocError) (s n : ℕ) → s < 2 ^ 64 → IfOk r (λ b. b ≡ token s n) → IfOk r (λ b. length b ≤ 41)
token_made (Ok b) s n h is = subst (λ (t : Bytes). length t ≤ 41) (sym is) (token_few s n h)
token_made (Err f) s n h is = tt
