-- What a text without a byte is. This serves the proofs of code.
use Rattle.std.proofs.Common.{◌≡◌, ◌==◌, ℕ, suc, ◌+◌, Bool, true, false, not, cond, ◌||◌, List, [], ◌∷◌, length, refl, arith}
use Rattle.std.specs.List.{list_any, position_or_len}

-- where the place of a byte is the end, the byte isn't there
pub no_byte : (b : ℕ) (bs : List ℕ) → position_or_len (λ c. c == b) bs ≡ length bs → list_any (λ c. c == b) bs ≡ false
no_byte b [] h = refl
no_byte b (c ∷ cs) h = by (c == b) h (no_byte b cs) where
  by : (t : Bool) → cond (not t) (1 + position_or_len (λ d. d == b) cs) 0 ≡ suc (length cs) → (position_or_len (λ d. d == b) cs ≡ length cs → list_any (λ d. d == b) cs ≡ false) → (t || list_any (λ d. d == b) cs) ≡ false
  by true k r = absurd (omega arith)
  by false k r = let e : position_or_len (λ d. d == b) cs ≡ length cs = omega arith in r e
