-- Words that are short enough, and commands of them within the limits of a command.
use Rattle.std.proofs.Common.{◌≡◌, ℕ, zero, suc, ◌<◌, ◌≤◌, List, [], ◌∷◌, ◌++◌, length, Bool, true, false, refl, arith, length-append, ◌&&◌, if◌then◌else◌}
use Rattle.std.specs.Prelude.{All, nat_lt}
use Rattle.std.proofs.lemmas.Bool.Decides.{nat_tests}
use Rattle.std.proofs.lemmas.List.Elements.{All-nil, All-cons}
use Rattle.wire_grammar.specs.Fits.{IsShort, IsWithinLimits}
use Rattle.wire_grammar.proofs.Fitted.{words_fit}
use Rattle.queue_keys.specs.Layouts.{plain}
use Rattle.queue_keys.specs.Names.{Bytes, all_free, has_length, is_name, is_reserved}
use Rattle.queue_keys.specs.QueueKeys.{queue_key, step_mark}

one_short : (a : Bytes) → IsShort a → All IsShort (a ∷ [])
one_short a x = All-cons IsShort a [] x (All-nil IsShort)

three_short : (a b c : Bytes) → IsShort a → IsShort b → IsShort c → All IsShort (a ∷ b ∷ c ∷ [])
three_short a b c x y z = All-cons IsShort a (b ∷ c ∷ []) x (All-cons IsShort b (c ∷ []) y (one_short c z))

pub one_within : (a : Bytes) → IsShort a → IsWithinLimits (a ∷ [])
one_within a x = words_fit 1048576 (a ∷ []) (omega arith) (omega arith) (omega arith) (one_short a x)

pub three_within : (a b c : Bytes) → IsShort a → IsShort b → IsShort c → IsWithinLimits (a ∷ b ∷ c ∷ [])
three_within a b c x y z = words_fit 1048576 (a ∷ b ∷ c ∷ []) (omega arith) (omega arith) (omega arith) (three_short a b c x y z)

pub four_within : (a b c d : Bytes) → IsShort a → IsShort b → IsShort c → IsShort d → IsWithinLimits (a ∷ b ∷ c ∷ d ∷ [])
four_within a b c d x y z u = words_fit 1048576 (a ∷ b ∷ c ∷ d ∷ []) (omega arith) (omega arith) (omega arith) (All-cons IsShort a (b ∷ c ∷ d ∷ []) x (three_short b c d y z u))

-- a lawful name has at most 255 bytes
length-name : (q : Bytes) → is_name q ≡ true → length q ≤ 255
length-name [] e = omega arith
length-name (b ∷ bs) e = by (is_reserved (b ∷ bs)) (all_free (b ∷ bs)) (nat_lt (length bs) 255) refl e where
  by : (r f s : Bool) → nat_lt (length bs) 255 ≡ s → (if r then false else f && s) ≡ true → suc (length bs) ≤ 255
  by true f s i e = cc
  by false false s i e = cc
  by false true true i e = let x : length bs < 255 = grind (arith, nat_tests) in omega (arith, x)
  by false true false i e = cc

length-mark : (s : ℕ) → length (step_mark s) ≤ 3
length-mark zero = omega arith
length-mark (suc s) = omega arith

-- nor have its keys many more
pub key_few : (s : ℕ) (q : Bytes) → is_name q ≡ true → length (queue_key plain q s) ≤ 258
key_few s q e = let a = length-append q (step_mark s) in let b = length-name q e in let c = length-mark s in omega (arith, a, b, c)

pub key_short : (s : ℕ) (q : Bytes) → is_name q ≡ true → IsShort (queue_key plain q s)
key_short s q e = let a = key_few s q e in omega (arith, a)
