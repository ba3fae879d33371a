-- The words of a text that is left, if one is. Serves the proofs of code.
use Rattle.std.specs.Borrow.{Bor}
use Rattle.std.specs.Prelude.{ℕ, suc, List, [], length, Option, Some, None, option_map}
use Rattle.queue_keys.specs.Names.{Bytes}
use Rattle.queue_keys.specs.Patterns.{dotted_words}

-- its words; without a text there are none
abbrev pub words_in : Option Bytes → List Bytes
words_in None = []
words_in (Some t) = dotted_words t

-- its length and one, and 0 without a text
abbrev pub text_extent : Option Bytes → ℕ
text_extent None = 0
text_extent (Some t) = suc (length t)

-- the text that is left, if one is
abbrev pub told : Option (Bor Bytes) → Option Bytes
told t = option_map (λ x. x.now) t
