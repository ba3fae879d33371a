-- Messages by the numbers of their delivery tags.
use Rattle.std.specs.Prelude.{ℕ, ◌+◌, Bool, false, ◌||◌, ◌==◌, if◌then◌else◌, List, [], ◌∷◌, Option, None, Some, option_and_then}
use Rattle.delivery_tags.specs.Tags.{tag_of_text}
use Rattle.queue_keys.specs.Names.{Bytes}

-- the number of a tag's text
abbrev pub number_told : Option Bytes → Option ℕ
number_told o = option_and_then tag_of_text o

-- the number as a list
abbrev pub listed : Option ℕ → List ℕ
listed None = []
listed (Some n) = n ∷ []

-- how often a number is among them
abbrev pub times : ℕ → List ℕ → ℕ
times t [] = 0
times t (n ∷ ns) = (if n == t then 1 else 0) + times t ns

-- whether a number is among them
abbrev pub has : ℕ → List ℕ → Bool
has t [] = false
has t (n ∷ ns) = (n == t) || has t ns
