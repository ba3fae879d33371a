-- Patterns of routing keys (topics of AMQP).
use Rattle.std.specs.Prelude.{ℕ, Bool, true, false, ◌&&◌, ◌||◌, ◌==◌, if◌then◌else◌, List, [], ◌∷◌}
use Rattle.queue_keys.specs.Names.{Bytes, same}

-- a byte before the words: a dot begins a new one
abbrev pub onto_words : ℕ → List Bytes → List Bytes
onto_words b [] = []
onto_words b (w ∷ ws) = if b == 46 then [] ∷ w ∷ ws else (b ∷ w) ∷ ws

-- the words between the dots; the empty text has one empty word
abbrev pub dotted_words : Bytes → List Bytes
dotted_words [] = [] ∷ []
dotted_words (b ∷ bs) = onto_words b (dotted_words bs)

-- whether some end of the words passes
abbrev pub any_end : (List Bytes → Bool) → List Bytes → Bool
any_end f [] = f []
any_end f (w ∷ ws) = f (w ∷ ws) || any_end f ws

-- whether the first word passes, and then the others
abbrev pub first_and : (Bytes → Bool) → (List Bytes → Bool) → List Bytes → Bool
first_and f g [] = false
first_and f g (w ∷ ws) = f w && g ws

-- whether there is no word
abbrev pub is_none : List Bytes → Bool
is_none [] = true
is_none (w ∷ ws) = false

-- whether a word passes: any where the pattern has *, else the same
abbrev pub word_matches : Bytes → Bytes → Bool
word_matches p w = same (42 ∷ []) p || same p w

-- whether the words pass: # is none or more words
abbrev pub words_match : List Bytes → List Bytes → Bool
words_match [] ws = is_none ws
words_match (p ∷ ps) ws = if same (35 ∷ []) p then any_end (words_match ps) ws else first_and (word_matches p) (words_match ps) ws

-- whether a pattern matches a routing key
unfoldable pub matches : Bytes → Bytes → Bool
matches x r = words_match (dotted_words x) (dotted_words r)
