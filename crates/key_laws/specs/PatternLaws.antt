-- What a pattern matches: said by its words and those of the key, not by a way to try them.
use Rattle.std.specs.Prelude.{◌≡◌, ◌↔◌, ℕ, Bool, true, false, ◌==◌, not, ◌&&◌, List, [], ◌∷◌, ◌++◌}
use Rattle.queue_keys.specs.Names.{Bytes}
use Rattle.queue_keys.specs.Patterns.{dotted_words, matches}
use Rattle.queue_keys.specs.QueueKeys.{Each}

-- the words of a pattern that stand for others: # for none or more, * for one
abbrev pub hash_word : Bytes
hash_word = 35 ∷ []

abbrev pub star_word : Bytes
star_word = 42 ∷ []

-- the words of a pattern fit those of a key: each stands for itself, * for one word, # for none or more
pub data WordsFit : List Bytes → List Bytes → Type 0 where
  No_words : WordsFit [] []
  Same_word : (w : Bytes) (ps ws : List Bytes) → WordsFit ps ws → WordsFit (w ∷ ps) (w ∷ ws)
  Any_word : (w : Bytes) (ps ws : List Bytes) → WordsFit ps ws → WordsFit (star_word ∷ ps) (w ∷ ws)
  No_more : (ps ws : List Bytes) → WordsFit ps ws → WordsFit (hash_word ∷ ps) ws
  One_more : (w : Bytes) (ps ws : List Bytes) → WordsFit (hash_word ∷ ps) ws → WordsFit (hash_word ∷ ps) (w ∷ ws)

-- words with dots between them
abbrev pub with_dots : List Bytes → Bytes
with_dots [] = []
with_dots (w ∷ []) = w
with_dots (w ∷ v ∷ ws) = w ++ (46 ∷ with_dots (v ∷ ws))

-- whether no byte is a dot
abbrev pub has_no_dot : Bytes → Bool
has_no_dot [] = true
has_no_dot (b ∷ bs) = not (b == 46) && has_no_dot bs

-- the words are those of the text: it is the words with dots between them, and none has a dot
pub record AreWordsOf (x : Bytes) (ws : List Bytes) : Type 0 where
  pub dotted : with_dots ws ≡ x
  pub plain : Each has_no_dot ws

-- a pattern matches a routing key exactly where its words fit the key's, which are the texts between the dots
abbrev pub PatternsTell : Type 0
PatternsTell = (x r : Bytes) → AreWordsOf x (dotted_words x) × ((matches x r ≡ true) ↔ WordsFit (dotted_words x) (dotted_words r))
