-- Whether words begin with one. Serves the proofs of code.
use Rattle.std.specs.Prelude.{◌≡◌, false, ◌&&◌, bytes_eq, List, [], ◌∷◌, Option, None, Some, ℕ}
use Rattle.std.specs.Borrow.{Bor}
use Rattle.manner_laws.specs.Cursor.{same_words}

-- an answer to whether words begin with this one: they do and these come after it, or no words that begin with it are they
abbrev pub HasWord : List ℕ → List (List ℕ) → Option (Bor (List (List ℕ))) → Type 0
HasWord w words (Some rest) = (more : List (List ℕ)) → same_words (w ∷ more) words ≡ same_words more rest.now
HasWord w words None = (more : List (List ℕ)) → same_words (w ∷ more) words ≡ false
