-- Which texts are noted. Cost only: each answer is right without it, and what is noted spares a reading. Serves the proofs of code.
use Rattle.std.specs.Prelude.{◌≡◌, ℕ, List, Some}
use Rattle.std.specs.BTreeMap.{get}
use Rattle.std.specs.Ordering.{nat_cmp}
use Rattle.letters.specs.declared.letter.Letter.{Letter}
use Rattle.letters.specs.declared.letters.Letters.{Letters}
use Rattle.letters.specs.declared.letters.Note.{Note}

-- the text is noted with this letter, under some mark
pub record Knows (letters : Letters) (text : List ℕ) (letter : Letter) : Type 0 where
  pub mark : ℕ
  pub note : Note
  pub found : get nat_cmp letters.kept mark ≡ Some note
  pub text_is : note.text ≡ text
  pub letter_is : note.letter ≡ letter

-- the note under each mark but this one is as it was
abbrev pub NotesOne : Letters → Letters → Type 0
NotesOne old new = (i : ℕ) × ((mark : ℕ) → (mark ≡ i → ⊥) → get nat_cmp new.kept mark ≡ get nat_cmp old.kept mark)

-- the note under each mark but these two is as it was: no other text is forgotten, and none came to be known
abbrev pub NotesTwo : Letters → Letters → Type 0
NotesTwo old new = (i j : ℕ) × ((mark : ℕ) → (mark ≡ i → ⊥) → (mark ≡ j → ⊥) → get nat_cmp new.kept mark ≡ get nat_cmp old.kept mark)
