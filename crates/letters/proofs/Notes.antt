-- What a look at the notes tells, and what a note leaves.
use Rattle.std.proofs.Common.{◌≡◌, ℕ, List, Option, Some, None, refl, sym, ◌∙◌}
use Rattle.std.specs.Prelude.{IfSome}
use Rattle.std.specs.BTreeMap.{get}
use Rattle.std.specs.Ordering.{nat_cmp}
use Rattle.letters.specs.Known.{Knows, NotesTwo}
use Rattle.letters.specs.declared.letter.Letter.{Letter}
use Rattle.letters.specs.declared.letters.Letters.{Letters}
use Rattle.letters.specs.declared.letters.Note.{Note}

-- what a note under a mark gives for a text is known
pub known_by : (letters : Letters) (mark : ℕ) (note : Note) (text : List ℕ) (o : Option Letter) → get nat_cmp letters.kept mark ≡ Some note
    → IfSome o (λ letter. (note.text ≡ text) × (note.letter ≡ letter)) → IfSome o (λ letter. Knows letters text letter)
known_by letters mark note text None found h = tt
known_by letters mark note text (Some letter) found h = record { mark = mark; note = note; found = found; text_is = h.0; letter_is = h.1 }

-- nothing noted
pub none_noted : (letters : Letters) → NotesTwo letters letters
none_noted letters = (0, 0, λ mark f g. refl)
