-- Runs of a book by one asker.
use Rattle.std.specs.Prelude.{◌≡◌, List, [], ◌∷◌, ◌++◌, Option, None, Some, refl}
use Rattle.std.proofs.Common.{sym, ap, ◌∙◌, subst, append-nil}
use Rattle.desks.specs.declared.desk.DeskFault.{DeskFault}
use Rattle.pool_book.specs.Acts.{Query}
use Rattle.pool_book.specs.Books.{Book, answer_of, book_after}

-- each answer is the book's, and this book is left
abbrev pub IsBookRun : Book → List Query → Book → Type 0
IsBookRun b [] c = b ≡ c
IsBookRun b (q ∷ l) c = (q.answered ≡ answer_of b q.asked) × IsBookRun (book_after b q.asked) l c

pub IsBookRun-joins : (s t u : Book) (l m : List Query) → IsBookRun s l t → IsBookRun t m u → IsBookRun s (l ++ m) u
IsBookRun-joins s t u [] m a b = subst (λ x. IsBookRun x m u) (sym a) b
IsBookRun-joins s t u (q ∷ l) m a b = (a.0, IsBookRun-joins (book_after s q.asked) t u l m a.1 b)

-- the book of an asker that answered no fault
abbrev pub whole_book : Option DeskFault → Book → Option Book
whole_book None b = Some b
whole_book (Some f) b = None

-- a book comes by a run to its next state, or is spent in a run; a spent one answers nothing
abbrev pub BookGoes : Option Book → List Query → Option Book → Type 0
BookGoes None l t = (l ≡ []) × (t ≡ None)
BookGoes (Some s) l (Some t) = IsBookRun s l t
BookGoes (Some s) l None = (t : Book) × IsBookRun s l t

pub BookGoes-stays : (s : Option Book) → BookGoes s [] s
BookGoes-stays None = (refl, refl)
BookGoes-stays (Some s) = refl

pub BookGoes-joins : (s t u : Option Book) (l m : List Query) → BookGoes s l t → BookGoes t m u → BookGoes s (l ++ m) u
BookGoes-joins None t u l m a b = subst (λ k. BookGoes None (k ++ m) u) (sym a.0) (subst (λ x. BookGoes x m u) a.1 b)
BookGoes-joins (Some s) None u l m a b = subst (λ x. BookGoes (Some s) (l ++ m) x) (sym b.1) (a.0, subst (λ k. IsBookRun s k a.0) (sym (ap (λ k. l ++ k) b.0 ∙ append-nil l)) a.1)
BookGoes-joins (Some s) (Some t) (Some u) l m a b = IsBookRun-joins s t u l m a b
BookGoes-joins (Some s) (Some t) None l m a b = (b.0, IsBookRun-joins s t b.0 l m a b.1)
