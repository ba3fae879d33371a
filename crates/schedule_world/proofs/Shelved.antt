-- Books of clients, as desks have them.
use Rattle.std.proofs.Common.{◌≡◌, ℕ, List, [], ◌∷◌, Bool, true, false, cond, refl, sym, ap, ◌∙◌, Some, Option, map}
use Rattle.std.specs.Prelude.{option_map}
use Rattle.std.specs.Ordering.{eq_by_cmp, nat_cmp}
use Rattle.std.specs.Cmp.{nat_cmp_total}
use Rattle.std.specs.FinMap.{empty, entries, get, get-empty, get-entries, get-from_entries, get-insert, insert, nat_cmp-IsAntisymmetric, remove, same_map}
use Rattle.std.specs.FinMap.Entries.{find}
use Rattle.store_tables.proofs.Lookups.{insert-remove}
use Rattle.schedule_world.specs.Books.{book_of, books_of}
use Rattle.schedule_world.specs.Shelves.{Shelf}
use Rattle.schedule_world.specs.declared.book.ClientBook.{ClientBook}

found_mapped : {A B : Type 0} (f : A → B) (b : Bool) (a : A) (o : Option A) → cond b (Some (f a)) (option_map f o) ≡ option_map f (cond b (Some a) o)
found_mapped f true a o = refl
found_mapped f false a o = refl

find-map : {A B : Type 0} (f : A → B) (q : ℕ) (es : List (ℕ × A)) → find nat_cmp q (map (λ e. (e.0, f e.1)) es) ≡ option_map f (find nat_cmp q es)
find-map f q [] = refl
find-map f q (e ∷ es) = ap (cond (eq_by_cmp nat_cmp q e.0) (Some (f e.1))) (find-map f q es) ∙ found_mapped f (eq_by_cmp nat_cmp q e.0) e.1 (find nat_cmp q es)

-- a client's book
pub get-books_of : (m : Shelf) (q : ℕ) → get (books_of m) q ≡ option_map book_of (get m q)
unfolding books_of
get-books_of m q = get-from_entries nat_cmp_total (map (λ e. (e.0, book_of e.1)) (entries m)) q ∙ (find-map book_of q (entries m) ∙ ap (option_map book_of) (sym (get-entries m q)))

-- one more book, or another one
pub books_of-insert : (m : Shelf) (c : ℕ) (b : ClientBook) → books_of (insert m c b) ≡ insert (books_of m) c (book_of b)
books_of-insert m c b = same_map nat_cmp_total nat_cmp-IsAntisymmetric _ _ (λ q.
    get-books_of (insert m c b) q
    ∙ (ap (option_map book_of) (get-insert nat_cmp_total m c b q)
    ∙ (sym (found_mapped book_of (eq_by_cmp nat_cmp q c) b (get m q))
    ∙ (ap (cond (eq_by_cmp nat_cmp q c) (Some (book_of b))) (sym (get-books_of m q))
    ∙ sym (get-insert nat_cmp_total (books_of m) c (book_of b) q)))))

-- no books
pub books_of-empty : books_of empty ≡ empty
books_of-empty = same_map nat_cmp_total nat_cmp-IsAntisymmetric _ _ (λ q. get-books_of empty q ∙ (ap (option_map book_of) (get-empty nat_cmp q) ∙ sym (get-empty nat_cmp q)))

-- a book that is taken out and put back in another state
pub books_of_again : (m : Shelf) (c : ℕ) (b : ClientBook) → books_of (insert (remove m c) c b) ≡ insert (books_of m) c (book_of b)
books_of_again m c b = ap books_of (insert-remove nat_cmp_total nat_cmp-IsAntisymmetric m c b) ∙ books_of-insert m c b
