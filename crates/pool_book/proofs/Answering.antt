-- What a plain book does.
use Rattle.std.proofs.Common.{◌≡◌, ◌∙◌, ℕ, ℤ, Bool, true, false, cond, List, [], ◌∷◌, Option, None, Some, refl, sym, subst}
use Rattle.std.specs.Prelude.{nat_le, length}
use Rattle.desks.specs.declared.desk.DeskFault.{DeskFault}
use Rattle.pool_book.specs.Acts.{IsBookAnswer, IsPutAnswer, IsTakeAnswer, Query, query}
use Rattle.pool_book.specs.BookRuns.{BookGoes, whole_book}
use Rattle.pool_book.specs.Books.{Book, answer_of, book_after, due_answer, first_answer, given_answer, held_limit, hold_answer, is_revoked_at, was_put}
use Rattle.pool_book.specs.Deliveries.{Kept, has_expired, is_held_at, parcel_number}
use Rattle.pool_book.specs.declared.asking.BookAnswer.{BookAnswer}
use Rattle.pool_book.specs.declared.asking.BookAnswer.TheVariants as answer
use Rattle.pool_book.specs.declared.asking.BookAsk.{BookAsk}
use Rattle.pool_book.specs.declared.asking.BookAsk.TheVariants as ask
use Rattle.pool_book.specs.declared.asking.DropWhy.TheVariants as why

given_kind : (b : Book) (now : ℤ) (d : Kept) → IsTakeAnswer now (given_answer b now d)
given_kind b now d = by (is_revoked_at b now d) (has_expired now d.value) refl where
  by : (r e : Bool) → has_expired now d.value ≡ e → IsTakeAnswer now (cond r (answer.Drop d why.Revoked) (cond e (answer.Drop d why.Expired) (answer.Run d)))
  by true e f = tt
  by false true f = f
  by false false f = tt

due_kind : (b : Book) (now : ℤ) (ds : List Kept) → IsTakeAnswer now (due_answer b now ds)
due_kind b now [] = tt
due_kind b now (d ∷ ds) = by (is_held_at now d.value) where
  by : (h : Bool) → IsTakeAnswer now (cond h answer.Nothing (given_answer b now d))
  by true = tt
  by false = given_kind b now d

first_kind : (b : Book) (now : ℤ) (ds : List Kept) → IsTakeAnswer now (first_answer b now ds)
first_kind b now [] = due_kind b now b.held
first_kind b now (d ∷ ds) = given_kind b now d

take_kind : (b : Book) (now : ℤ) (shut : Bool) → IsTakeAnswer now (cond shut answer.Over (first_answer b now b.waiting))
take_kind b now true = tt
take_kind b now false = first_kind b now b.waiting

put_kind : (b : Book) (d : Kept) (now : ℤ) (known held full : Bool) → is_held_at now d.value ≡ held → IsPutAnswer d now (cond known answer.Nothing (cond held (cond full answer.Nothing (answer.Put true)) (answer.Put false)))
put_kind b d now true held full e = tt
put_kind b d now false true true e = tt
put_kind b d now false true false e = λ _. e
put_kind b d now false false full e = λ f. cc

kinds : (b : Book) (q : BookAsk) → IsBookAnswer q (answer_of b q)
kinds b (ask.Put d now) = put_kind b d now (was_put (parcel_number d.value) b.numbers) (is_held_at now d.value) (nat_le held_limit (length b.held)) refl
kinds b (ask.Take now) = take_kind b now b.shut
kinds b (ask.Finish n) = refl
kinds b (ask.Revoke id now) = refl
kinds b (ask.Look now) = tt
kinds b ask.Closing = refl
kinds b ask.Shut = refl

-- the book's answers are of the ask's kind
pub answers_kind : (b : Book) (q : BookAsk) (a : BookAnswer) → a ≡ answer_of b q → IsBookAnswer q a
answers_kind b q a e = subst (IsBookAnswer q) (sym e) (kinds b q)

pub answered : (fault : Option DeskFault) (b c : Book) (q : BookAsk) (a : BookAnswer) → fault ≡ None → a ≡ answer_of b q → c ≡ book_after b q → BookGoes (whole_book fault b) (query q a ∷ []) (whole_book fault c)
answered fault b c q a open_is e f = subst (λ x. BookGoes (whole_book x b) (query q a ∷ []) (whole_book x c)) (sym open_is) (e, sym f)

pub refused : (fault : Option DeskFault) (f : DeskFault) (b c : Book) → fault ≡ None → BookGoes (whole_book fault b) [] (whole_book (Some f) c)
refused fault f b c open_is = subst (λ x. BookGoes (whole_book x b) [] (whole_book (Some f) c)) (sym open_is) (b, refl)

pub shut_out : (fault : Option DeskFault) (b : Book) → BookGoes (whole_book fault b) [] (whole_book fault b)
shut_out None b = refl
shut_out (Some f) b = (refl, refl)
