-- A line says one row, and where its moment is early enough it is that row's line.
use Rattle.std.proofs.Common.{◌≡◌, ℕ, ◌<◌, ◌^◌, Bool, true, false, List, [], ◌∷◌, ◌++◌, length, Some, None, Option, refl, sym, ap, ◌∙◌, arith, rules}
use Rattle.std.proofs.lemmas.Bool.Decides.{nat_tests}
use Rattle.std.proofs.lemmas.List.{append_cancel_left}
use Rattle.std.proofs.lemmas.Fmt.{decimal-digits_value}
use Rattle.std.proofs.lemmas.Str.Parse.{IsNumeralModel, numerals_by_value}
use Rattle.std.specs.Prelude.{codes, decimal, nat_eq, nat_lt, min, ◌&&◌, ◌||◌, if◌then◌else◌}
use Rattle.std.specs.Char.{is_ascii_digit}
use Rattle.std.specs.List.{list_all}
use Rattle.std.specs.Str.Parse.{digits_value}
use Rattle.line_text.specs.Forms.{quoted, words_text}
use Rattle.line_text.specs.Numbers.{is_number, moment_in}
use Rattle.store_model.specs.Limits.{moment_limit}
use Rattle.store_model.specs.declared.reply.Reply.{Reply}
use Rattle.place_model.specs.declared.history.Entry.TheVariants.{Call, Heard as Noted, Stop}
use Rattle.history_records.specs.Lines.{reply_text}
use Rattle.history_records.specs.Recordable.{IsRow}
use Rattle.history_records.specs.Rows.{row_line}
use Rattle.history_records.specs.declared.row.Row.{Row}
use Rattle.history_records.specs.declared.row.Row.TheVariants.{Client, Event}
use Rattle.record_model.specs.Said.{IsMomentOf, Says, line_with}
use Rattle.record_laws.proofs.Apart.{tails}
use Rattle.record_laws.proofs.Digits.{digits_apart, decimal_apart}
use Rattle.record_laws.proofs.Replies.{reply_apart, words_apart}
use Rattle.record_laws.proofs.Rows.{row_apart}

own : IsNumeralModel (λ ds. list_all is_ascii_digit ds ≡ true) (digits_value 10)
own = numerals_by_value (λ ds. list_all is_ascii_digit ds ≡ true) (search rules)

both : (a b : Bool) → (a && b) ≡ true → (a ≡ true) × (b ≡ true)
both true b e = (refl, e)
both false b e = cc

some_is : (m n : ℕ) → Some m ≡ Some n → m ≡ n
some_is m n e = ap (value_or m) e where
  value_or : ℕ → Option ℕ → ℕ
  value_or d None = d
  value_or d (Some x) = x

-- a number's text is what is written of its value
number_text : (word : List ℕ) → is_number word ≡ true → digits_value 10 word < 2 ^ 64 → decimal (digits_value 10 word) ≡ word
number_text [] e small = absurd (cc)
number_text (d ∷ ds) e small = decimal-digits_value own (d ∷ ds) (both _ _ e).0 (omega arith) (one d ds (both _ _ e).1) small where
  one : (d : ℕ) (ds : List ℕ) → (nat_eq (length ds) 0 || nat_lt 48 d) ≡ true → d ≡ 48 → length (d ∷ ds) ≡ 1
  one d ds t z = by (nat_eq (length ds) 0) (nat_lt 48 d) refl refl t where
    by : (p q : Bool) → nat_eq (length ds) 0 ≡ p → nat_lt 48 d ≡ q → (p || q) ≡ true → length (d ∷ ds) ≡ 1
    by true q f g h = let none : length ds ≡ 0 = grind (arith, nat_tests) in omega (arith, none)
    by false true f g h = let above : 48 < d = grind (arith, nat_tests) in absurd (omega (arith, above, z))
    by false false f g h = absurd (cc)

-- the text of a moment that a store takes
pub moment_text : (at : ℕ) (word : List ℕ) → moment_in word ≡ Some at → at < moment_limit → word ≡ decimal at
moment_text at word e early = by (is_number word) refl e where
  by : (p : Bool) → is_number word ≡ p → (if p then Some (min (digits_value 10 word) moment_limit) else None) ≡ Some at → word ≡ decimal at
  by true f k =
      let same = some_is (min (digits_value 10 word) moment_limit) at k in
      let is : digits_value 10 word ≡ at = omega (arith, same, early) in
      sym (number_text word f (omega (arith, is, early))) ∙ ap decimal is
  by false f k = absurd (cc)

-- a moment's text is of digits alone
moment_digits : (at : ℕ) (word : List ℕ) → moment_in word ≡ Some at → list_all is_ascii_digit word ≡ true
moment_digits at word e = by (is_number word) refl e where
  digits : (w : List ℕ) → is_number w ≡ true → list_all is_ascii_digit w ≡ true
  digits [] f = refl
  digits (d ∷ ds) f = (both _ _ f).0

  by : (p : Bool) → is_number word ≡ p → (if p then Some (min (digits_value 10 word) moment_limit) else None) ≡ Some at → list_all is_ascii_digit word ≡ true
  by true f k = digits word f
  by false f k = absurd (cc)

-- whether a call, if it is one, comes early enough
abbrev pub IsEarlyRow : Row → Type 0
IsEarlyRow (Client c s) = Unit {0}
IsEarlyRow (Event (Call c at words reply)) = at < moment_limit
IsEarlyRow (Event (Noted c note)) = Unit {0}
IsEarlyRow (Event (Stop c)) = Unit {0}

-- a line is that of the row that it says
pub line_of_row : (line : List ℕ) (row : Row) → Says line row → IsEarlyRow row → line ≡ row_line row
line_of_row line (Client c s) y early = y.spelled
line_of_row line (Event (Call c at words reply)) y early = y.spelled ∙ ap (λ m. line_with m (Event (Call c at words reply))) (moment_text at y.moment y.tells early)
line_of_row line (Event (Noted c note)) y early = y.spelled
line_of_row line (Event (Stop c)) y early = y.spelled

-- ---- one row

second_byte : List ℕ → ℕ
second_byte (a ∷ b ∷ bs) = b
second_byte (a ∷ []) = 0
second_byte [] = 0

append_none : (l : List ℕ) → l ++ [] ≡ l
append_none [] = refl
append_none (x ∷ l) = ap (λ t. x ∷ t) (append_none l)

-- what follows the moment of a call
abbrev call_end : ℕ → List (List ℕ) → Reply → List ℕ
call_end c words reply = decimal c ++ 32 ∷ (words_text quoted words ++ (codes "= " ++ reply_text reply))

calls_one : (m n : List ℕ) (c d a b : ℕ) (v w : List (List ℕ)) (p q : Reply) → moment_in m ≡ Some a → moment_in n ≡ Some b
    → IsRow (Event (Call c a v p)) → IsRow (Event (Call d b w q)) → line_with m (Event (Call c a v p)) ≡ line_with n (Event (Call d b w q)) → Event (Call c a v p) ≡ Event (Call d b w q)
calls_one m n c d a b v w p q e f x y same =
    let h = digits_apart m n _ _ (moment_digits a m e) (moment_digits b n f) refl refl (append_cancel_left (codes "call ") (m ++ 32 ∷ call_end c v p) (n ++ 32 ∷ call_end d w q) same) in
    let g = decimal_apart c d _ _ (omega (arith, x.0)) (omega (arith, y.0)) refl refl (tails 32 32 _ _ h.1) in
    let k = words_apart v w _ _ (tails 32 32 _ _ g.1) in
    let r = reply_apart p q [] [] x.3 y.3 refl refl (append_none _ ∙ tails 32 32 _ _ k.1 ∙ sym (append_none _)) in
    let at : a ≡ b = some_is a b (sym e ∙ ap moment_in h.0 ∙ f) in
    (λ i. Event (Call (g.0 i) (at i) (k.0 i) (r.0 i)))

-- a row with one spelling
plain_one : (x y : Row) → IsRow x → IsRow y → row_line x ≡ row_line y → x ≡ y
plain_one x y a b e = (row_apart x y [] [] a b refl refl (append_none (row_line x) ∙ e ∙ sym (append_none (row_line y)))).0

-- a line says one row
pub says_one : (line : List ℕ) (x y : Row) → Says line x → Says line y → x ≡ y
unfolding second_byte
says_one line x y a b = by x y a.moment b.moment a.tells b.tells a.typed b.typed (sym a.spelled ∙ b.spelled) where
  clash : (x y : Row) (m n : List ℕ) (i j : ℕ) → second_byte (line_with m x) ≡ i → second_byte (line_with n y) ≡ j → line_with m x ≡ line_with n y → i ≡ j
  clash x y m n i j p q e = sym p ∙ ap second_byte e ∙ q

  by : (x y : Row) (m n : List ℕ) → IsMomentOf m x → IsMomentOf n y → IsRow x → IsRow y → line_with m x ≡ line_with n y → x ≡ y
  by (Event (Call c a v p)) (Event (Call d b w q)) m n e f x y same = calls_one m n c d a b v w p q e f x y same
  by (Client c s) (Client d t) m n e f x y same = plain_one (Client c s) (Client d t) x y same
  by (Client c s) (Event (Noted d note)) m n e f x y same = plain_one (Client c s) (Event (Noted d note)) x y same
  by (Client c s) (Event (Stop d)) m n e f x y same = plain_one (Client c s) (Event (Stop d)) x y same
  by (Event (Noted c note)) (Client d t) m n e f x y same = plain_one (Event (Noted c note)) (Client d t) x y same
  by (Event (Noted c note)) (Event (Noted d other)) m n e f x y same = plain_one (Event (Noted c note)) (Event (Noted d other)) x y same
  by (Event (Noted c note)) (Event (Stop d)) m n e f x y same = plain_one (Event (Noted c note)) (Event (Stop d)) x y same
  by (Event (Stop c)) (Client d t) m n e f x y same = plain_one (Event (Stop c)) (Client d t) x y same
  by (Event (Stop c)) (Event (Noted d note)) m n e f x y same = plain_one (Event (Stop c)) (Event (Noted d note)) x y same
  by (Event (Stop c)) (Event (Stop d)) m n e f x y same = plain_one (Event (Stop c)) (Event (Stop d)) x y same
  by (Client c s) (Event (Call d b w q)) m n e f x y same = absurd (let h : 108 ≡ 97 = clash (Client c s) (Event (Call d b w q)) m n 108 97 refl refl same in omega (arith, h))
  by (Event (Noted c note)) (Event (Call d b w q)) m n e f x y same = absurd (let h : 101 ≡ 97 = clash (Event (Noted c note)) (Event (Call d b w q)) m n 101 97 refl refl same in omega (arith, h))
  by (Event (Stop c)) (Event (Call d b w q)) m n e f x y same = absurd (let h : 116 ≡ 97 = clash (Event (Stop c)) (Event (Call d b w q)) m n 116 97 refl refl same in omega (arith, h))
  by (Event (Call c a v p)) (Client d t) m n e f x y same = absurd (let h : 97 ≡ 108 = clash (Event (Call c a v p)) (Client d t) m n 97 108 refl refl same in omega (arith, h))
  by (Event (Call c a v p)) (Event (Noted d note)) m n e f x y same = absurd (let h : 97 ≡ 101 = clash (Event (Call c a v p)) (Event (Noted d note)) m n 97 101 refl refl same in omega (arith, h))
  by (Event (Call c a v p)) (Event (Stop d)) m n e f x y same = absurd (let h : 97 ≡ 116 = clash (Event (Call c a v p)) (Event (Stop d)) m n 97 116 refl refl same in omega (arith, h))
