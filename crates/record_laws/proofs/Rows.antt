-- A row is told by its line.
use Rattle.std.proofs.Common.{◌≡◌, ℕ, ◌<◌, ◌^◌, Bool, true, false, List, [], ◌∷◌, ◌++◌, refl, sym, ap, ◌∙◌, arith, append_assoc}
use Rattle.std.specs.Prelude.{codes, decimal, nat_eq, if◌then◌else◌}
use Rattle.std.proofs.lemmas.List.{append_cancel_left}
use Rattle.line_text.specs.Forms.{quoted, words_text}
use Rattle.store_model.specs.declared.reply.Reply.{Reply}
use Rattle.place_model.specs.declared.heard.Heard.{Heard}
use Rattle.place_model.specs.declared.history.Entry.{Entry}
use Rattle.place_model.specs.declared.history.Entry.TheVariants.{Call, Heard as Noted, Stop}
use Rattle.history_records.specs.Lines.{note_text, reply_text, entry_line, client_line}
use Rattle.history_records.specs.Recordable.{IsEvent, IsClient, IsRow}
use Rattle.history_records.specs.Rows.{row_line}
use Rattle.history_records.specs.declared.row.Row.{Row}
use Rattle.history_records.specs.declared.row.Row.TheVariants.{Client, Event}
use Rattle.record_laws.proofs.Apart.{heads, tails}
use Rattle.record_laws.proofs.Digits.{no_digit, decimal_apart}
use Rattle.record_laws.proofs.Notes.{after, note_apart}
use Rattle.record_laws.proofs.Replies.{is_end, end_digit, words_apart, reply_apart}

data Row_kind : Type 0 where
  A_client : Row_kind
  A_call : Row_kind
  A_note : Row_kind
  A_stop : Row_kind

row_kind : Row → Row_kind
row_kind (Client c s) = A_client
row_kind (Event (Call c at words reply)) = A_call
row_kind (Event (Noted c note)) = A_note
row_kind (Event (Stop c)) = A_stop

-- by the second letter
second_kind : List ℕ → Row_kind
second_kind (a ∷ b ∷ bs) = if nat_eq b 108 then A_client else if nat_eq b 97 then A_call else if nat_eq b 101 then A_note else A_stop
second_kind (a ∷ []) = A_stop
second_kind [] = A_stop

kind_told : (x : Row) (r : List ℕ) → second_kind (row_line x ++ r) ≡ row_kind x
unfolding second_kind row_kind
kind_told (Client c s) r = refl
kind_told (Event (Call c at words reply)) r = refl
kind_told (Event (Noted c note)) r = refl
kind_told (Event (Stop c)) r = refl

wide : (c : ℕ) → c < 2 ^ 32 → c < 2 ^ 64
wide c h = omega (arith, h)

-- what follows the words of a call
abbrev after_words : Reply → List ℕ → List ℕ
after_words reply r = 32 ∷ (reply_text reply ++ r)

-- what follows the first word of a call's line
abbrev call_rest : ℕ → ℕ → List (List ℕ) → Reply → List ℕ
call_rest at c words reply = decimal at ++ 32 ∷ (decimal c ++ 32 ∷ (words_text quoted words ++ (codes "= " ++ reply_text reply)))

call_on : (at c : ℕ) (words : List (List ℕ)) (reply : Reply) (r : List ℕ)
    → (decimal at ++ 32 ∷ (decimal c ++ 32 ∷ (words_text quoted words ++ (codes "= " ++ reply_text reply)))) ++ r ≡ decimal at ++ 32 ∷ (decimal c ++ 32 ∷ (words_text quoted words ++ 61 ∷ after_words reply r))
call_on at c words reply r =
    append_assoc (decimal at) _ r
    ∙ ap (λ t. decimal at ++ 32 ∷ t) (append_assoc (decimal c) _ r
    ∙ ap (λ t. decimal c ++ 32 ∷ t) (append_assoc (words_text quoted words) _ r))

call_apart : (at at' c c' : ℕ) (words words' : List (List ℕ)) (reply reply' : Reply) (r s : List ℕ) → IsEvent (Call c at words reply) → IsEvent (Call c' at' words' reply') → is_end r ≡ true → is_end s ≡ true → row_line (Event (Call c at words reply)) ++ r ≡ row_line (Event (Call c' at' words' reply')) ++ s → (Event (Call c at words reply) ≡ Event (Call c' at' words' reply')) × (r ≡ s)
call_apart at at' c c' words words' reply reply' r s a b j k e =
    let f = sym (call_on at c words reply r) ∙ after (codes "call ") (call_rest at c words reply) (call_rest at' c' words' reply') r s e ∙ call_on at' c' words' reply' s in
    let g = decimal_apart at at' _ _ a.1 b.1 refl refl f in
    let h = decimal_apart c c' _ _ (wide c a.0) (wide c' b.0) refl refl (tails 32 32 _ _ g.1) in
    let w = words_apart words words' (after_words reply r) (after_words reply' s) (tails 32 32 _ _ h.1) in
    let t = reply_apart reply reply' r s a.3 b.3 j k (tails 32 32 _ _ w.1) in
    ((λ i. Event (Call (h.0 i) (g.0 i) (w.0 i) (t.0 i))), t.1)

client_on : (c s : ℕ) (r : List ℕ) → (decimal c ++ (codes " seed " ++ decimal s)) ++ r ≡ decimal c ++ (codes " seed " ++ (decimal s ++ r))
client_on c s r = append_assoc (decimal c) (codes " seed " ++ decimal s) r ∙ ap (λ t. decimal c ++ t) (append_assoc (codes " seed ") (decimal s) r)

pub row_apart : (x y : Row) (r s : List ℕ) → IsRow x → IsRow y → is_end r ≡ true → is_end s ≡ true → row_line x ++ r ≡ row_line y ++ s → (x ≡ y) × (r ≡ s)
unfolding row_kind
row_apart x y r s a b j k e = by x y a b e (sym (kind_told x r) ∙ ap second_kind e ∙ kind_told y s) where
  by : (x y : Row) → IsRow x → IsRow y → row_line x ++ r ≡ row_line y ++ s → row_kind x ≡ row_kind y → (x ≡ y) × (r ≡ s)
  by (Client c p) (Client d q) a b e l =
      let f = sym (client_on c p r) ∙ after (codes "client ") (decimal c ++ (codes " seed " ++ decimal p)) (decimal d ++ (codes " seed " ++ decimal q)) r s e ∙ client_on d q s in
      let g = decimal_apart c d _ _ (wide c a.0) (wide d b.0) refl refl f in
      let h = decimal_apart p q r s a.1 b.1 (end_digit r j) (end_digit s k) (append_cancel_left (codes " seed ") _ _ g.1) in
      ((λ i. Client (g.0 i) (h.0 i)), h.1)
  by (Client c p) (Event (Call d at words reply)) a b e l = absurd (cc)
  by (Client c p) (Event (Noted d note)) a b e l = absurd (cc)
  by (Client c p) (Event (Stop d)) a b e l = absurd (cc)
  by (Event (Call c at words reply)) (Event (Call d at' words' reply')) a b e l = call_apart at at' c d words words' reply reply' r s a b j k e
  by (Event (Call c at words reply)) (Client d p) a b e l = absurd (cc)
  by (Event (Call c at words reply)) (Event (Noted d note)) a b e l = absurd (cc)
  by (Event (Call c at words reply)) (Event (Stop d)) a b e l = absurd (cc)
  by (Event (Noted c n)) (Event (Noted d m)) a b e l =
      let f = sym (append_assoc (decimal c) (32 ∷ note_text n) r) ∙ after (codes "heard ") (decimal c ++ 32 ∷ note_text n) (decimal d ++ 32 ∷ note_text m) r s e ∙ append_assoc (decimal d) (32 ∷ note_text m) s in
      let g = decimal_apart c d _ _ (wide c a.0) (wide d b.0) refl refl f in
      let h = note_apart n m r s a.1 b.1 j k (tails 32 32 _ _ g.1) in
      ((λ i. Event (Noted (g.0 i) (h.0 i))), h.1)
  by (Event (Noted c n)) (Client d p) a b e l = absurd (cc)
  by (Event (Noted c n)) (Event (Call d at words reply)) a b e l = absurd (cc)
  by (Event (Noted c n)) (Event (Stop d)) a b e l = absurd (cc)
  by (Event (Stop c)) (Event (Stop d)) a b e l =
      let g = decimal_apart c d r s (wide c a) (wide d b) (end_digit r j) (end_digit s k) (after (codes "stop ") (decimal c) (decimal d) r s e) in
      ((λ i. Event (Stop (g.0 i))), g.1)
  by (Event (Stop c)) (Client d p) a b e l = absurd (cc)
  by (Event (Stop c)) (Event (Call d at words reply)) a b e l = absurd (cc)
  by (Event (Stop c)) (Event (Noted d note)) a b e l = absurd (cc)
