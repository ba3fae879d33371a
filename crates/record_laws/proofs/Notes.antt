-- A note is told by what is written of it.
use Rattle.std.proofs.Common.{◌≡◌, ℕ, ◌<◌, ◌^◌, ◌/◌, ◌%◌, ◌*◌, ◌+◌, Bool, true, false, List, [], ◌∷◌, ◌++◌, refl, sym, ap, subst, ◌∙◌, arith, append_assoc}
use Rattle.std.specs.Prelude.{codes, decimal, nat_eq, if◌then◌else◌}
use Rattle.std.specs.Fmt.{signed_decimal}
use Rattle.std.proofs.lemmas.List.{append_cancel_left}
use Rattle.delivery_tags.specs.declared.tag.Tag.{Tag}
use Rattle.line_text.specs.Forms.{quoted}
use Rattle.line_text.specs.Short.{tag_short}
use Rattle.place_model.specs.declared.heard.Heard.{Heard}
use Rattle.place_model.specs.declared.heard.Heard.TheVariants.{Took, Finished, Expired, Revoked, Rejected, Held, Unreadable}
use Rattle.place_model.specs.declared.heard.Outcome.{Outcome}
use Rattle.place_model.specs.declared.heard.Outcome.TheVariants.{Success, Failure, Retry}
use Rattle.history_records.specs.Lines.{tag_text, outcome_text, note_text}
use Rattle.history_records.specs.Recordable.{is_integer, IsTag, IsOutcome, IsNote}
use Rattle.record_laws.proofs.Apart.{heads, tails}
use Rattle.record_laws.proofs.Digits.{no_digit, decimal_apart, signed_apart}
use Rattle.record_laws.proofs.Quotes.{quoted_apart}
use Rattle.record_laws.proofs.Replies.{is_end, end_digit}

-- what follows a front that both have
pub after : (front xs ys r s : List ℕ) → (front ++ xs) ++ r ≡ (front ++ ys) ++ s → xs ++ r ≡ ys ++ s
after front xs ys r s e = append_cancel_left front (xs ++ r) (ys ++ s) (sym (append_assoc front xs r) ∙ e ∙ append_assoc front ys s)

-- ---- tags

-- a tag's text and what follows
tag_on : (t : Tag) (r : List ℕ) → tag_text t ++ r ≡ decimal (t.0 / 2 ^ 64) ++ 58 ∷ (decimal (t.0 % 2 ^ 64) ++ r)
tag_on t r = append_assoc (decimal (t.0 / 2 ^ 64)) (58 ∷ decimal (t.0 % 2 ^ 64)) r

high_bits : (n : ℕ) → n < 2 ^ 128 → n / 2 ^ 64 < 2 ^ 64
high_bits n h = omega (arith, h)

low_bits : (n : ℕ) → n % 2 ^ 64 < 2 ^ 64
low_bits n = omega arith

both_bits : (m n : ℕ) → m / 2 ^ 64 ≡ n / 2 ^ 64 → m % 2 ^ 64 ≡ n % 2 ^ 64 → m ≡ n
both_bits m n e f = omega (arith, e, f)

pub tag_apart : (t u : Tag) (r s : List ℕ) → IsTag t → IsTag u → no_digit r ≡ true → no_digit s ≡ true → tag_text t ++ r ≡ tag_text u ++ s → (t ≡ u) × (r ≡ s)
tag_apart t u r s a b c d e =
    let f = decimal_apart (t.0 / 2 ^ 64) (u.0 / 2 ^ 64) _ _ (high_bits t.0 a) (high_bits u.0 b) refl refl (sym (tag_on t r) ∙ e ∙ tag_on u s) in
    let g = decimal_apart (t.0 % 2 ^ 64) (u.0 % 2 ^ 64) r s (low_bits t.0) (low_bits u.0) c d (tails 58 58 _ _ f.1) in
    let same = both_bits t.0 u.0 f.0 g.0 in
    ((λ i. record { 0 = same i }), g.1)

-- ---- outcomes

data Ending : Type 0 where
  Succeeded : Ending
  Failed : Ending
  Tried_again : Ending

ending_of : Outcome → Ending
ending_of (Success text) = Succeeded
ending_of (Failure text) = Failed
ending_of (Retry seconds) = Tried_again

first_ending : List ℕ → Ending
first_ending [] = Failed
first_ending (b ∷ bs) = if nat_eq b 115 then Succeeded else if nat_eq b 102 then Failed else Tried_again

ending_told : (o : Outcome) (r : List ℕ) → first_ending (outcome_text o ++ r) ≡ ending_of o
unfolding first_ending ending_of
ending_told (Success text) r = refl
ending_told (Failure text) r = refl
ending_told (Retry seconds) r = refl

pub outcome_apart : (o p : Outcome) (r s : List ℕ) → IsOutcome o → IsOutcome p → is_end r ≡ true → is_end s ≡ true → outcome_text o ++ r ≡ outcome_text p ++ s → (o ≡ p) × (r ≡ s)
unfolding ending_of
outcome_apart o p r s a b c d e = by o p a b e (sym (ending_told o r) ∙ ap first_ending e ∙ ending_told p s) where
  by : (o p : Outcome) → IsOutcome o → IsOutcome p → outcome_text o ++ r ≡ outcome_text p ++ s → ending_of o ≡ ending_of p → (o ≡ p) × (r ≡ s)
  by (Success t) (Success u) a b e k = let h = quoted_apart t u r s (after (codes "success ") (quoted t) (quoted u) r s e) in (ap (λ (x : List ℕ). Success x) h.0, h.1)
  by (Failure t) (Failure u) a b e k = let h = quoted_apart t u r s (after (codes "failure ") (quoted t) (quoted u) r s e) in (ap (λ (x : List ℕ). Failure x) h.0, h.1)
  by (Retry m) (Retry n) a b e k = let h = decimal_apart m n r s a b (end_digit r c) (end_digit s d) (after (codes "retry ") (decimal m) (decimal n) r s e) in (ap (λ (x : ℕ). Retry x) h.0, h.1)
  by (Success t) (Failure u) a b e k = absurd (cc)
  by (Success t) (Retry n) a b e k = absurd (cc)
  by (Failure t) (Success u) a b e k = absurd (cc)
  by (Failure t) (Retry n) a b e k = absurd (cc)
  by (Retry m) (Success u) a b e k = absurd (cc)
  by (Retry m) (Failure u) a b e k = absurd (cc)

-- ---- notes

data Note_kind : Type 0 where
  A_took : Note_kind
  A_finished : Note_kind
  An_expired : Note_kind
  A_revoked : Note_kind
  A_rejected : Note_kind
  A_held : Note_kind
  An_unreadable : Note_kind

note_kind : Heard → Note_kind
note_kind (Took t) = A_took
note_kind (Finished t o) = A_finished
note_kind (Expired t expires now) = An_expired
note_kind (Revoked t) = A_revoked
note_kind (Rejected t) = A_rejected
note_kind (Held t eta) = A_held
note_kind Unreadable = An_unreadable

-- by the first and the third letter: of REVOKED and REJECTED the third differs
letters_kind : ℕ → ℕ → Note_kind
letters_kind a c =
    if nat_eq a 84 then A_took else if nat_eq a 70 then A_finished else if nat_eq a 69 then An_expired else
    if nat_eq a 72 then A_held else if nat_eq a 85 then An_unreadable else (if nat_eq c 86 then A_revoked else A_rejected)

first_kind : List ℕ → Note_kind
first_kind (a ∷ b ∷ c ∷ bs) = letters_kind a c
first_kind (a ∷ b ∷ []) = An_unreadable
first_kind (a ∷ []) = An_unreadable
first_kind [] = An_unreadable

kind_told : (n : Heard) (r : List ℕ) → first_kind (note_text n ++ r) ≡ note_kind n
unfolding first_kind letters_kind note_kind
kind_told (Took t) r = refl
kind_told (Finished t o) r = refl
kind_told (Expired t expires now) r = refl
kind_told (Revoked t) r = refl
kind_told (Rejected t) r = refl
kind_told (Held t eta) r = refl
kind_told Unreadable r = refl

-- what follows a text and a space
space_on : (xs ys r : List ℕ) → (xs ++ 32 ∷ ys) ++ r ≡ xs ++ 32 ∷ (ys ++ r)
space_on xs ys r = append_assoc xs (32 ∷ ys) r

pub note_apart : (n m : Heard) (r s : List ℕ) → IsNote n → IsNote m → is_end r ≡ true → is_end s ≡ true → note_text n ++ r ≡ note_text m ++ s → (n ≡ m) × (r ≡ s)
unfolding note_kind
note_apart n m r s a b c d e = by n m a b e (sym (kind_told n r) ∙ ap first_kind e ∙ kind_told m s) where
  by : (n m : Heard) → IsNote n → IsNote m → note_text n ++ r ≡ note_text m ++ s → note_kind n ≡ note_kind m → (n ≡ m) × (r ≡ s)
  by (Took t) (Took u) a b e k = let h = tag_apart t u r s a b (end_digit r c) (end_digit s d) (after (codes "TOOK ") (tag_text t) (tag_text u) r s e) in (ap (λ (x : Tag). Took x) h.0, h.1)
  by (Revoked t) (Revoked u) a b e k = let h = tag_apart t u r s a b (end_digit r c) (end_digit s d) (after (codes "REVOKED ") (tag_text t) (tag_text u) r s e) in (ap (λ (x : Tag). Revoked x) h.0, h.1)
  by (Rejected t) (Rejected u) a b e k = let h = tag_apart t u r s a b (end_digit r c) (end_digit s d) (after (codes "REJECTED ") (tag_text t) (tag_text u) r s e) in (ap (λ (x : Tag). Rejected x) h.0, h.1)
  by (Finished t o) (Finished u p) a b e k =
      let f = after (codes "FINISHED ") (tag_text t ++ 32 ∷ outcome_text o) (tag_text u ++ 32 ∷ outcome_text p) r s e in
      let h = tag_apart t u _ _ a.0 b.0 refl refl (sym (space_on (tag_text t) (outcome_text o) r) ∙ f ∙ space_on (tag_text u) (outcome_text p) s) in
      let g = outcome_apart o p r s a.1 b.1 c d (tails 32 32 _ _ h.1) in
      ((λ i. Finished (h.0 i) (g.0 i)), g.1)
  by (Expired t x v) (Expired u z w) a b e k =
      let f = after (codes "EXPIRED ") (tag_text t ++ 32 ∷ (signed_decimal x ++ 32 ∷ signed_decimal v)) (tag_text u ++ 32 ∷ (signed_decimal z ++ 32 ∷ signed_decimal w)) r s e in
      let h = tag_apart t u _ _ a.0 b.0 refl refl (sym (space_on (tag_text t) _ r) ∙ f ∙ space_on (tag_text u) _ s) in
      let g = signed_apart x z _ _ a.1 b.1 refl refl (sym (space_on (signed_decimal x) (signed_decimal v) r) ∙ tails 32 32 _ _ h.1 ∙ space_on (signed_decimal z) (signed_decimal w) s) in
      let l = signed_apart v w r s a.2 b.2 (end_digit r c) (end_digit s d) (tails 32 32 _ _ g.1) in
      ((λ i. Expired (h.0 i) (g.0 i) (l.0 i)), l.1)
  by (Held t x) (Held u y) a b e k =
      let f = after (codes "HELD ") (tag_text t ++ 32 ∷ signed_decimal x) (tag_text u ++ 32 ∷ signed_decimal y) r s e in
      let h = tag_apart t u _ _ a.0 b.0 refl refl (sym (space_on (tag_text t) _ r) ∙ f ∙ space_on (tag_text u) _ s) in
      let g = signed_apart x y r s a.1 b.1 (end_digit r c) (end_digit s d) (tails 32 32 _ _ h.1) in
      ((λ i. Held (h.0 i) (g.0 i)), g.1)
  by Unreadable Unreadable a b e k = (refl, append_cancel_left (codes "UNREADABLE") r s e)
  by (Took t) (Finished u p) a b e k = absurd (cc)
  by (Took t) (Expired u z w) a b e k = absurd (cc)
  by (Took t) (Revoked u) a b e k = absurd (cc)
  by (Took t) (Rejected u) a b e k = absurd (cc)
  by (Took t) (Held u y) a b e k = absurd (cc)
  by (Took t) Unreadable a b e k = absurd (cc)
  by (Finished t o) (Took u) a b e k = absurd (cc)
  by (Finished t o) (Expired u z w) a b e k = absurd (cc)
  by (Finished t o) (Revoked u) a b e k = absurd (cc)
  by (Finished t o) (Rejected u) a b e k = absurd (cc)
  by (Finished t o) (Held u y) a b e k = absurd (cc)
  by (Finished t o) Unreadable a b e k = absurd (cc)
  by (Expired t x v) (Took u) a b e k = absurd (cc)
  by (Expired t x v) (Finished u p) a b e k = absurd (cc)
  by (Expired t x v) (Revoked u) a b e k = absurd (cc)
  by (Expired t x v) (Rejected u) a b e k = absurd (cc)
  by (Expired t x v) (Held u y) a b e k = absurd (cc)
  by (Expired t x v) Unreadable a b e k = absurd (cc)
  by (Revoked t) (Took u) a b e k = absurd (cc)
  by (Revoked t) (Finished u p) a b e k = absurd (cc)
  by (Revoked t) (Expired u z w) a b e k = absurd (cc)
  by (Revoked t) (Rejected u) a b e k = absurd (cc)
  by (Revoked t) (Held u y) a b e k = absurd (cc)
  by (Revoked t) Unreadable a b e k = absurd (cc)
  by (Rejected t) (Took u) a b e k = absurd (cc)
  by (Rejected t) (Finished u p) a b e k = absurd (cc)
  by (Rejected t) (Expired u z w) a b e k = absurd (cc)
  by (Rejected t) (Revoked u) a b e k = absurd (cc)
  by (Rejected t) (Held u y) a b e k = absurd (cc)
  by (Rejected t) Unreadable a b e k = absurd (cc)
  by (Held t x) (Took u) a b e k = absurd (cc)
  by (Held t x) (Finished u p) a b e k = absurd (cc)
  by (Held t x) (Expired u z w) a b e k = absurd (cc)
  by (Held t x) (Revoked u) a b e k = absurd (cc)
  by (Held t x) (Rejected u) a b e k = absurd (cc)
  by (Held t x) Unreadable a b e k = absurd (cc)
  by Unreadable (Took u) a b e k = absurd (cc)
  by Unreadable (Finished u p) a b e k = absurd (cc)
  by Unreadable (Expired u z w) a b e k = absurd (cc)
  by Unreadable (Revoked u) a b e k = absurd (cc)
  by Unreadable (Rejected u) a b e k = absurd (cc)
  by Unreadable (Held u y) a b e k = absurd (cc)
