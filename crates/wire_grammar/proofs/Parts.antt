-- The readers of the parts of a value.
use Rattle.std.proofs.Common.{◌≡◌, ℕ, ℤ, pos, negsuc, zero, suc, ◌+◌, ◌-◌, ◌*◌, ◌^◌, ◌<◌, ◌≤◌, ◌≢◌, List, [], ◌∷◌, ◌++◌, length, Bool, true, false, ◌==◌, nat_le, nat_lt, refl, sym, ap, subst, ◌∙◌, arith, append_assoc, append-nil, length-append, inl, inr}
use Rattle.std.specs.Prelude.{◌⊎◌, ◌||◌, Some, if◌then◌else◌, ◌&&◌}
use Rattle.std.specs.List.{list_any}
use Rattle.std.proofs.lemmas.Bool.Decides.{nat_tests}
use Rattle.numerals.specs.Integers.{digits_onto}
use Rattle.numerals.proofs.Texts.{digit_on, digit_in, some_same, onto_bound, magnitude_first, magnitude_is, MagnitudeIs, IsZero, IsDigits, plain_spelled, negative_spelled, integer_is, IsMagnitude}
use Rattle.wire_values.specs.declared.value.Value.{Value}
use Rattle.wire_values.specs.declared.value.Value.TheVariants.{Integer, Bulk, NullBulk, Array, NullArray}
use Rattle.wire_grammar.specs.declared.kind.WireKind.{WireKind}
use Rattle.wire_grammar.specs.declared.kind.WireKind.TheVariants.{BadInteger, NoCrLf, TooLong}
use Rattle.wire_grammar.specs.declared.kind.NumberKind.{NumberKind}
use Rattle.wire_grammar.specs.declared.kind.NumberKind.TheVariants.{Whole, Length, Count}
use Rattle.wire_grammar.specs.Limits.{text_limit, limit_of, is_end}
use Rattle.wire_grammar.specs.Spells.{crlf, IsWithin, IsNumber, IsText, AreSpelled}
use Rattle.wire_grammar.specs.Reads.{Reading, Next, byte_at, feed_at, wire_text_at, is_digit, signed, grown, over_of, digits_at, zero_at, begins_below, minus_at, number_at, content_at, values_at, integer_for, bulk_for, array_for}
use Rattle.wire_grammar.specs.Faults.{IsWrongArray, IsWrongItem, begins_digits, has, number_kind, text_kind}
use Rattle.wire_grammar.proofs.Readers.{Never, Tells, Unspelled, Why, Within, IsReader, restated, restated_for, byte_tells, stuck_tells, nothing, AfterByte, after_byte, Both, in_turn, mapped, place_cons, unspelled}

-- why a byte is wrong, in each part
abbrev pub InFeed : Why
InFeed b x k = (b ≡ []) × (k ≡ NoCrLf)

abbrev pub InLine : WireKind → Why
InLine kind b x k = (has 10 b ≡ false) × (k ≡ (if has 13 b then NoCrLf else kind))

abbrev pub InMore : NumberKind → Bool → Why
InMore w s b x k = (has 10 b ≡ false) × (k ≡ (if has 13 b then NoCrLf else if is_digit x then over_of w s else BadInteger))

abbrev pub InNumber : NumberKind → Why
InNumber w b x k = (has 10 b ≡ false) × (k ≡ number_kind w b x)

abbrev pub InText : Why
InText b x k = k ≡ text_kind b x

abbrev pub InContent : Why
InContent b x k = k ≡ NoCrLf

pub feed_reader : {A : Type 0} (a : A) → IsReader (feed_at a) (λ x b. (b ≡ 10 ∷ []) × (x ≡ a)) InFeed
feed_reader {A} a = restated (feed_at a) (AfterByte 10 (λ x b. (b ≡ []) × (x ≡ a))) (λ x b. (b ≡ 10 ∷ []) × (x ≡ a))
    (λ x b r. (r.1 ∙ ap (λ l. 10 ∷ l) r.2.0, r.2.1)) (λ x b r. ([], r.0, (refl, r.1)))
    (after_byte 10 NoCrLf (λ k p cs. k a p cs) (λ x b. (b ≡ []) × (x ≡ a)) Never InFeed (nothing a) (λ x. (refl, refl)) (λ b x k w. absurd w))

pub line_reader : {A : Type 0} (kind : WireKind) (a : A) → IsReader (λ k. byte_at 13 kind (feed_at a k)) (λ x b. (b ≡ crlf) × (x ≡ a)) (InLine kind)
line_reader {A} kind a = restated (λ k. byte_at 13 kind (feed_at a k)) (AfterByte 13 (λ x b. (b ≡ 10 ∷ []) × (x ≡ a))) (λ x b. (b ≡ crlf) × (x ≡ a))
    (λ x b r. (r.1 ∙ ap (λ l. 13 ∷ l) r.2.0, r.2.1)) (λ x b r. (10 ∷ [], r.0, (refl, r.1)))
    (after_byte 13 kind (feed_at a) (λ x b. (b ≡ 10 ∷ []) × (x ≡ a)) InFeed (InLine kind) (feed_reader a) (λ x. (refl, refl)) (λ b x k w. (rw w.0 refl, w.1)))

-- a number without its sign
abbrev magnitude : Bool → ℕ → ℕ
magnitude false n = n
magnitude true n = suc n

magnitude_grown : (s : Bool) (n d : ℕ) → magnitude s n * 10 + d ≡ magnitude s (grown s n d)
magnitude_grown false n d = refl
magnitude_grown true n d = omega arith

magnitude_small : (s : Bool) (n : ℕ) → n < 2 ^ 63 → magnitude s n < 2 ^ 64
magnitude_small false n l = omega (arith, l)
magnitude_small true n l = omega (arith, l)

magnitude_tells : (s : Bool) (n m : ℕ) → magnitude s n ≡ magnitude s m → n ≡ m
magnitude_tells false n m e = e
magnitude_tells true n m e = omega (arith, e)

magnitude_below : (s : Bool) (n m : ℕ) → magnitude s n ≤ magnitude s m → n ≤ m
magnitude_below false n m e = e
magnitude_below true n m e = omega (arith, e)

-- a digit ends no line
no_feed : (c : ℕ) (b : List ℕ) → is_digit c ≡ true → has 10 b ≡ false → has 10 (c ∷ b) ≡ false
no_feed c b d e = let other : (c == 10) ≡ false = grind (arith, nat_tests) in rw (other, e) refl

no_return : (c : ℕ) (b : List ℕ) → is_digit c ≡ true → has 13 (c ∷ b) ≡ has 13 b
no_return c b d = let other : (c == 13) ≡ false = grind (arith, nat_tests) in rw other refl

-- behind a minus sign nothing passes a limit
over_below : (w : NumberKind) → over_of w true ≡ BadInteger
over_below Whole = refl
over_below Length = refl
over_below Count = refl

same_either : (t : Bool) (k : WireKind) → (if t then k else k) ≡ k
same_either true k = refl
same_either false k = refl

below_kind : (w : NumberKind) (b : List ℕ) (x : ℕ) → (if has 13 b then NoCrLf else if is_digit x then over_of w true else BadInteger) ≡ (if has 13 b then NoCrLf else BadInteger)
below_kind w b x = ap (λ (k : WireKind). if has 13 b then NoCrLf else k) (ap (λ (k : WireKind). if is_digit x then k else BadInteger) (over_below w) ∙ same_either (is_digit x) BadInteger)

and_false : (t : Bool) → (t && false) ≡ false
and_false true = refl
and_false false = refl

and_true : (t : Bool) → (t && true) ≡ t
and_true true = refl
and_true false = refl

-- after a first byte that begins no digits a number goes no further than its line
number_plain : (w : NumberKind) (b : List ℕ) (x : ℕ) → begins_digits b ≡ false → number_kind w b x ≡ (if has 13 b then NoCrLf else BadInteger)
number_plain w b x e = ap (λ (t : Bool). if has 13 b then NoCrLf else if is_digit x && t then over_of w false else BadInteger) e ∙ ap (λ (t : Bool). if has 13 b then NoCrLf else if t then over_of w false else BadInteger) (and_false (is_digit x))

number_digits : (w : NumberKind) (b : List ℕ) (x : ℕ) → begins_digits b ≡ true → number_kind w b x ≡ (if has 13 b then NoCrLf else if is_digit x then over_of w false else BadInteger)
number_digits w b x e = ap (λ (t : Bool). if has 13 b then NoCrLf else if is_digit x && t then over_of w false else BadInteger) e ∙ ap (λ (t : Bool). if has 13 b then NoCrLf else if t then over_of w false else BadInteger) (and_true (is_digit x))

-- the digits after n, up to the end of the line, make this number
abbrev pub IsMore : NumberKind → Bool → ℕ → ℤ → List ℕ → Type 0
IsMore w s n z [] = ⊥
IsMore w s n z (c ∷ cs) = ((c ≡ 13) × (cs ≡ 10 ∷ []) × (z ≡ signed s n)) ⊎ ((is_digit c ≡ true) × (grown s n (c - 48) ≤ limit_of w s) × IsMore w s (grown s n (c - 48)) z cs)

module _ (w : NumberKind) (s : Bool) where
  digit_more : (n c : ℕ) → is_digit c ≡ true → grown s n (c - 48) ≤ limit_of w s → (k : Next ℤ) (p : ℕ) (cs : List ℕ)
      → digits_at w s n k p (c ∷ cs) ≡ digits_at w s (grown s n (c - 48)) k (p + 1) cs
  digit_more n c d l k p cs =
      let other : (c == 13) ≡ false = grind (arith, nat_tests) in
      let within : nat_le (grown s n (c - 48)) (limit_of w s) ≡ true = grind (arith, nat_tests) in
      rw (other, d, within) refl

  more_whole : (n : ℕ) (z : ℤ) (b rest : List ℕ) (p : ℕ) (k : Next ℤ) → IsMore w s n z b → digits_at w s n k p (b ++ rest) ≡ k z (p + length b) rest
  more_whole n z [] rest p k r = absurd r
  more_whole n z (c ∷ cs) rest p k (inl r) = rw (r.0, r.1, r.2) (ap (λ (i : ℕ). k (signed s n) i rest) (let e : p + 1 + 1 ≡ p + 2 = omega arith in e))
  more_whole n z (c ∷ cs) rest p k (inr r) = digit_more n c r.0 r.1 k p (cs ++ rest) ∙ more_whole (grown s n (c - 48)) z cs rest (p + 1) k r.2 ∙ ap (λ (i : ℕ). k z i rest) (place_cons p cs c)

  more_some : (n : ℕ) → IsMore w s n (signed s n) crlf
  more_some n = inl (refl, refl, refl)

  more_digit : (n c : ℕ) (cs : List ℕ) (t l : Bool) → (c == 13) ≡ false → is_digit c ≡ t → nat_le (grown s n (c - 48)) (limit_of w s) ≡ l
      → (((m : ℕ) → Tells (digits_at w s m) (IsMore w s m) (InMore w s) cs)) → Tells (digits_at w s n) (IsMore w s n) (InMore w s) (c ∷ cs)
  more_digit n c cs true true nl d l more =
      let within : grown s n (c - 48) ≤ limit_of w s = grind (arith, nat_tests) in
      byte_tells (digits_at w s n) (digits_at w s (grown s n (c - 48))) (IsMore w s n) (IsMore w s (grown s n (c - 48))) (InMore w s) (InMore w s) c (digit_more n c d within) (λ a y r. inr (d, within, r))
      (λ b x k r. (no_feed c b d r.0, r.1 ∙ ap (λ (t : Bool). if t then NoCrLf else if is_digit x then over_of w s else BadInteger) (sym (no_return c b d)))) cs (more (grown s n (c - 48)))
  more_digit n c cs true false nl d l more = stuck_tells (digits_at w s n) (IsMore w s n) (InMore w s) c cs (over_of w s) (λ k p cs. rw (nl, d, l) refl) (signed s n) crlf (more_some n) (refl, rw d refl)
  more_digit n c cs false l nl d e more = stuck_tells (digits_at w s n) (IsMore w s n) (InMore w s) c cs BadInteger (λ k p cs. rw (nl, d) refl) (signed s n) crlf (more_some n) (refl, rw d refl)

  more_cons : (n c : ℕ) (cs : List ℕ) (t : Bool) → (c == 13) ≡ t
      → (((m : ℕ) → Tells (digits_at w s m) (IsMore w s m) (InMore w s) cs)) → Tells (digits_at w s n) (IsMore w s n) (InMore w s) (c ∷ cs)
  more_cons n c cs true e more =
      let same : c ≡ 13 = grind (arith, nat_tests) in
      byte_tells (digits_at w s n) (feed_at (signed s n)) (IsMore w s n) (λ x b. (b ≡ 10 ∷ []) × (x ≡ signed s n)) InFeed (InMore w s) c (λ k p cs. rw e refl) (λ a y r. inl (same, r.0, r.1))
      (λ b x k r. subst (λ (z : ℕ). InMore w s (z ∷ b) x k) (sym same) (rw r.0 refl, r.1)) cs ((feed_reader (signed s n)).tells cs)
  more_cons n c cs false e more = more_digit n c cs (is_digit c) (nat_le (grown s n (c - 48)) (limit_of w s)) e refl refl more

  more_tells : (n : ℕ) (b : List ℕ) → Tells (digits_at w s n) (IsMore w s n) (InMore w s) b
  more_tells n [] = Within (λ k p. refl) (signed s n) crlf (more_some n)
  more_tells n (c ∷ cs) = more_cons n c cs (c == 13) refl (λ m. more_tells m cs)

  pub more_reader : (n : ℕ) → IsReader (digits_at w s n) (IsMore w s n) (InMore w s)
  more_reader n = record { whole = λ z b rest p k r. more_whole n z b rest p k r; tells = more_tells n; some = (signed s n, crlf, more_some n) }

  -- digits are told apart from the end of their line
  pub more_is : (n : ℕ) (z : ℤ) (b : List ℕ) → limit_of w s < 2 ^ 63 → n ≤ limit_of w s → IsMore w s n z b
      → (m : ℕ) × (ds : List ℕ) × (b ≡ ds ++ crlf) × (digits_onto (magnitude s n) ds ≡ Some (magnitude s m)) × (z ≡ signed s m) × (m ≤ limit_of w s)
  more_is n z [] small l r = absurd r
  more_is n z (c ∷ cs) small l (inl r) = (n, [], (λ j. r.0 j ∷ r.1 j), refl, r.2, l)
  more_is n z (c ∷ cs) small l (inr r) =
      let low : 48 ≤ c = grind (arith, nat_tests) in
      let high : c ≤ 57 = grind (arith, nat_tests) in
      let h = more_is (grown s n (c - 48)) z cs small r.1 r.2 in
      let g = magnitude_grown s n (c - 48) in
      let within : magnitude s (grown s n (c - 48)) < 2 ^ 64 = magnitude_small s (grown s n (c - 48)) (omega (arith, r.1, small)) in
      (h.0, c ∷ h.1, ap (λ l. c ∷ l) h.2, digit_on (magnitude s n) c h.1 low high (omega (arith, g, within)) ∙ ap (λ (i : ℕ). digits_onto i h.1) g ∙ h.3, h.4, h.5)

  pub is_more : (n m : ℕ) (ds : List ℕ) → magnitude s n < 2 ^ 64 → digits_onto (magnitude s n) ds ≡ Some (magnitude s m) → m ≤ limit_of w s → IsMore w s n (signed s m) (ds ++ crlf)
  is_more n m [] small e l = inl (refl, refl, ap (signed s) (sym (magnitude_tells s n m (some_same (magnitude s n) (magnitude s m) e))))
  is_more n m (c ∷ ds) small e l =
      let d = digit_in (magnitude s n) c (magnitude s m) ds e in
      let digit : is_digit c ≡ true = grind (arith, nat_tests, d.0, d.1) in
      let g = magnitude_grown s n (c - 48) in
      let on : digits_onto (magnitude s (grown s n (c - 48))) ds ≡ Some (magnitude s m) = ap (λ (i : ℕ). digits_onto i ds) (sym g) ∙ d.3 in
      let within : magnitude s (grown s n (c - 48)) < 2 ^ 64 = omega (arith, g, d.2) in
      let b = onto_bound (magnitude s (grown s n (c - 48))) (magnitude s m) ds within on in
      inr (digit, omega (arith, magnitude_below s (grown s n (c - 48)) m b.0, l), is_more (grown s n (c - 48)) m ds within on l)

limit_small : (w : NumberKind) (s : Bool) → limit_of w s < 2 ^ 63
limit_small Whole s = omega arith
limit_small Length false = omega arith
limit_small Length true = omega arith
limit_small Count false = omega arith
limit_small Count true = omega arith

limit_nine : (w : NumberKind) → 9 ≤ limit_of w false
limit_nine Whole = omega arith
limit_nine Length = omega arith
limit_nine Count = omega arith

begins_is : (w : NumberKind) (c : ℕ) → begins_below w c ≡ true → (49 ≤ c) × (c ≤ 57) × (c - 49 ≤ limit_of w true)
begins_is w c e = (grind (arith, nat_tests), grind (arith, nat_tests), grind (arith, nat_tests))

-- the digits after a minus sign, up to the end of the line
abbrev pub IsBelow : NumberKind → ℤ → List ℕ → Type 0
IsBelow w z [] = ⊥
IsBelow w z (c ∷ cs) = (begins_below w c ≡ true) × IsMore w true (c - 49) z cs

module _ (w : NumberKind) where
  below_whole : (z : ℤ) (b rest : List ℕ) (p : ℕ) (k : Next ℤ) → IsBelow w z b → minus_at w k p (b ++ rest) ≡ k z (p + length b) rest
  below_whole z [] rest p k r = absurd r
  below_whole z (c ∷ cs) rest p k r = rw r.0 ((more_reader w true (c - 49)).whole z cs rest (p + 1) k r.1 ∙ ap (λ (i : ℕ). k z i rest) (place_cons p cs c))

  begins_one : (w : NumberKind) → begins_below w 49 ≡ true
  begins_one Whole = refl
  begins_one Length = refl
  begins_one Count = refl

  below_some : IsBelow w (negsuc 0) (49 ∷ crlf)
  below_some = (begins_one w, inl (refl, refl, refl))

  below_cons : (c : ℕ) (cs : List ℕ) (t : Bool) → begins_below w c ≡ t → Tells (minus_at w) (IsBelow w) (InLine BadInteger) (c ∷ cs)
  below_cons c cs true e =
      let digit : is_digit c ≡ true = let is = begins_is w c e in grind (arith, nat_tests, is.0, is.1) in
      byte_tells (minus_at w) (digits_at w true (c - 49)) (IsBelow w) (IsMore w true (c - 49)) (InMore w true) (InLine BadInteger) c (λ k p cs. rw e refl) (λ a y r. (e, r))
      (λ b x k r. (no_feed c b digit r.0, r.1 ∙ below_kind w b x ∙ ap (λ (t : Bool). if t then NoCrLf else BadInteger) (sym (no_return c b digit)))) cs ((more_reader w true (c - 49)).tells cs)
  below_cons c cs false e = stuck_tells (minus_at w) (IsBelow w) (InLine BadInteger) c cs BadInteger (λ k p cs. rw e refl) (negsuc 0) (49 ∷ crlf) below_some (refl, refl)

  below_tells : (b : List ℕ) → Tells (minus_at w) (IsBelow w) (InLine BadInteger) b
  below_tells [] = Within (λ k p. refl) (negsuc 0) (49 ∷ crlf) below_some
  below_tells (c ∷ cs) = below_cons c cs (begins_below w c) refl

  pub below_reader : IsReader (minus_at w) (IsBelow w) (InLine BadInteger)
  below_reader = record { whole = below_whole; tells = below_tells; some = (negsuc 0, 49 ∷ crlf, below_some) }

-- a number by its first byte, up to the end of its line
abbrev pub IsSomeNumber : NumberKind → ℤ → List ℕ → Type 0
IsSomeNumber w z [] = ⊥
IsSomeNumber w z (c ∷ cs) = ((c ≡ 48) × (cs ≡ crlf) × (z ≡ pos 0)) ⊎ ((((c == 48) ≡ false) × (is_digit c ≡ true) × IsMore w false (c - 48) z cs) ⊎ ((c ≡ 45) × IsBelow w z cs))

module _ (w : NumberKind) where
  number_whole : (z : ℤ) (b rest : List ℕ) (p : ℕ) (k : Next ℤ) → IsSomeNumber w z b → number_at w k p (b ++ rest) ≡ k z (p + length b) rest
  number_whole z [] rest p k r = absurd r
  number_whole z (c ∷ cs) rest p k (inl r) = rw (r.0, r.1, r.2) (ap (λ (i : ℕ). k (pos 0) i rest) (let e : p + 1 + 1 + 1 ≡ p + 3 = omega arith in e))
  number_whole z (c ∷ cs) rest p k (inr (inl r)) = rw (r.0, r.1) ((more_reader w false (c - 48)).whole z cs rest (p + 1) k r.2 ∙ ap (λ (i : ℕ). k z i rest) (place_cons p cs c))
  number_whole z (c ∷ cs) rest p k (inr (inr r)) = rw r.0 ((below_reader w).whole z cs rest (p + 1) k r.1 ∙ ap (λ (i : ℕ). k z i rest) (place_cons p cs c))

  zero_is : IsSomeNumber w (pos 0) (48 ∷ crlf)
  zero_is = inl (refl, refl, refl)

  third_byte : (c : ℕ) (cs : List ℕ) (t : Bool) → (c == 48) ≡ false → is_digit c ≡ false → (c == 45) ≡ t → Tells (number_at w) (IsSomeNumber w) (InNumber w) (c ∷ cs)
  third_byte c cs true z d m =
      let same : c ≡ 45 = grind (arith, nat_tests) in
      byte_tells (number_at w) (minus_at w) (IsSomeNumber w) (IsBelow w) (InLine BadInteger) (InNumber w) c (λ k p cs. rw (z, d, m) refl) (λ a y r. inr (inr (same, r)))
      (λ b x k r. subst (λ (i : ℕ). InNumber w (i ∷ b) x k) (sym same) (r.0, r.1 ∙ sym (number_plain w (45 ∷ b) x refl))) cs ((below_reader w).tells cs)
  third_byte c cs false z d m = stuck_tells (number_at w) (IsSomeNumber w) (InNumber w) c cs BadInteger (λ k p cs. rw (z, d, m) refl) (pos 0) (48 ∷ crlf) zero_is (refl, sym (number_plain w [] c refl))

  second_byte : (c : ℕ) (cs : List ℕ) (t : Bool) → (c == 48) ≡ false → is_digit c ≡ t → Tells (number_at w) (IsSomeNumber w) (InNumber w) (c ∷ cs)
  second_byte c cs true z d = byte_tells (number_at w) (digits_at w false (c - 48)) (IsSomeNumber w) (IsMore w false (c - 48)) (InMore w false) (InNumber w) c (λ k p cs. rw (z, d) refl) (λ a y r. inr (inl (z, d, r)))
      (λ b x k r. (no_feed c b d r.0, r.1 ∙ ap (λ (t : Bool). if t then NoCrLf else if is_digit x then over_of w false else BadInteger) (sym (no_return c b d)) ∙ sym (number_digits w (c ∷ b) x (rw (d, z) refl)))) cs ((more_reader w false (c - 48)).tells cs)
  second_byte c cs false z d = third_byte c cs (c == 45) z d refl

  first_byte : (c : ℕ) (cs : List ℕ) (t : Bool) → (c == 48) ≡ t → Tells (number_at w) (IsSomeNumber w) (InNumber w) (c ∷ cs)
  first_byte c cs true z =
      let same : c ≡ 48 = grind (arith, nat_tests) in
      byte_tells (number_at w) zero_at (IsSomeNumber w) (λ x b. (b ≡ crlf) × (x ≡ pos 0)) (InLine BadInteger) (InNumber w) c (λ k p cs. rw z refl) (λ a y r. inl (same, r.0, r.1))
      (λ b x k r. subst (λ (i : ℕ). InNumber w (i ∷ b) x k) (sym same) (r.0, r.1 ∙ sym (number_plain w (48 ∷ b) x refl))) cs ((line_reader BadInteger (pos 0)).tells cs)
  first_byte c cs false z = second_byte c cs (is_digit c) z refl

  number_tells : (b : List ℕ) → Tells (number_at w) (IsSomeNumber w) (InNumber w) b
  number_tells [] = Within (λ k p. refl) (pos 0) (48 ∷ crlf) zero_is
  number_tells (c ∷ cs) = first_byte c cs (c == 48) refl

within_plain : (w : NumberKind) (n : ℕ) → n ≤ limit_of w false → IsWithin w (pos n)
within_plain Whole n l = tt
within_plain Length n l = l
within_plain Count n l = l

within_below : (w : NumberKind) (n : ℕ) → n ≤ limit_of w true → IsWithin w (negsuc n)
within_below Whole n l = tt
within_below Length n l = omega (arith, l)
within_below Count n l = omega (arith, l)

plain_limit : (w : NumberKind) (n : ℕ) → n < 2 ^ 63 → IsWithin w (pos n) → n ≤ limit_of w false
plain_limit Whole n small i = omega (arith, small)
plain_limit Length n small i = i
plain_limit Count n small i = i

below_limit : (w : NumberKind) (n : ℕ) → n < 2 ^ 63 → IsWithin w (negsuc n) → n ≤ limit_of w true
below_limit Whole n small i = omega (arith, small)
below_limit Length n small i = omega (arith, i)
below_limit Count n small i = omega (arith, i)

module _ (w : NumberKind) where
  some_number : (z : ℤ) (b : List ℕ) → IsSomeNumber w z b → IsNumber w z b
  some_number z [] r = absurd r
  some_number z (c ∷ cs) (inl r) = rw (r.0, r.1, r.2) (48 ∷ [], refl, within_plain w 0 (omega arith), refl)
  some_number z (c ∷ cs) (inr (inl r)) =
      let low : 48 ≤ c = grind (arith, nat_tests) in
      let high : c ≤ 57 = grind (arith, nat_tests) in
      let other : c ≢ 48 = grind (arith, nat_tests) in
      let nine = limit_nine w in
      let h = more_is w false (c - 48) z cs (limit_small w false) (omega (arith, high, nine)) r.2 in
      let first : digits_onto 0 (c ∷ h.1) ≡ Some h.0 = digit_on 0 c h.1 low high (omega (arith, high)) ∙ ap (λ (i : ℕ). digits_onto i h.1) (omega arith) ∙ h.3 in
      subst (λ (x : ℤ). IsNumber w x (c ∷ cs)) (sym h.4)
      (c ∷ h.1, plain_spelled (c ∷ h.1) h.0 (omega (arith, h.5, limit_small w false)) (magnitude_first c h.1 other ∙ first), within_plain w h.0 h.5, ap (λ l. c ∷ l) h.2)
  some_number z (c ∷ cs) (inr (inr r)) = subst (λ (x : ℕ). IsNumber w z (x ∷ cs)) (sym r.0) (behind_minus cs r.1) where
    behind_minus : (cs : List ℕ) → IsBelow w z cs → IsNumber w z (45 ∷ cs)
    behind_minus [] b = absurd b
    behind_minus (d ∷ ds) b =
        let is = begins_is w d b.0 in
        let h = more_is w true (d - 49) z ds (limit_small w true) is.2 b.1 in
        let other : d ≢ 48 = λ e. omega (arith, e, is.0) in
        let same : 0 * 10 + (d - 48) ≡ suc (d - 49) = omega (arith, is.0) in
        let first : digits_onto 0 (d ∷ h.1) ≡ Some (suc h.0) = digit_on 0 d h.1 (omega (arith, is.0)) is.1 (omega (arith, is.1)) ∙ ap (λ (i : ℕ). digits_onto i h.1) same ∙ h.3 in
        subst (λ (x : ℤ). IsNumber w x (45 ∷ d ∷ ds)) (sym h.4)
        (45 ∷ d ∷ h.1, negative_spelled (d ∷ h.1) h.0 (omega (arith, h.5, limit_small w true)) (magnitude_first d h.1 other ∙ first), within_below w h.0 h.5, ap (λ l. 45 ∷ d ∷ l) h.2)

  plain_some : (n : ℕ) (digits : List ℕ) → n < 2 ^ 63 → IsWithin w (pos n) → MagnitudeIs digits n → IsSomeNumber w (pos n) (digits ++ crlf)
  plain_some n digits small i (IsZero e z) = subst (λ (l : List ℕ). IsSomeNumber w (pos n) (l ++ crlf)) (sym e) (inl (refl, refl, ap pos z))
  plain_some n digits small i (IsDigits c ds e other spelled) =
      let d = digit_in 0 c n ds spelled in
      let digit : is_digit c ≡ true = grind (arith, nat_tests, d.0, d.1) in
      let first : (c == 48) ≡ false = grind (arith, nat_tests) in
      let same : 0 * 10 + (c - 48) ≡ c - 48 = omega arith in
      subst (λ (l : List ℕ). IsSomeNumber w (pos n) (l ++ crlf)) (sym e)
      (inr (inl (first, digit, is_more w false (c - 48) n ds (omega (arith, d.2)) (ap (λ (i : ℕ). digits_onto i ds) (sym same) ∙ d.3) (plain_limit w n small i))))

  below_some_number : (n : ℕ) (bs : List ℕ) → n < 2 ^ 63 → IsWithin w (negsuc n) → MagnitudeIs bs (suc n) → IsBelow w (negsuc n) (bs ++ crlf)
  below_some_number n bs small i (IsZero e z) = absurd (omega (arith, z))
  below_some_number n bs small i (IsDigits c ds e other spelled) =
      let d = digit_in 0 c (suc n) ds spelled in
      let l = below_limit w n small i in
      let b = onto_bound (0 * 10 + (c - 48)) (suc n) ds d.2 d.3 in
      let low : 49 ≤ c = omega (arith, d.0, other) in
      let high = d.1 in
      let within : c - 49 ≤ limit_of w true = omega (arith, b.0, l, low) in
      let begins : begins_below w c ≡ true = grind (arith, nat_tests) in
      let same : 0 * 10 + (c - 48) ≡ suc (c - 49) = omega (arith, low) in
      subst (λ (l : List ℕ). IsBelow w (negsuc n) (l ++ crlf)) (sym e)
      (begins, is_more w true (c - 49) n ds (omega (arith, high)) (ap (λ (i : ℕ). digits_onto i ds) (sym same) ∙ d.3) l)

  number_some : (z : ℤ) (b : List ℕ) → IsNumber w z b → IsSomeNumber w z b
  number_some z b r = subst (λ (l : List ℕ). IsSomeNumber w z l) (sym r.3) (by z r.0 (integer_is r.0 z r.1) r.2) where
    by : (z : ℤ) (digits : List ℕ) → IsMagnitude z digits → IsWithin w z → IsSomeNumber w z (digits ++ crlf)
    by (pos n) digits m i = plain_some n digits m.0 i (magnitude_is digits n m.1)
    by (negsuc n) digits m i = subst (λ (l : List ℕ). IsSomeNumber w (negsuc n) (l ++ crlf)) (sym m.2) (inr (inr (refl, below_some_number n m.1 m.0 i (magnitude_is m.1 (suc n) m.3))))

  pub number_reader : IsReader (number_at w) (IsNumber w) (InNumber w)
  number_reader = restated (number_at w) (IsSomeNumber w) (IsNumber w) some_number number_some
      (record { whole = λ m b rest p k r. number_whole w m b rest p k r; tells = number_tells w; some = (pos 0, 48 ∷ crlf, zero_is w) })

-- the rest of a text, up to the end of its line
abbrev pub IsTextRest : List ℕ → List ℕ → List ℕ → Type 0
IsTextRest acc t [] = ⊥
IsTextRest acc t (c ∷ cs) = ((c ≡ 13) × (cs ≡ 10 ∷ []) × (t ≡ acc)) ⊎ ((is_end c ≡ false) × (length acc < text_limit) × IsTextRest (acc ++ c ∷ []) t cs)

text_byte : (acc : List ℕ) (c : ℕ) → is_end c ≡ false → length acc < text_limit → (k : Next (List ℕ)) (p : ℕ) (cs : List ℕ)
    → wire_text_at acc k p (c ∷ cs) ≡ wire_text_at (acc ++ c ∷ []) k (p + 1) cs
text_byte acc c e l k p cs =
    let a : (c == 13) ≡ false = grind (arith, nat_tests) in
    let b : (c == 10) ≡ false = grind (arith, nat_tests) in
    let within : nat_lt (length acc) text_limit ≡ true = grind (arith, nat_tests) in
    rw (a, b, within) refl

text_whole : (acc t b rest : List ℕ) (p : ℕ) (k : Next (List ℕ)) → IsTextRest acc t b → wire_text_at acc k p (b ++ rest) ≡ k t (p + length b) rest
text_whole acc t [] rest p k r = absurd r
text_whole acc t (c ∷ cs) rest p k (inl r) = rw (r.0, r.1, r.2) (ap (λ (i : ℕ). k acc i rest) (let e : p + 1 + 1 ≡ p + 2 = omega arith in e))
text_whole acc t (c ∷ cs) rest p k (inr r) = text_byte acc c r.0 r.1 k p (cs ++ rest) ∙ text_whole (acc ++ c ∷ []) t cs rest (p + 1) k r.2 ∙ ap (λ (i : ℕ). k t i rest) (place_cons p cs c)

text_some : (acc : List ℕ) → IsTextRest acc acc crlf
text_some acc = inl (refl, refl, refl)

text_room : (acc : List ℕ) (c : ℕ) (cs : List ℕ) (t : Bool) → (c == 13) ≡ false → (c == 10) ≡ false → nat_lt (length acc) text_limit ≡ t
    → (((acc : List ℕ) → Tells (wire_text_at acc) (IsTextRest acc) InText cs)) → Tells (wire_text_at acc) (IsTextRest acc) InText (c ∷ cs)
text_room acc c cs true a b e more =
    let within : length acc < text_limit = grind (arith, nat_tests) in
    let plain : is_end c ≡ false = rw (a, b) refl in
    byte_tells (wire_text_at acc) (wire_text_at (acc ++ c ∷ [])) (IsTextRest acc) (IsTextRest (acc ++ c ∷ [])) InText InText c (text_byte acc c plain within) (λ t y r. inr (plain, within, r))
    (λ b x k r. r ∙ ap (λ (t : Bool). if t then NoCrLf else if x == 10 then NoCrLf else TooLong) (let same : has 13 b ≡ has 13 (c ∷ b) = rw a refl in same)) cs (more (acc ++ c ∷ []))
text_room acc c cs false a b e more = stuck_tells (wire_text_at acc) (IsTextRest acc) InText c cs TooLong (λ k p cs. rw (a, b, e) refl) acc crlf (text_some acc) (rw b refl)

text_feed : (acc : List ℕ) (c : ℕ) (cs : List ℕ) (t : Bool) → (c == 13) ≡ false → (c == 10) ≡ t
    → (((acc : List ℕ) → Tells (wire_text_at acc) (IsTextRest acc) InText cs)) → Tells (wire_text_at acc) (IsTextRest acc) InText (c ∷ cs)
text_feed acc c cs true a e more = stuck_tells (wire_text_at acc) (IsTextRest acc) InText c cs NoCrLf (λ k p cs. rw (a, e) refl) acc crlf (text_some acc) (rw e refl)
text_feed acc c cs false a e more = text_room acc c cs (nat_lt (length acc) text_limit) a e refl more

text_cons : (acc : List ℕ) (c : ℕ) (cs : List ℕ) (t : Bool) → (c == 13) ≡ t
    → (((acc : List ℕ) → Tells (wire_text_at acc) (IsTextRest acc) InText cs)) → Tells (wire_text_at acc) (IsTextRest acc) InText (c ∷ cs)
text_cons acc c cs true e more =
    let same : c ≡ 13 = grind (arith, nat_tests) in
    byte_tells (wire_text_at acc) (feed_at acc) (IsTextRest acc) (λ x b. (b ≡ 10 ∷ []) × (x ≡ acc)) InFeed InText c (λ k p cs. rw e refl) (λ a y r. inl (same, r.0, r.1))
    (λ b x k r. subst (λ (i : ℕ). InText (i ∷ b) x k) (sym same) r.1) cs ((feed_reader acc).tells cs)
text_cons acc c cs false e more = text_feed acc c cs (c == 10) e refl more

text_tells : (acc b : List ℕ) → Tells (wire_text_at acc) (IsTextRest acc) InText b
text_tells acc [] = Within (λ k p. refl) acc crlf (text_some acc)
text_tells acc (c ∷ cs) = text_cons acc c cs (c == 13) refl (λ more. text_tells more cs)

text_is : (acc t b : List ℕ) → length acc ≤ text_limit → IsTextRest acc t b → (xs : List ℕ) × (t ≡ acc ++ xs) × (length t ≤ text_limit) × (list_any is_end xs ≡ false) × (b ≡ xs ++ crlf)
text_is acc t [] l r = absurd r
text_is acc t (c ∷ cs) l (inl r) = ([], r.2 ∙ sym (append-nil acc), subst (λ (x : List ℕ). length x ≤ text_limit) (sym r.2) l, refl, (λ j. r.0 j ∷ r.1 j))
text_is acc t (c ∷ cs) l (inr r) =
    let one = length-append acc (c ∷ []) in
    let h = text_is (acc ++ c ∷ []) t cs (omega (arith, r.1, one)) r.2 in
    (c ∷ h.0, h.1 ∙ append_assoc acc (c ∷ []) h.0, h.2, rw r.0 h.3, ap (λ l. c ∷ l) h.4)

no_end : (x : ℕ) (xs : List ℕ) → list_any is_end (x ∷ xs) ≡ false → (is_end x ≡ false) × (list_any is_end xs ≡ false)
no_end x xs e = by (is_end x) (list_any is_end xs) refl refl e where
  by : (p q : Bool) → is_end x ≡ p → list_any is_end xs ≡ q → (p || q) ≡ false → (is_end x ≡ false) × (list_any is_end xs ≡ false)
  by false false a b f = (a, b)
  by true q a b f = absurd (cc)
  by false true a b f = absurd (cc)

is_text : (xs acc : List ℕ) → length acc + length xs ≤ text_limit → list_any is_end xs ≡ false → IsTextRest acc (acc ++ xs) (xs ++ crlf)
is_text [] acc l e = inl (refl, refl, append-nil acc)
is_text (x ∷ xs) acc l e =
    let n = no_end x xs e in
    let one = length-append acc (x ∷ []) in
    inr (n.0, omega (arith, l), subst (λ (t : List ℕ). IsTextRest (acc ++ x ∷ []) t (xs ++ crlf)) (append_assoc acc (x ∷ []) xs) (is_text xs (acc ++ x ∷ []) (omega (arith, l, one)) n.1))

pub text_reader : IsReader (wire_text_at []) IsText InText
text_reader = restated (wire_text_at []) (IsTextRest []) IsText
    (λ t b r. let h = text_is [] t b (omega arith) r in (h.2, subst (λ (x : List ℕ). list_any is_end x ≡ false) (sym h.1) h.3, h.4 ∙ ap (λ l. l ++ crlf) (sym h.1)))
    (λ t b r. subst (λ (l : List ℕ). IsTextRest [] t l) (sym r.2) (is_text t [] (omega (arith, r.0)) r.1))
    (record { whole = λ t b rest p k r. text_whole [] t b rest p k r; tells = text_tells []; some = ([], crlf, text_some []) })

-- n bytes, and the end of the line
abbrev pub IsContent : ℕ → List ℕ → List ℕ → List ℕ → Type 0
IsContent zero acc bs b = (b ≡ crlf) × (bs ≡ acc)
IsContent (suc n) acc bs [] = ⊥
IsContent (suc n) acc bs (c ∷ y) = IsContent n (acc ++ c ∷ []) bs y

content_whole : (n : ℕ) (acc : List ℕ) (bs b rest : List ℕ) (p : ℕ) (k : Next (List ℕ)) → IsContent n acc bs b → content_at n acc k p (b ++ rest) ≡ k bs (p + length b) rest
content_whole zero acc bs b rest p k r = (line_reader NoCrLf acc).whole bs b rest p k r
content_whole (suc n) acc bs [] rest p k r = absurd r
content_whole (suc n) acc bs (c ∷ y) rest p k r = content_whole n (acc ++ c ∷ []) bs y rest (p + 1) k r ∙ ap (λ (i : ℕ). k bs i rest) (place_cons p y c)

content_some : (n : ℕ) (acc : List ℕ) → (bs : List ℕ) × (b : List ℕ) × IsContent n acc bs b
content_some zero acc = (acc, crlf, (refl, refl))
content_some (suc n) acc = let h = content_some n (acc ++ 0 ∷ []) in (h.0, 0 ∷ h.1, h.2)

content_line : (acc : List ℕ) → IsReader (λ k. byte_at 13 NoCrLf (feed_at acc k)) (λ x b. (b ≡ crlf) × (x ≡ acc)) InContent
content_line acc = restated_for (λ k. byte_at 13 NoCrLf (feed_at acc k)) (λ x b. (b ≡ crlf) × (x ≡ acc)) (λ x b. (b ≡ crlf) × (x ≡ acc)) (InLine NoCrLf) InContent (λ x b r. r)
    (λ b x k r. r.1 ∙ same_either (has 13 b) NoCrLf) (λ x b r. r) (line_reader NoCrLf acc)

content_tells : (n : ℕ) (acc b : List ℕ) → Tells (content_at n acc) (IsContent n acc) InContent b
content_tells zero acc b = (content_line acc).tells b
content_tells (suc n) acc [] = let h = content_some (suc n) acc in Within (λ k p. refl) h.0 h.1 h.2
content_tells (suc n) acc (c ∷ cs) = byte_tells (content_at (suc n) acc) (content_at n (acc ++ c ∷ [])) (IsContent (suc n) acc) (IsContent n (acc ++ c ∷ [])) InContent InContent c (λ k p cs. refl) (λ a y r. r) (λ b x k r. r) cs (content_tells n (acc ++ c ∷ []) cs)

is_content : (n : ℕ) (acc bs b : List ℕ) → IsContent n acc bs b → (xs : List ℕ) × (length xs ≡ n) × (bs ≡ acc ++ xs) × (b ≡ xs ++ crlf)
is_content zero acc bs b r = ([], refl, r.1 ∙ sym (append-nil acc), r.0)
is_content (suc n) acc bs [] r = absurd r
is_content (suc n) acc bs (c ∷ y) r =
    let h = is_content n (acc ++ c ∷ []) bs y r in
    (c ∷ h.0, ap suc h.1, h.2 ∙ append_assoc acc (c ∷ []) h.0, ap (λ l. c ∷ l) h.3)

content_is : (xs acc : List ℕ) → IsContent (length xs) acc (acc ++ xs) (xs ++ crlf)
content_is [] acc = (refl, append-nil acc)
content_is (x ∷ xs) acc = subst (λ (l : List ℕ). IsContent (length xs) (acc ++ x ∷ []) l (xs ++ crlf)) (append_assoc acc (x ∷ []) xs) (content_is xs (acc ++ x ∷ []))

abbrev pub IsBytes : ℕ → List ℕ → List ℕ → Type 0
IsBytes n bs b = (n ≡ length bs) × (b ≡ bs ++ crlf)

pub content_reader : (n : ℕ) → IsReader (content_at n []) (IsBytes n) InContent
content_reader n = restated (content_at n []) (IsContent n []) (IsBytes n)
    (λ bs b r. let h = is_content n [] bs b r in (sym (ap length h.2 ∙ h.1), h.3 ∙ ap (λ l. l ++ crlf) (sym h.2)))
    (λ bs b r. subst (λ (l : List ℕ). IsContent n [] bs l) (sym r.1) (subst (λ (i : ℕ). IsContent i [] bs (bs ++ crlf)) (sym r.0) (content_is bs [])))
    (record { whole = λ bs b rest p k r. content_whole n [] bs b rest p k r; tells = content_tells n []; some = content_some n [] })

-- n values
module _ (P : Next Value → ℕ → List ℕ → Reading) (R : Value → List ℕ → Type 0) (V : Why) (g : IsReader P R V) where
  abbrev AreMore : ℕ → List Value → List Value → List ℕ → Type 0
  AreMore zero acc vs b = (b ≡ []) × (vs ≡ acc)
  AreMore (suc n) acc vs b = (v : Value) × (x : List ℕ) × (y : List ℕ) × (b ≡ x ++ y) × R v x × AreMore n (acc ++ v ∷ []) vs y

  first_item : (n : ℕ) (b : List ℕ) (x : ℕ) (k : WireKind) → Unspelled R V b x k → IsWrongItem R V (suc n) b x k
  first_item n b x k w = record {
    items = [];
    before = [];
    front = b;
    cut = refl;
    spelled = refl;
    more = omega arith;
    none = λ v whole more e r. w.1 v whole more e r;
    here = w.0;
  }

  next_item : (n : ℕ) (v : Value) (front b : List ℕ) (x : ℕ) (k : WireKind) → R v front → IsWrongItem R V n b x k → IsWrongItem R V (suc n) (front ++ b) x k
  next_item n v front b x k r w = record {
    items = v ∷ w.items;
    before = front ++ w.before;
    front = w.front;
    cut = ap (λ l. front ++ l) w.cut ∙ sym (append_assoc front w.before w.front);
    spelled = (front, w.before, refl, r, w.spelled);
    more = omega (arith, w.more);
    none = λ u whole more e s. w.none u whole more e s;
    here = w.here;
  }

  more_values : (n : ℕ) (acc : List Value) → IsReader (values_at P n acc) (AreMore n acc) (IsWrongItem R V n)
  more_values zero acc = nothing acc
  more_values (suc n) acc = in_turn P R (λ v. values_at P n (acc ++ v ∷ [])) (λ v. AreMore n (acc ++ v ∷ [])) (Unspelled R V) (λ v. IsWrongItem R V n) (IsWrongItem R V (suc n)) (unspelled P R V g) (λ v. more_values n (acc ++ v ∷ []))
      (first_item n) (λ v front b x k r w. next_item n v front b x k r w)

  are_more : (n : ℕ) (acc vs : List Value) (b : List ℕ) → AreMore n acc vs b → (xs : List Value) × (length xs ≡ n) × (vs ≡ acc ++ xs) × AreSpelled R xs b
  are_more zero acc vs b r = ([], refl, r.1 ∙ sym (append-nil acc), r.0)
  are_more (suc n) acc vs b r =
      let h = are_more n (acc ++ r.0 ∷ []) vs r.2 r.5 in
      (r.0 ∷ h.0, ap suc h.1, h.2 ∙ append_assoc acc (r.0 ∷ []) h.0, (r.1, r.2, r.3, r.4, h.3))

  more_are : (xs acc : List Value) (b : List ℕ) → AreSpelled R xs b → AreMore (length xs) acc (acc ++ xs) b
  more_are [] acc b r = (r, append-nil acc)
  more_are (x ∷ xs) acc b r = (x, r.0, r.1, r.2, r.3, subst (λ (l : List Value). AreMore (length xs) (acc ++ x ∷ []) l r.1) (append_assoc acc (x ∷ []) xs) (more_are xs (acc ++ x ∷ []) r.1 r.4))

  pub values_reader : (n : ℕ) → IsReader (values_at P n []) (λ vs b. (n ≡ length vs) × AreSpelled R vs b) (IsWrongItem R V n)
  values_reader n = restated (values_at P n []) (AreMore n []) (λ vs b. (n ≡ length vs) × AreSpelled R vs b)
      (λ vs b r. let h = are_more n [] vs b r in (sym (ap length h.2 ∙ h.1), subst (λ (l : List Value). AreSpelled R l b) (sym h.2) h.3))
      (λ vs b r. subst (λ (i : ℕ). AreMore i [] vs b) (sym r.0) (more_are vs [] b r.1))
      (more_values n [])

-- what follows the first byte of a simple string or an error
pub text_rest : (make : List ℕ → Value) → IsReader (λ k. wire_text_at [] (λ t. k (make t))) (λ v b. (t : List ℕ) × (v ≡ make t) × IsText t b) InText
text_rest make = mapped (wire_text_at []) IsText make text_reader

-- what follows the first byte of an integer
pub integer_rest : IsReader (λ k. number_at Whole (integer_for k)) (λ v b. (z : ℤ) × (v ≡ Integer z) × IsNumber Whole z b) (InNumber Whole)
integer_rest = mapped (number_at Whole) (IsNumber Whole) Integer (number_reader Whole)

-- what follows the first byte of a bulk string
abbrev pub IsBulkRest : Value → List ℕ → Type 0
IsBulkRest v b = (bytes : List ℕ) × (line : List ℕ) × (v ≡ Bulk bytes) × IsNumber Length (pos (length bytes)) line × (b ≡ line ++ (bytes ++ crlf))

abbrev pub IsNullRest : NumberKind → Value → Value → List ℕ → Type 0
IsNullRest w null v b = (v ≡ null) × IsNumber w (negsuc 0) b

abbrev AfterLength : ℤ → Value → List ℕ → Type 0
AfterLength (pos n) v y = (bs : List ℕ) × (v ≡ Bulk bs) × IsBytes n bs y
AfterLength (negsuc n) v y = (y ≡ []) × (v ≡ NullBulk)

after_length : (z : ℤ) → IsReader (λ k. bulk_for k z) (AfterLength z) InContent
after_length (pos n) = mapped (content_at n []) (IsBytes n) Bulk (content_reader n)
after_length (negsuc n) = nothing NullBulk

-- a whole number has a carriage return
has_by : (p q r : Bool) → (p || q) ≡ true → (q ≡ true → r ≡ true) → (p || r) ≡ true
has_by true q r e on = refl
has_by false q r e on = on e

pub has_append : (c : ℕ) (a b : List ℕ) → has c a ≡ true → has c (a ++ b) ≡ true
has_append c [] b e = absurd (cc)
has_append c (x ∷ xs) b e = has_by (x == c) (has c xs) (has c (xs ++ b)) e (has_append c xs b)

pub or_true : (p q : Bool) → q ≡ true → (p || q) ≡ true
or_true true q e = refl
or_true false q e = e

has_line : (digits : List ℕ) → has 13 (digits ++ crlf) ≡ true
has_line [] = refl
has_line (x ∷ xs) = or_true (x == 13) (has 13 (xs ++ crlf)) (has_line xs)

after_number : (w : NumberKind) (z : ℤ) (line b : List ℕ) → IsNumber w z line → has 13 (line ++ b) ≡ true
after_number w z line b r = has_append 13 line b (ap (has 13) r.3 ∙ has_line r.0)

-- what is wrong after the first byte of a bulk string
abbrev pub InBulk : Why
InBulk b x k = k ≡ number_kind Length b x

pub bulk_rest : IsReader (λ k. number_at Length (bulk_for k)) (λ v b. IsBulkRest v b ⊎ IsNullRest Length NullBulk v b) InBulk
bulk_rest = restated (λ k. number_at Length (bulk_for k)) (Both (IsNumber Length) AfterLength) (λ v b. IsBulkRest v b ⊎ IsNullRest Length NullBulk v b)
    (λ v b r. to v b r.0 r.1 r.2 r.3 r.4 r.5) back
    (in_turn (number_at Length) (IsNumber Length) (λ z k. bulk_for k z) AfterLength (InNumber Length) (λ z. InContent) InBulk (number_reader Length) after_length (λ b x k w. w.1)
    (λ z line b x k r w. w ∙ ap (λ (t : Bool). if t then NoCrLf else if is_digit x && begins_digits (line ++ b) then over_of Length false else BadInteger) (sym (after_number Length z line b r)))) where
      to : (v : Value) (b : List ℕ) (z : ℤ) (x y : List ℕ) → b ≡ x ++ y → IsNumber Length z x → AfterLength z v y → IsBulkRest v b ⊎ IsNullRest Length NullBulk v b
      to v b (pos n) x y e r a = inl (a.0, x, a.1, subst (λ (i : ℕ). IsNumber Length (pos i) x) a.2.0 r, e ∙ ap (λ l. x ++ l) a.2.1)
      to v b (negsuc n) x y e r a = inr (a.1, subst (λ (l : List ℕ). IsNumber Length (negsuc 0) l) (sym (e ∙ ap (λ l. x ++ l) a.0 ∙ append-nil x)) (subst (λ (i : ℕ). IsNumber Length (negsuc i) x) r.2 r))

      back : (v : Value) (b : List ℕ) → IsBulkRest v b ⊎ IsNullRest Length NullBulk v b → Both (IsNumber Length) AfterLength v b
      back v b (inl r) = (pos (length r.0), r.1, r.0 ++ crlf, r.4, r.3, (r.0, r.2, (refl, refl)))
      back v b (inr r) = (negsuc 0, b, [], sym (append-nil b), r.1, (refl, r.0))

-- what follows the first byte of an array
abbrev pub IsArrayRest : (Value → List ℕ → Type 0) → Value → List ℕ → Type 0
IsArrayRest one v b = (vs : List Value) × (line : List ℕ) × (body : List ℕ) × (v ≡ Array vs) × IsNumber Count (pos (length vs)) line × AreSpelled one vs body × (b ≡ line ++ body)

module _ (P : Next Value → ℕ → List ℕ → Reading) (R : Value → List ℕ → Type 0) (V : Why) (g : IsReader P R V) where
  abbrev AfterCount : ℤ → Value → List ℕ → Type 0
  AfterCount (pos n) v y = (vs : List Value) × (v ≡ Array vs) × ((n ≡ length vs) × AreSpelled R vs y)
  AfterCount (negsuc n) v y = (y ≡ []) × (v ≡ NullArray)

  abbrev InItems : ℤ → Why
  InItems (pos n) = IsWrongItem R V n
  InItems (negsuc n) = Never

  items_wrong : (z : ℤ) (line b : List ℕ) (x : ℕ) (k : WireKind) → IsNumber Count z line → InItems z b x k → IsWrongArray R V (line ++ b) x k
  items_wrong (pos n) line b x k r w = inr (n, line, b, refl, r, w)
  items_wrong (negsuc n) line b x k r w = absurd w

  after_count : (z : ℤ) → IsReader (λ k. array_for P k z) (AfterCount z) (InItems z)
  after_count (pos n) = mapped (values_at P n []) (λ vs b. (n ≡ length vs) × AreSpelled R vs b) Array (values_reader P R V g n)
  after_count (negsuc n) = nothing NullArray

  to_array : (v : Value) (b : List ℕ) (z : ℤ) (x y : List ℕ) → b ≡ x ++ y → IsNumber Count z x → AfterCount z v y → IsArrayRest R v b ⊎ IsNullRest Count NullArray v b
  to_array v b (pos n) x y e r a = inl (a.0, x, y, a.1, subst (λ (i : ℕ). IsNumber Count (pos i) x) a.2.0 r, a.2.1, e)
  to_array v b (negsuc n) x y e r a = inr (a.1, subst (λ (l : List ℕ). IsNumber Count (negsuc 0) l) (sym (e ∙ ap (λ l. x ++ l) a.0 ∙ append-nil x)) (subst (λ (i : ℕ). IsNumber Count (negsuc i) x) r.2 r))

  of_array : (v : Value) (b : List ℕ) → IsArrayRest R v b ⊎ IsNullRest Count NullArray v b → Both (IsNumber Count) AfterCount v b
  of_array v b (inl r) = (pos (length r.0), r.1, r.2, r.6, r.4, (r.0, r.3, (refl, r.5)))
  of_array v b (inr r) = (negsuc 0, b, [], sym (append-nil b), r.1, (refl, r.0))

  pub array_rest : IsReader (λ k. number_at Count (array_for P k)) (λ v b. IsArrayRest R v b ⊎ IsNullRest Count NullArray v b) (IsWrongArray R V)
  array_rest = restated (λ k. number_at Count (array_for P k)) (Both (IsNumber Count) AfterCount) (λ v b. IsArrayRest R v b ⊎ IsNullRest Count NullArray v b)
      (λ v b r. to_array v b r.0 r.1 r.2 r.3 r.4 r.5) of_array
      (in_turn (number_at Count) (IsNumber Count) (λ z k. array_for P k z) AfterCount (InNumber Count) InItems (IsWrongArray R V) (number_reader Count) after_count (λ b x k w. inl w) items_wrong)
