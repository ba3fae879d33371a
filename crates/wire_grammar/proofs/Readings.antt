-- What is read of a list, and what is spelled at its front, go together.
use Rattle.std.proofs.Common.{◌≡◌, ℕ, ℤ, zero, suc, ◌+◌, List, [], ◌∷◌, ◌++◌, length, Bool, true, false, ◌==◌, refl, sym, ap, subst, arith, inl, inr}
use Rattle.wire_grammar.specs.declared.kind.WireKind.{WireKind}
use Rattle.std.specs.Prelude.{◌⊎◌}
use Rattle.std.proofs.lemmas.Bool.Decides.{nat_tests}
use Rattle.wire_values.specs.declared.value.Value.{Value}
use Rattle.wire_values.specs.declared.value.Value.TheVariants.{Status, Error, Integer, NullBulk, NullArray}
use Rattle.wire_grammar.specs.declared.kind.WireKind.TheVariants.{BadKind, TooDeep}
use Rattle.wire_grammar.specs.declared.kind.NumberKind.TheVariants.{Whole, Length, Count}
use Rattle.wire_grammar.specs.Limits.{depth_limit}
use Rattle.wire_grammar.specs.Spells.{crlf, IsNumber, IsText, IsPlain, as_status, as_error, as_integer, as_bulk, as_null_bulk, SpellsWithin}
use Rattle.wire_grammar.specs.Reads.{Reading, Got, Wrong, Next, number_at, integer_for, bulk_for, array_for, head_at, read_on, wire_text_at, wire_value_at}
use Rattle.wire_grammar.proofs.Readers.{Tells, Within, IsReader, byte_tells, byte_whole, stuck_tells, Why}
use Rattle.wire_grammar.proofs.Parts.{text_rest, integer_rest, bulk_rest, array_rest, IsBulkRest, IsNullRest, IsArrayRest, InBulk, InNumber, InText}
use Rattle.wire_grammar.specs.Faults.{IsWrongArray, IsWrongPlain, IsWrongWithin, at_begin, in_bulk, in_error, in_integer, in_status}

abbrev AfterStar : Type 0
AfterStar = Next Value → ℕ → List ℕ → Reading

-- from what follows the first byte to the value
status_of : (v : Value) (y : List ℕ) → ((t : List ℕ) × (v ≡ Status t) × IsText t y) → IsPlain v (43 ∷ y)
status_of v y r = as_status (r.0, y, r.1, r.2, refl)

error_of : (v : Value) (y : List ℕ) → ((t : List ℕ) × (v ≡ Error t) × IsText t y) → IsPlain v (45 ∷ y)
error_of v y r = as_error (r.0, y, r.1, r.2, refl)

integer_of_rest : (v : Value) (y : List ℕ) → ((z : ℤ) × (v ≡ Integer z) × IsNumber Whole z y) → IsPlain v (58 ∷ y)
integer_of_rest v y r = as_integer (r.0, y, r.1, r.2, refl)

bulk_of_rest : (v : Value) (y : List ℕ) → IsBulkRest v y ⊎ IsNullRest Length NullBulk v y → IsPlain v (36 ∷ y)
bulk_of_rest v y (inl r) = as_bulk (r.0, r.1, r.2, r.3, ap (λ l. 36 ∷ l) r.4)
bulk_of_rest v y (inr r) = as_null_bulk (y, r.0, r.1, refl)

-- what a value's first byte tells
module _ (array : AfterStar) (R : Value → List ℕ → Type 0) (plain : (v : Value) (b : List ℕ) → IsPlain v b → R v b)
    (W : Why) (why : (b : List ℕ) (x : ℕ) (k : WireKind) → IsWrongPlain b x k → W b x k)
    (star : (c : ℕ) (cs : List ℕ) → (c == 43) ≡ false → (c == 45) ≡ false → (c == 58) ≡ false → (c == 36) ≡ false → (c == 42) ≡ true → Tells (head_at array) R W (c ∷ cs)) where
  pub some_value : (v : Value) × (b : List ℕ) × R v b
  some_value = let s = integer_rest.some in (s.0, 58 ∷ s.1, plain s.0 (58 ∷ s.1) (integer_of_rest s.0 s.1 s.2))

  fifth : (c : ℕ) (cs : List ℕ) (t : Bool) → (c == 43) ≡ false → (c == 45) ≡ false → (c == 58) ≡ false → (c == 36) ≡ false → (c == 42) ≡ t → Tells (head_at array) R W (c ∷ cs)
  fifth c cs true a b d e f = star c cs a b d e f
  fifth c cs false a b d e f = stuck_tells (head_at array) R W c cs BadKind (λ k p cs. rw (a, b, d, e, f) refl) some_value.0 some_value.1 some_value.2 (why [] c BadKind (at_begin refl (rw f refl)))

  fourth : (c : ℕ) (cs : List ℕ) (t : Bool) → (c == 43) ≡ false → (c == 45) ≡ false → (c == 58) ≡ false → (c == 36) ≡ t → Tells (head_at array) R W (c ∷ cs)
  fourth c cs true a b d e =
      let same : 36 ≡ c = grind (arith, nat_tests) in
      byte_tells (head_at array) (λ k. number_at Length (bulk_for k)) R (λ v y. IsBulkRest v y ⊎ IsNullRest Length NullBulk v y) InBulk W c (λ k p cs. rw (a, b, d, e) refl)
      (λ v y s. subst (λ (z : ℕ). R v (z ∷ y)) same (plain v (36 ∷ y) (bulk_of_rest v y s)))
      (λ y x k w. subst (λ (z : ℕ). W (z ∷ y) x k) same (why (36 ∷ y) x k (in_bulk y refl w))) cs (bulk_rest.tells cs)
  fourth c cs false a b d e = fifth c cs (c == 42) a b d e refl

  third : (c : ℕ) (cs : List ℕ) (t : Bool) → (c == 43) ≡ false → (c == 45) ≡ false → (c == 58) ≡ t → Tells (head_at array) R W (c ∷ cs)
  third c cs true a b e =
      let same : 58 ≡ c = grind (arith, nat_tests) in
      byte_tells (head_at array) (λ k. number_at Whole (integer_for k)) R (λ v y. (z : ℤ) × (v ≡ Integer z) × IsNumber Whole z y) (InNumber Whole) W c (λ k p cs. rw (a, b, e) refl)
      (λ v y s. subst (λ (z : ℕ). R v (z ∷ y)) same (plain v (58 ∷ y) (integer_of_rest v y s)))
      (λ y x k w. subst (λ (z : ℕ). W (z ∷ y) x k) same (why (58 ∷ y) x k (in_integer y refl w.1))) cs (integer_rest.tells cs)
  third c cs false a b e = fourth c cs (c == 36) a b e refl

  second : (c : ℕ) (cs : List ℕ) (t : Bool) → (c == 43) ≡ false → (c == 45) ≡ t → Tells (head_at array) R W (c ∷ cs)
  second c cs true a e =
      let same : 45 ≡ c = grind (arith, nat_tests) in
      byte_tells (head_at array) (λ k. wire_text_at [] (λ t. k (Error t))) R (λ v y. (t : List ℕ) × (v ≡ Error t) × IsText t y) InText W c (λ k p cs. rw (a, e) refl)
      (λ v y s. subst (λ (z : ℕ). R v (z ∷ y)) same (plain v (45 ∷ y) (error_of v y s)))
      (λ y x k w. subst (λ (z : ℕ). W (z ∷ y) x k) same (why (45 ∷ y) x k (in_error y refl w))) cs ((text_rest Error).tells cs)
  second c cs false a e = third c cs (c == 58) a e refl

  first : (c : ℕ) (cs : List ℕ) (t : Bool) → (c == 43) ≡ t → Tells (head_at array) R W (c ∷ cs)
  first c cs true e =
      let same : 43 ≡ c = grind (arith, nat_tests) in
      byte_tells (head_at array) (λ k. wire_text_at [] (λ t. k (Status t))) R (λ v y. (t : List ℕ) × (v ≡ Status t) × IsText t y) InText W c (λ k p cs. rw e refl)
      (λ v y s. subst (λ (z : ℕ). R v (z ∷ y)) same (plain v (43 ∷ y) (status_of v y s)))
      (λ y x k w. subst (λ (z : ℕ). W (z ∷ y) x k) same (why (43 ∷ y) x k (in_status y refl w))) cs ((text_rest Status).tells cs)
  first c cs false e = second c cs (c == 45) e refl

  pub head_tells : (b : List ℕ) → Tells (head_at array) R W b
  head_tells [] = Within (λ k p. refl) some_value.0 some_value.1 some_value.2
  head_tells (c ∷ cs) = first c cs (c == 43) refl

-- a value behind its first byte
behind : (array : AfterStar) (c : ℕ) (Q : Next Value → ℕ → List ℕ → Reading) → ((k : Next Value) (p : ℕ) (cs : List ℕ) → head_at array k p (c ∷ cs) ≡ Q k (p + 1) cs)
    → (v : Value) (b y rest : List ℕ) (p : ℕ) (k : Next Value) → b ≡ c ∷ y → Q k (p + 1) (y ++ rest) ≡ k v (p + 1 + length y) rest → head_at array k p (b ++ rest) ≡ k v (p + length b) rest
behind array c Q is v b y rest p k e h =
    subst (λ (l : List ℕ). head_at array k p (l ++ rest) ≡ k v (p + length l) rest) (sym e)
    (byte_whole (head_at array) Q c is v y rest p k h)

plain_whole : (array : AfterStar) (v : Value) (b rest : List ℕ) (p : ℕ) (k : Next Value) → IsPlain v b → head_at array k p (b ++ rest) ≡ k v (p + length b) rest
plain_whole array v b rest p k (as_status r) = behind array 43 (λ k. wire_text_at [] (λ t. k (Status t))) (λ k p cs. refl) v b r.1 rest p k r.4 ((text_rest Status).whole v r.1 rest (p + 1) k (r.0, r.2, r.3))
plain_whole array v b rest p k (as_error r) = behind array 45 (λ k. wire_text_at [] (λ t. k (Error t))) (λ k p cs. refl) v b r.1 rest p k r.4 ((text_rest Error).whole v r.1 rest (p + 1) k (r.0, r.2, r.3))
plain_whole array v b rest p k (as_integer r) = behind array 58 (λ k. number_at Whole (integer_for k)) (λ k p cs. refl) v b r.1 rest p k r.4 (integer_rest.whole v r.1 rest (p + 1) k (r.0, r.2, r.3))
plain_whole array v b rest p k (as_bulk r) =
    behind array 36 (λ k. number_at Length (bulk_for k)) (λ k p cs. refl) v b (r.1 ++ (r.0 ++ crlf)) rest p k r.4 (bulk_rest.whole v (r.1 ++ (r.0 ++ crlf)) rest (p + 1) k (inl (r.0, r.1, r.2, r.3, refl)))
plain_whole array v b rest p k (as_null_bulk r) = behind array 36 (λ k. number_at Length (bulk_for k)) (λ k p cs. refl) v b r.0 rest p k r.3 (bulk_rest.whole v r.0 rest (p + 1) k (inr (r.1, r.2)))

zero_reader : IsReader (wire_value_at 0) IsPlain IsWrongPlain
zero_reader = record {
  whole = λ v b rest p k r. plain_whole (λ k p cs. Wrong TooDeep p) v b rest p k r;
  tells = head_tells (λ k p cs. Wrong TooDeep p) IsPlain (λ v b r. r) IsWrongPlain (λ b x k w. w) zero_star;
  some = some_plain;
} where
  some_plain : (v : Value) × (b : List ℕ) × IsPlain v b
  some_plain = let s = integer_rest.some in (s.0, 58 ∷ s.1, integer_of_rest s.0 s.1 s.2)

  zero_star : (c : ℕ) (cs : List ℕ) → (c == 43) ≡ false → (c == 45) ≡ false → (c == 58) ≡ false → (c == 36) ≡ false → (c == 42) ≡ true → Tells (wire_value_at 0) IsPlain IsWrongPlain (c ∷ cs)
  zero_star c cs a b d e f = stuck_tells (wire_value_at 0) IsPlain IsWrongPlain c cs TooDeep (λ k p cs. rw (a, b, d, e, f) refl) some_plain.0 some_plain.1 some_plain.2 (at_begin refl (rw f refl))

module _ (d : ℕ) (g : IsReader (wire_value_at d) (SpellsWithin d) (IsWrongWithin d)) where
  abbrev Items : AfterStar
  Items k p cs = number_at Count (array_for (wire_value_at d) k) (p + 1) cs

  items_rest : IsReader (λ k. number_at Count (array_for (wire_value_at d) k)) (λ v b. IsArrayRest (SpellsWithin d) v b ⊎ IsNullRest Count NullArray v b) (IsWrongArray (SpellsWithin d) (IsWrongWithin d))
  items_rest = array_rest (wire_value_at d) (SpellsWithin d) (IsWrongWithin d) g

  of_items : (v : Value) (y : List ℕ) → IsArrayRest (SpellsWithin d) v y ⊎ IsNullRest Count NullArray v y → SpellsWithin (suc d) v (42 ∷ y)
  of_items v y (inl r) = inr (inl (r.0, r.1, r.2, r.3, r.4, r.5, ap (λ l. 42 ∷ l) r.6))
  of_items v y (inr r) = inr (inr (y, r.0, r.1, refl))

  suc_whole : (v : Value) (b rest : List ℕ) (p : ℕ) (k : Next Value) → SpellsWithin (suc d) v b → wire_value_at (suc d) k p (b ++ rest) ≡ k v (p + length b) rest
  suc_whole v b rest p k (inl r) = plain_whole Items v b rest p k r
  suc_whole v b rest p k (inr (inl r)) =
      behind Items 42 (λ k. number_at Count (array_for (wire_value_at d) k)) (λ k p cs. refl) v b (r.1 ++ r.2) rest p k r.6 (items_rest.whole v (r.1 ++ r.2) rest (p + 1) k (inl (r.0, r.1, r.2, r.3, r.4, r.5, refl)))
  suc_whole v b rest p k (inr (inr r)) = behind Items 42 (λ k. number_at Count (array_for (wire_value_at d) k)) (λ k p cs. refl) v b r.0 rest p k r.3 (items_rest.whole v r.0 rest (p + 1) k (inr (r.1, r.2)))

  suc_star : (c : ℕ) (cs : List ℕ) → (c == 43) ≡ false → (c == 45) ≡ false → (c == 58) ≡ false → (c == 36) ≡ false → (c == 42) ≡ true → Tells (wire_value_at (suc d)) (SpellsWithin (suc d)) (IsWrongWithin (suc d)) (c ∷ cs)
  suc_star c cs a b x e f =
      let same : 42 ≡ c = grind (arith, nat_tests) in
      byte_tells (wire_value_at (suc d)) (λ k. number_at Count (array_for (wire_value_at d) k)) (SpellsWithin (suc d)) (λ v y. IsArrayRest (SpellsWithin d) v y ⊎ IsNullRest Count NullArray v y) (IsWrongArray (SpellsWithin d) (IsWrongWithin d)) (IsWrongWithin (suc d)) c (λ k p cs. rw (a, b, x, e, f) refl)
      (λ v y s. subst (λ (z : ℕ). SpellsWithin (suc d) v (z ∷ y)) same (of_items v y s))
      (λ y i k w. subst (λ (z : ℕ). IsWrongWithin (suc d) (z ∷ y) i k) same (inr (y, refl, w))) cs (items_rest.tells cs)

  suc_reader : IsReader (wire_value_at (suc d)) (SpellsWithin (suc d)) (IsWrongWithin (suc d))
  suc_reader = record {
    whole = λ v b rest p k r. suc_whole v b rest p k r;
    tells = head_tells Items (SpellsWithin (suc d)) (λ v b r. inl r) (IsWrongWithin (suc d)) (λ b x k w. inl w) suc_star;
    some = some_value Items (SpellsWithin (suc d)) (λ v b r. inl r) (IsWrongWithin (suc d)) (λ b x k w. inl w) suc_star;
  }

pub value_reader : (d : ℕ) → IsReader (wire_value_at d) (SpellsWithin d) (IsWrongWithin d)
value_reader zero = zero_reader
value_reader (suc d) = suc_reader d (value_reader d)

-- a spelling is read, whatever follows it
pub reads_spelled : (v : Value) (b rest : List ℕ) (p : ℕ) → SpellsWithin depth_limit v b → read_on p (b ++ rest) ≡ Got v (p + length b) rest
reads_spelled v b rest p r = (value_reader depth_limit).whole v b rest p Got r
