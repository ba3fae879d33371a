-- A value has a spelling just where its length is told.
use Rattle.std.proofs.Common.{◌≡◌, ℕ, ℤ, pos, negsuc, zero, suc, ◌+◌, ◌-◌, ◌<◌, ◌≤◌, List, [], ◌∷◌, ◌++◌, length, map, Bool, true, false, nat_le, Option, Some, None, get_or, drop, refl, sym, ap, subst, ◌∙◌, arith, length-append, inl, inr}
use Rattle.std.specs.Prelude.{◌↔◌, IfSome, IsTrue, is_some, decimal, flat_map, if◌then◌else◌}
use Rattle.std.specs.Fmt.{signed_decimal}
use Rattle.std.specs.List.{list_any}
use Rattle.std.proofs.lemmas.Bool.Decides.{nat_tests}
use Rattle.numerals.proofs.Texts.{IsWord, IsMagnitude, integer_is, integer_of_text, text_of_integer}
use Rattle.wire_values.specs.declared.value.Value.{Value, out-Value, roll-Value, roll-out-Value}
use Rattle.wire_values.specs.declared.value.Value.TheVariants.{Status, Error, Integer, Bulk, NullBulk, Array, NullArray, rolls-Status, rolls-Error, rolls-Integer, rolls-Bulk, rolls-NullBulk, rolls-Array, rolls-NullArray}
use Rattle.wire_values.specs.declared.value.Value.TheFolds.{fold-roll-Value}
use Rattle.wire_values.specs.declared.value.Value.TheOpen.{Value-F}
use Rattle.wire_grammar.specs.declared.kind.NumberKind.{NumberKind}
use Rattle.wire_grammar.specs.declared.kind.NumberKind.TheVariants.{Whole, Length, Count}
use Rattle.wire_grammar.specs.Limits.{text_limit, value_limit, depth_limit, limit_of, is_end}
use Rattle.wire_grammar.specs.Spells.{crlf, IsNumber, IsText, AreSpelled, IsPlain, as_status, as_error, as_integer, as_bulk, as_null_bulk, SpellsWithin, Spells}
use Rattle.wire_grammar.specs.Texts.{spelling, number_text}
use Rattle.wire_grammar.proofs.Writings.{status_text, error_text, integer_text, bulk_text, null_bulk_text, array_text, null_array_text, one_spelling}
use Rattle.wire_grammar.specs.Fits.{HasSpelling}
use Rattle.wire_spelling.specs.Lengths.{joined, text_length, is_word, integer_length, bulk_length, items_length, length_step, spelled_length}

-- a value by its form
pub data Shape (v : Value) : Type 0 where
  of_status : (t : List ℕ) → v ≡ Status t → Shape v
  of_error : (t : List ℕ) → v ≡ Error t → Shape v
  of_integer : (z : ℤ) → v ≡ Integer z → Shape v
  of_bulk : (b : List ℕ) → v ≡ Bulk b → Shape v
  of_null_bulk : v ≡ NullBulk → Shape v
  of_array : (xs : List Value) → v ≡ Array xs → Shape v
  of_null_array : v ≡ NullArray → Shape v

shape_by : (v : Value) (f : Value-F Value) → v ≡ roll-Value f → Shape v
shape_by v (Value-F.Status t) e = of_status t (e ∙ rolls-Status t)
shape_by v (Value-F.Error t) e = of_error t (e ∙ rolls-Error t)
shape_by v (Value-F.Integer z) e = of_integer z (e ∙ rolls-Integer z)
shape_by v (Value-F.Bulk b) e = of_bulk b (e ∙ rolls-Bulk b)
shape_by v Value-F.NullBulk e = of_null_bulk (e ∙ rolls-NullBulk)
shape_by v (Value-F.Array xs) e = of_array xs (e ∙ rolls-Array xs)
shape_by v Value-F.NullArray e = of_null_array (e ∙ rolls-NullArray)

shape : (v : Value) → Shape v
shape v = shape_by v (out-Value v) (sym (roll-out-Value v))

-- the length of each form
pub status_told : (t : List ℕ) (d : ℕ) → spelled_length (Status t) d ≡ text_length t
status_told t d = ap (λ (f : ℕ → Option ℕ). f d) (ap spelled_length (sym (rolls-Status t)) ∙ fold-roll-Value (ℕ → Option ℕ) length_step (Value-F.Status t))

pub error_told : (t : List ℕ) (d : ℕ) → spelled_length (Error t) d ≡ text_length t
error_told t d = ap (λ (f : ℕ → Option ℕ). f d) (ap spelled_length (sym (rolls-Error t)) ∙ fold-roll-Value (ℕ → Option ℕ) length_step (Value-F.Error t))

pub integer_told : (z : ℤ) (d : ℕ) → spelled_length (Integer z) d ≡ integer_length z
integer_told z d = ap (λ (f : ℕ → Option ℕ). f d) (ap spelled_length (sym (rolls-Integer z)) ∙ fold-roll-Value (ℕ → Option ℕ) length_step (Value-F.Integer z))

pub bulk_told : (b : List ℕ) (d : ℕ) → spelled_length (Bulk b) d ≡ bulk_length (length b)
bulk_told b d = ap (λ (f : ℕ → Option ℕ). f d) (ap spelled_length (sym (rolls-Bulk b)) ∙ fold-roll-Value (ℕ → Option ℕ) length_step (Value-F.Bulk b))

pub null_bulk_told : (d : ℕ) → spelled_length NullBulk d ≡ Some 5
null_bulk_told d = ap (λ (f : ℕ → Option ℕ). f d) (ap spelled_length (sym rolls-NullBulk) ∙ fold-roll-Value (ℕ → Option ℕ) length_step Value-F.NullBulk)

pub array_told : (xs : List Value) (d : ℕ) → spelled_length (Array xs) d ≡ length_step (Value-F.Array (map spelled_length xs)) d
array_told xs d = ap (λ (f : ℕ → Option ℕ). f d) (ap spelled_length (sym (rolls-Array xs)) ∙ fold-roll-Value (ℕ → Option ℕ) length_step (Value-F.Array xs))

null_array_told : (d : ℕ) → spelled_length NullArray d ≡ length_step Value-F.NullArray d
null_array_told d = ap (λ (f : ℕ → Option ℕ). f d) (ap spelled_length (sym rolls-NullArray) ∙ fold-roll-Value (ℕ → Option ℕ) length_step Value-F.NullArray)

same_some : (n m : ℕ) → Some n ≡ Some m → n ≡ m
same_some n m e = ap (or_zero) e where
  or_zero : Option ℕ → ℕ
  or_zero None = 0
  or_zero (Some x) = x

-- what a length tells of a text
text_fits : (t : List ℕ) (n : ℕ) → text_length t ≡ Some n → IsText t (t ++ crlf) × (length t + 3 ≡ n)
text_fits t n e = by (list_any is_end t) (nat_le (length t) text_limit) refl refl e where
  by : (p q : Bool) → list_any is_end t ≡ p → nat_le (length t) text_limit ≡ q → (if p then None else (if q then Some (length t + 3) else None)) ≡ Some n → IsText t (t ++ crlf) × (length t + 3 ≡ n)
  by true q a b f = absurd (cc)
  by false false a b f = absurd (cc)
  by false true a b f = ((grind (arith, nat_tests), a, refl), same_some (length t + 3) n f)

line_length : (t : List ℕ) (c : ℕ) → length (c ∷ (t ++ crlf)) ≡ length t + 3
line_length t c = omega (arith, length-append t crlf)

word_is : (z : ℤ) → is_word z ≡ true → IsWord z
word_is (pos n) e = grind (arith, nat_tests)
word_is (negsuc n) e = grind (arith, nat_tests)

is_word_of : (z : ℤ) → IsWord z → is_word z ≡ true
is_word_of (pos n) l = grind (arith, nat_tests)
is_word_of (negsuc n) l = grind (arith, nat_tests)

magnitude_word : (z : ℤ) (b : List ℕ) → IsMagnitude z b → IsWord z
magnitude_word (pos n) b m = m.0
magnitude_word (negsuc n) b m = m.0

integer_fits : (z : ℤ) (n : ℕ) → integer_length z ≡ Some n → IsNumber Whole z (number_text z) × (length (signed_decimal z) + 3 ≡ n)
integer_fits z n e = by (is_word z) refl e where
  by : (p : Bool) → is_word z ≡ p → (if p then Some (length (signed_decimal z) + 3) else None) ≡ Some n → IsNumber Whole z (number_text z) × (length (signed_decimal z) + 3 ≡ n)
  by false a f = absurd (cc)
  by true a f = ((signed_decimal z, integer_of_text z (word_is z a), tt, refl), same_some (length (signed_decimal z) + 3) n f)

length_number : (n : ℕ) → n ≤ limit_of Length false → IsNumber Length (pos n) (number_text (pos n))
length_number n l = (decimal n, integer_of_text (pos n) (omega (arith, l)), l, refl)

count_number : (n : ℕ) → n ≤ limit_of Count false → IsNumber Count (pos n) (number_text (pos n))
count_number n l = (decimal n, integer_of_text (pos n) (omega (arith, l)), l, refl)

bulk_fits : (b : List ℕ) (n : ℕ) → bulk_length (length b) ≡ Some n → (length b ≤ limit_of Length false) × (length (decimal (length b)) + length b + 5 ≡ n)
bulk_fits b n e = by (nat_le (length b) (limit_of Length false)) refl e where
  by : (p : Bool) → nat_le (length b) (limit_of Length false) ≡ p → (if p then Some (length (decimal (length b)) + length b + 5) else None) ≡ Some n → (length b ≤ limit_of Length false) × (length (decimal (length b)) + length b + 5 ≡ n)
  by false a f = absurd (cc)
  by true a f = (grind (arith, nat_tests), same_some (length (decimal (length b)) + length b + 5) n f)

-- what is told of a value is the length of its spelling
abbrev Fitted : ℕ → Value → ℕ → Type 0
Fitted d v n = SpellsWithin d v (spelling v) × (length (spelling v) ≡ n)

plain : (d : ℕ) (v : Value) (b : List ℕ) → IsPlain v b → SpellsWithin d v b
plain zero v b p = p
plain (suc d) v b p = inl p

module _ (d : ℕ) (v : Value) (n : ℕ) (e : spelled_length v d ≡ Some n) where
  status_fits : (t : List ℕ) → v ≡ Status t → Fitted d v n
  status_fits t is =
      let h = text_fits t n (sym (status_told t d) ∙ ap (λ (w : Value). spelled_length w d) (sym is) ∙ e) in
      let text : spelling v ≡ 43 ∷ (t ++ crlf) = ap spelling is ∙ status_text t in
      (plain d v (spelling v) (as_status (t, t ++ crlf, is, h.0, text)), ap length text ∙ line_length t 43 ∙ h.1)

  error_fits : (t : List ℕ) → v ≡ Error t → Fitted d v n
  error_fits t is =
      let h = text_fits t n (sym (error_told t d) ∙ ap (λ (w : Value). spelled_length w d) (sym is) ∙ e) in
      let text : spelling v ≡ 45 ∷ (t ++ crlf) = ap spelling is ∙ error_text t in
      (plain d v (spelling v) (as_error (t, t ++ crlf, is, h.0, text)), ap length text ∙ line_length t 45 ∙ h.1)

  integer_fitted : (z : ℤ) → v ≡ Integer z → Fitted d v n
  integer_fitted z is =
      let h = integer_fits z n (sym (integer_told z d) ∙ ap (λ (w : Value). spelled_length w d) (sym is) ∙ e) in
      let text : spelling v ≡ 58 ∷ number_text z = ap spelling is ∙ integer_text z in
      (plain d v (spelling v) (as_integer (z, number_text z, is, h.0, text)), ap length text ∙ line_length (signed_decimal z) 58 ∙ h.1)

  bulk_fitted : (b : List ℕ) → v ≡ Bulk b → Fitted d v n
  bulk_fitted b is =
      let h = bulk_fits b n (sym (bulk_told b d) ∙ ap (λ (w : Value). spelled_length w d) (sym is) ∙ e) in
      let text : spelling v ≡ 36 ∷ (number_text (pos (length b)) ++ (b ++ crlf)) = ap spelling is ∙ bulk_text b in (
        plain d v (spelling v) (as_bulk (b, number_text (pos (length b)), is, length_number (length b) h.0, text)),
        ap length text ∙ omega (arith, h.1, length-append (number_text (pos (length b))) (b ++ crlf), length-append b crlf, length-append (decimal (length b)) crlf),
      )

  null_bulk_fitted : v ≡ NullBulk → Fitted d v n
  null_bulk_fitted is =
      let m = same_some 5 n (sym (null_bulk_told d) ∙ ap (λ (w : Value). spelled_length w d) (sym is) ∙ e) in
      let text : spelling v ≡ 36 ∷ 45 ∷ 49 ∷ crlf = ap spelling is ∙ null_bulk_text in
      (plain d v (spelling v) (as_null_bulk (45 ∷ 49 ∷ crlf, is, (45 ∷ 49 ∷ [], refl, refl, refl), text)), ap length text ∙ m)

-- lengths of items
pub items_none : (d : ℕ) (fs : List (ℕ → Option ℕ)) → items_length d None fs ≡ None
items_none d [] = refl
items_none d (f ∷ fs) = items_none d fs

joined_in : (n m k : ℕ) → joined (Some n) (Some m) ≡ Some k → n + m ≡ k
joined_in n m k e = by (nat_le (n + m) value_limit) e where
  by : (p : Bool) → (if p then Some (n + m) else None) ≡ Some k → n + m ≡ k
  by true f = same_some (n + m) k f
  by false f = absurd (cc)

module _ (d : ℕ) (one : (v : Value) (n : ℕ) → spelled_length v d ≡ Some n → Fitted d v n) where
  items_by : (x : Value) (xs : List Value) (n m : ℕ) (o s : Option ℕ) → spelled_length x d ≡ o → joined (Some n) o ≡ s → items_length d s (map spelled_length xs) ≡ Some m
      → ((k : ℕ) → items_length d (Some k) (map spelled_length xs) ≡ Some m → AreSpelled (SpellsWithin d) xs (flat_map spelling xs) × (length (flat_map spelling xs) + k ≡ m))
      → AreSpelled (SpellsWithin d) (x ∷ xs) (flat_map spelling (x ∷ xs)) × (length (flat_map spelling (x ∷ xs)) + n ≡ m)
  items_by x xs n m None None a b e more = absurd (let z : None ≡ Some m = sym (items_none d (map spelled_length xs)) ∙ e in cc)
  items_by x xs n m None (Some k) a b e more = absurd (cc)
  items_by x xs n m (Some j) None a b e more = absurd (let z : None ≡ Some m = sym (items_none d (map spelled_length xs)) ∙ e in cc)
  items_by x xs n m (Some j) (Some k) a b e more =
      let h = one x j a in
      let r = more k e in
      ((spelling x, flat_map spelling xs, refl, h.0, r.0), omega (arith, r.1, joined_in n j k b, h.1, length-append (spelling x) (flat_map spelling xs)))

  items_fit : (xs : List Value) (n m : ℕ) → items_length d (Some n) (map spelled_length xs) ≡ Some m → AreSpelled (SpellsWithin d) xs (flat_map spelling xs) × (length (flat_map spelling xs) + n ≡ m)
  items_fit [] n m e = (refl, omega (arith, same_some n m e))
  items_fit (x ∷ xs) n m e = items_by x xs n m (spelled_length x d) (joined (Some n) (spelled_length x d)) refl refl e (λ k f. items_fit xs k m f)

length_map : (xs : List Value) → length (map spelled_length xs) ≡ length xs
length_map [] = refl
length_map (x ∷ xs) = ap suc (length_map xs)

module _ (d : ℕ) (one : (v : Value) (n : ℕ) → spelled_length v d ≡ Some n → Fitted d v n) (v : Value) (n : ℕ) (e : spelled_length v (suc d) ≡ Some n) where
  array_fits : (xs : List Value) → v ≡ Array xs → Fitted (suc d) v n
  array_fits xs is = by (nat_le (length (map spelled_length xs)) (limit_of Count false)) refl (sym (array_told xs (suc d)) ∙ ap (λ (w : Value). spelled_length w (suc d)) (sym is) ∙ e) where
    by : (p : Bool) → nat_le (length (map spelled_length xs)) (limit_of Count false) ≡ p
        → (if p then items_length d (Some (length (decimal (length (map spelled_length xs))) + 3)) (map spelled_length xs) else None) ≡ Some n → Fitted (suc d) v n
    by false a f = absurd (cc)
    by true a f =
        let same = length_map xs in
        let l : length xs ≤ limit_of Count false = grind (arith, nat_tests) in
        let h = items_fit d one xs (length (decimal (length (map spelled_length xs))) + 3) n f in
        let text : spelling v ≡ 42 ∷ (number_text (pos (length xs)) ++ flat_map spelling xs) = ap spelling is ∙ array_text xs in (
          inr (inl (xs, number_text (pos (length xs)), flat_map spelling xs, is, count_number (length xs) l, h.0, text)),
          ap length text ∙ omega (arith, h.1, ap (λ (i : ℕ). length (decimal i)) same, length-append (number_text (pos (length xs))) (flat_map spelling xs), length-append (decimal (length xs)) crlf),
        )

  null_array_fits : v ≡ NullArray → Fitted (suc d) v n
  null_array_fits is =
      let m = same_some 5 n (sym (null_array_told (suc d)) ∙ ap (λ (w : Value). spelled_length w (suc d)) (sym is) ∙ e) in
      let text : spelling v ≡ 42 ∷ 45 ∷ 49 ∷ crlf = ap spelling is ∙ null_array_text in
      (inr (inr (45 ∷ 49 ∷ crlf, is, (45 ∷ 49 ∷ [], refl, refl, refl), text)), ap length text ∙ m)

fitted : (d : ℕ) (v : Value) (n : ℕ) → spelled_length v d ≡ Some n → Fitted d v n
fitted zero v n e = by (shape v) where
  by : Shape v → Fitted zero v n
  by (of_status t is) = status_fits zero v n e t is
  by (of_error t is) = error_fits zero v n e t is
  by (of_integer z is) = integer_fitted zero v n e z is
  by (of_bulk b is) = bulk_fitted zero v n e b is
  by (of_null_bulk is) = null_bulk_fitted zero v n e is
  by (of_array xs is) = absurd (let z : None ≡ Some n = sym (array_told xs zero) ∙ ap (λ (w : Value). spelled_length w zero) (sym is) ∙ e in cc)
  by (of_null_array is) = absurd (let z : None ≡ Some n = sym (null_array_told zero) ∙ ap (λ (w : Value). spelled_length w zero) (sym is) ∙ e in cc)
fitted (suc d) v n e = by (fitted d) (shape v) where
  by : ((w : Value) (k : ℕ) → spelled_length w d ≡ Some k → Fitted d w k) → Shape v → Fitted (suc d) v n
  by one (of_status t is) = status_fits (suc d) v n e t is
  by one (of_error t is) = error_fits (suc d) v n e t is
  by one (of_integer z is) = integer_fitted (suc d) v n e z is
  by one (of_bulk b is) = bulk_fitted (suc d) v n e b is
  by one (of_null_bulk is) = null_bulk_fitted (suc d) v n e is
  by one (of_array xs is) = array_fits d one v n e xs is
  by one (of_null_array is) = null_array_fits d one v n e is

-- and what is spelled has its length told
text_told : (t b : List ℕ) → IsText t b → text_length t ≡ Some (length t + 3)
text_told t b r = let within : nat_le (length t) text_limit ≡ true = grind (arith, nat_tests, r.0) in rw (r.1, within) refl

number_length : (w : NumberKind) (z : ℤ) (b : List ℕ) → IsNumber w z b → length b ≡ length (signed_decimal z) + 2
number_length w z b r = ap length r.3 ∙ length-append r.0 crlf ∙ ap (λ (l : List ℕ). length l + 2) (text_of_integer r.0 z r.1)

number_word : (w : NumberKind) (z : ℤ) (b : List ℕ) → IsNumber w z b → IsWord z
number_word w z b r = magnitude_word z r.0 (integer_is r.0 z r.1)

plain_told : (d : ℕ) (v : Value) (b : List ℕ) → IsPlain v b → spelled_length v d ≡ Some (length b)
plain_told d v b (as_status r) = ap (λ (w : Value). spelled_length w d) r.2 ∙ status_told r.0 d ∙ text_told r.0 r.1 r.3 ∙ ap Some (omega (arith, ap length r.4, ap length r.3.2, length-append r.0 crlf))
plain_told d v b (as_error r) = ap (λ (w : Value). spelled_length w d) r.2 ∙ error_told r.0 d ∙ text_told r.0 r.1 r.3 ∙ ap Some (omega (arith, ap length r.4, ap length r.3.2, length-append r.0 crlf))
plain_told d v b (as_integer r) =
    let is : is_word r.0 ≡ true = is_word_of r.0 (number_word Whole r.0 r.1 r.3) in
    ap (λ (w : Value). spelled_length w d) r.2 ∙ integer_told r.0 d ∙ ap (λ (t : Bool). if t then Some (length (signed_decimal r.0) + 3) else None) is ∙ ap Some (omega (arith, ap length r.4, number_length Whole r.0 r.1 r.3))
plain_told d v b (as_bulk r) =
    let is : nat_le (length r.0) (limit_of Length false) ≡ true = grind (arith, nat_tests, r.3.2) in
    ap (λ (w : Value). spelled_length w d) r.2 ∙ bulk_told r.0 d ∙ ap (λ (t : Bool). if t then Some (length (decimal (length r.0)) + length r.0 + 5) else None) is
    ∙ ap Some (omega (arith, ap length r.4, number_length Length (pos (length r.0)) r.1 r.3, length-append r.1 (r.0 ++ crlf), length-append r.0 crlf))
plain_told d v b (as_null_bulk r) =
    let text : b ≡ 36 ∷ 45 ∷ 49 ∷ crlf = one_spelling 0 v b (as_null_bulk r) ∙ ap spelling r.1 ∙ null_bulk_text in
    ap (λ (w : Value). spelled_length w d) r.1 ∙ null_bulk_told d ∙ ap Some (sym (ap length text))

module _ (d : ℕ) (one : (v : Value) (b : List ℕ) → SpellsWithin d v b → length b ≤ value_limit → spelled_length v d ≡ Some (length b)) where
  items_told : (xs : List Value) (b : List ℕ) (n : ℕ) → AreSpelled (SpellsWithin d) xs b → n + length b ≤ value_limit → items_length d (Some n) (map spelled_length xs) ≡ Some (n + length b)
  items_told [] b n r l = ap Some (let e : n ≡ n + length b = omega (arith, ap length r) in e)
  items_told (x ∷ xs) b n r l =
      let sum : length b ≡ length r.0 + length r.1 = ap length r.2 ∙ length-append r.0 r.1 in
      let first = one x r.0 r.3 (omega (arith, sum, l)) in
      let within : nat_le (n + length r.0) value_limit ≡ true = grind (arith, nat_tests, sum, l) in
      ap (λ (o : Option ℕ). items_length d (joined (Some n) o) (map spelled_length xs)) first
      ∙ ap (λ (t : Bool). items_length d (if t then Some (n + length r.0) else None) (map spelled_length xs)) within
      ∙ items_told xs r.1 (n + length r.0) r.4 (omega (arith, sum, l))
      ∙ ap Some (omega (arith, sum))

  array_length_told : (v : Value) (b : List ℕ) (vs : List Value) (line body : List ℕ) → v ≡ Array vs → IsNumber Count (pos (length vs)) line → AreSpelled (SpellsWithin d) vs body → b ≡ 42 ∷ (line ++ body) → length b ≤ value_limit → spelled_length v (suc d) ≡ Some (length b)
  array_length_told v b vs line body is number are text l =
      let same = length_map vs in
      let within : nat_le (length (map spelled_length vs)) (limit_of Count false) ≡ true = grind (arith, nat_tests, number.2, same) in
      let lengths : length b ≡ length (decimal (length vs)) + 3 + length body = omega (arith, ap length text, length-append line body, number_length Count (pos (length vs)) line number) in
      ap (λ (w : Value). spelled_length w (suc d)) is ∙ array_told vs (suc d)
      ∙ ap (λ (t : Bool). if t then items_length d (Some (length (decimal (length (map spelled_length vs))) + 3)) (map spelled_length vs) else None) within
      ∙ ap (λ (i : ℕ). items_length d (Some (length (decimal i) + 3)) (map spelled_length vs)) same
      ∙ items_told vs body (length (decimal (length vs)) + 3) are (omega (arith, lengths, l))
      ∙ ap Some (sym lengths)

length_told : (d : ℕ) (v : Value) (b : List ℕ) → SpellsWithin d v b → length b ≤ value_limit → spelled_length v d ≡ Some (length b)
length_told zero v b s l = plain_told zero v b s
length_told (suc d) v b (inl s) l = plain_told (suc d) v b s
length_told (suc d) v b (inr (inl r)) l = array_length_told d (length_told d) v b r.0 r.1 r.2 r.3 r.4 r.5 r.6 l
length_told (suc d) v b (inr (inr r)) l =
    let text : b ≡ 42 ∷ 45 ∷ 49 ∷ crlf = one_spelling (suc d) v b (inr (inr r)) ∙ ap spelling r.1 ∙ null_array_text in
    ap (λ (w : Value). spelled_length w (suc d)) r.1 ∙ null_array_told (suc d) ∙ ap Some (sym (ap length text))

-- a value has a spelling just where its length is told, and is within the limit
pub has_spelling : (v : Value) (n : ℕ) → spelled_length v depth_limit ≡ Some n → n ≤ value_limit → HasSpelling v
has_spelling v n e l = let h = fitted depth_limit v n e in (spelling v, (h.0, omega (arith, h.1, l)))

pub spelling_told : (v : Value) → (h : HasSpelling v) → spelled_length v depth_limit ≡ Some (length h.0)
spelling_told v h = length_told depth_limit v h.0 h.1.0 h.1.1

-- what `encode` gives
pub spelled : (v : Value) (bytes : List ℕ) → HasSpelling v → bytes ≡ spelling v → Spells v bytes
spelled v bytes h e = subst (Spells v) (one_spelling depth_limit v h.0 h.1.0 ∙ sym e) h.1

-- the first of the items that are left
left_suc : (d n i : ℕ) (xs : List Value) (x : Value) → i < length xs → x ≡ get_or xs i x → items_length d (Some n) (map spelled_length (drop i xs)) ≡ items_length d (joined (Some n) (spelled_length x d)) (map spelled_length (drop (suc i) xs))
left_suc d n i [] x l e = absurd (omega (arith, l))
left_suc d n zero (y ∷ ys) x l e = ap (λ (w : Value). items_length d (joined (Some n) (spelled_length w d)) (map spelled_length ys)) (sym e)
left_suc d n (suc i) (y ∷ ys) x l e = left_suc d n i ys x (omega (arith, l)) e

pub left_first : (d n i : ℕ) (xs : List Value) (x : Value) → i < length xs → x ≡ get_or xs i x → items_length d (Some n) (map spelled_length (drop i xs)) ≡ items_length d (joined (Some n) (spelled_length x d)) (map spelled_length (drop (i + 1) xs))
left_first d n i xs x l e =
    let next : suc i ≡ i + 1 = omega arith in
    left_suc d n i xs x l e ∙ ap (λ (k : ℕ). items_length d (joined (Some n) (spelled_length x d)) (map spelled_length (drop k xs))) next

-- no items are left
pub left_none : (d n i : ℕ) (xs : List Value) → length xs ≤ i → items_length d (Some n) (map spelled_length (drop i xs)) ≡ Some n
left_none d n zero [] l = refl
left_none d n (suc i) [] l = refl
left_none d n zero (y ∷ ys) l = absurd (omega (arith, l))
left_none d n (suc i) (y ∷ ys) l = left_none d n i ys (omega (arith, l))

-- a step over the items that are left: with the next one there is no length, or one more
module _ (v : Value) (d n i : ℕ) (xs : List Value) (x : Value) (o : Option ℕ) (left : items_length (d - 1) (Some n) (map spelled_length (drop i xs)) ≡ spelled_length v d) (l : i < length xs) (at : x ≡ get_or xs i x) (is : o ≡ joined (Some n) (spelled_length x (d - 1))) where
  step : items_length (d - 1) o (map spelled_length (drop (i + 1) xs)) ≡ spelled_length v d
  step = ap (λ (p : Option ℕ). items_length (d - 1) p (map spelled_length (drop (i + 1) xs))) is ∙ sym (left_first (d - 1) n i xs x l at) ∙ left

  pub left_over : o ≡ None → None ≡ spelled_length v d
  left_over e = sym (items_none (d - 1) (map spelled_length (drop (i + 1) xs))) ∙ ap (λ (p : Option ℕ). items_length (d - 1) p (map spelled_length (drop (i + 1) xs))) (sym e) ∙ step

  pub left_more : (m : ℕ) → o ≡ Some m → items_length (d - 1) (Some m) (map spelled_length (drop (i + 1) xs)) ≡ spelled_length v d
  left_more m e = ap (λ (p : Option ℕ). items_length (d - 1) p (map spelled_length (drop (i + 1) xs))) (sym e) ∙ step

-- what is told of each form
pub told_status : (v : Value) (d : ℕ) (t s : List ℕ) → v ≡ Status t → s ≡ t → text_length s ≡ spelled_length v d
told_status v d t s is e = ap text_length e ∙ sym (status_told t d) ∙ ap (λ (w : Value). spelled_length w d) (sym is)

pub told_error : (v : Value) (d : ℕ) (t s : List ℕ) → v ≡ Error t → s ≡ t → text_length s ≡ spelled_length v d
told_error v d t s is e = ap text_length e ∙ sym (error_told t d) ∙ ap (λ (w : Value). spelled_length w d) (sym is)

pub told_integer : (v : Value) (d : ℕ) (z : ℤ) → v ≡ Integer z → integer_length z ≡ spelled_length v d
told_integer v d z is = sym (integer_told z d) ∙ ap (λ (w : Value). spelled_length w d) (sym is)

pub told_bulk : (v : Value) (d n : ℕ) (b : List ℕ) → v ≡ Bulk b → n ≡ length b → bulk_length n ≡ spelled_length v d
told_bulk v d n b is e = ap bulk_length e ∙ sym (bulk_told b d) ∙ ap (λ (w : Value). spelled_length w d) (sym is)

pub told_null_bulk : (v : Value) (d : ℕ) → v ≡ NullBulk → Some 5 ≡ spelled_length v d
told_null_bulk v d is = sym (null_bulk_told d) ∙ ap (λ (w : Value). spelled_length w d) (sym is)

pub told_null_array : (v : Value) (d : ℕ) → v ≡ NullArray → length_step Value-F.NullArray d ≡ spelled_length v d
told_null_array v d is = sym (null_array_told d) ∙ ap (λ (w : Value). spelled_length w d) (sym is)

pub told_array : (v : Value) (d : ℕ) (xs : List Value) → v ≡ Array xs → length_step (Value-F.Array (map spelled_length xs)) d ≡ spelled_length v d
told_array v d xs is = sym (array_told xs d) ∙ ap (λ (w : Value). spelled_length w d) (sym is)

-- an array that isn't looked into
pub told_deep : (v : Value) (d : ℕ) (xs : List Value) → v ≡ Array xs → d ≡ 0 → None ≡ spelled_length v d
told_deep v d xs is e = ap (λ (i : ℕ). length_step (Value-F.Array (map spelled_length xs)) i) (sym e) ∙ told_array v d xs is

pub told_many : (v : Value) (d : ℕ) (xs : List Value) → v ≡ Array xs → limit_of Count false < length xs → None ≡ spelled_length v d
told_many v zero xs is l = told_array v zero xs is
told_many v (suc d) xs is l =
    let same = length_map xs in
    let past : nat_le (length (map spelled_length xs)) (limit_of Count false) ≡ false = grind (arith, nat_tests) in
    ap (λ (t : Bool). if t then items_length d (Some (length (decimal (length (map spelled_length xs))) + 3)) (map spelled_length xs) else None) (sym past) ∙ told_array v (suc d) xs is

-- an array that is
pub told_items : (v : Value) (d n m : ℕ) (xs ys : List Value) → v ≡ Array xs → ys ≡ xs → 0 < d → length xs ≤ limit_of Count false → m ≡ length xs → n ≡ length (decimal m) + 3 → items_length (d - 1) (Some n) (map spelled_length ys) ≡ spelled_length v d
told_items v zero n m xs ys is e l k o p = absurd (omega (arith, l))
told_items v (suc d) n m xs ys is e l k o p =
    let same = length_map xs in
    let within : nat_le (length (map spelled_length xs)) (limit_of Count false) ≡ true = grind (arith, nat_tests) in
    let below : suc d - 1 ≡ d = omega arith in
    let count : m ≡ length (map spelled_length xs) = omega (arith, same, o) in
    let begin : n ≡ length (decimal (length (map spelled_length xs))) + 3 = p ∙ ap (λ (i : ℕ). length (decimal i) + 3) count in
    ap (λ (i : ℕ). items_length i (Some n) (map spelled_length ys)) below
    ∙ ap (λ (i : ℕ). items_length d (Some i) (map spelled_length ys)) begin
    ∙ ap (λ (l : List Value). items_length d (Some (length (decimal (length (map spelled_length xs))) + 3)) (map spelled_length l)) e
    ∙ ap (λ (t : Bool). if t then items_length d (Some (length (decimal (length (map spelled_length xs))) + 3)) (map spelled_length xs) else None) (sym within)
    ∙ told_array v (suc d) xs is

pub told_null_deep : (v : Value) (d : ℕ) → v ≡ NullArray → d ≡ 0 → None ≡ spelled_length v d
told_null_deep v d is e = ap (λ (i : ℕ). length_step Value-F.NullArray i) (sym e) ∙ told_null_array v d is

pub told_null : (v : Value) (d : ℕ) → v ≡ NullArray → 0 < d → Some 5 ≡ spelled_length v d
told_null v zero is l = absurd (omega (arith, l))
told_null v (suc d) is l = told_null_array v (suc d) is

-- the test tells whether there is a spelling
pub fits_is : (v : Value) (o : Option ℕ) → o ≡ spelled_length v depth_limit → IfSome o (λ n. n ≤ value_limit) → IsTrue (is_some o) ↔ HasSpelling v
fits_is v None e l = (λ t. absurd (cc), λ h. absurd (let z : None ≡ Some (length h.0) = e ∙ spelling_told v h in cc))
fits_is v (Some n) e l = (λ t. has_spelling v n (sym e) l, λ h. refl)
