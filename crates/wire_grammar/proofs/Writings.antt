-- A value has one spelling.
use Rattle.std.proofs.Common.{◌≡◌, ℕ, ℤ, pos, negsuc, zero, suc, List, [], ◌∷◌, ◌++◌, length, map, refl, sym, ap, ◌∙◌, arith, inl, inr}
use Rattle.std.specs.Prelude.{flat_map}
use Rattle.std.proofs.lemmas.Fmt.{decimal_digit}
use Rattle.numerals.proofs.Texts.{text_of_integer}
use Rattle.wire_values.specs.declared.value.Value.{Value}
use Rattle.wire_values.specs.declared.value.Value.TheVariants.{Status, Error, Integer, Bulk, NullBulk, Array, NullArray, rolls-Status, rolls-Error, rolls-Integer, rolls-Bulk, rolls-NullBulk, rolls-Array, rolls-NullArray}
use Rattle.wire_values.specs.declared.value.Value.TheFolds.{fold-roll-Value}
use Rattle.wire_values.specs.declared.value.Value.TheOpen.{Value-F}
use Rattle.wire_grammar.specs.declared.kind.NumberKind.{NumberKind}
use Rattle.wire_grammar.specs.declared.kind.NumberKind.TheVariants.{Whole, Length, Count}
use Rattle.wire_grammar.specs.Texts.{spelling, spelling_step, number_text}
use Rattle.wire_grammar.specs.Spells.{crlf, IsNumber, AreSpelled, IsPlain, as_status, as_error, as_integer, as_bulk, as_null_bulk, SpellsWithin}

-- the texts one after the other
flat_texts : (xs : List Value) → flat_map (λ x. x) (map spelling xs) ≡ flat_map spelling xs
flat_texts [] = refl
flat_texts (x ∷ xs) = ap (λ l. spelling x ++ l) (flat_texts xs)

length_texts : (xs : List Value) → length (map spelling xs) ≡ length xs
length_texts [] = refl
length_texts (x ∷ xs) = ap suc (length_texts xs)

pub status_text : (t : List ℕ) → spelling (Status t) ≡ 43 ∷ (t ++ crlf)
status_text t = ap spelling (sym (rolls-Status t)) ∙ fold-roll-Value (List ℕ) spelling_step (Value-F.Status t)

pub error_text : (t : List ℕ) → spelling (Error t) ≡ 45 ∷ (t ++ crlf)
error_text t = ap spelling (sym (rolls-Error t)) ∙ fold-roll-Value (List ℕ) spelling_step (Value-F.Error t)

pub integer_text : (z : ℤ) → spelling (Integer z) ≡ 58 ∷ number_text z
integer_text z = ap spelling (sym (rolls-Integer z)) ∙ fold-roll-Value (List ℕ) spelling_step (Value-F.Integer z)

pub bulk_text : (b : List ℕ) → spelling (Bulk b) ≡ 36 ∷ (number_text (pos (length b)) ++ (b ++ crlf))
bulk_text b = ap spelling (sym (rolls-Bulk b)) ∙ fold-roll-Value (List ℕ) spelling_step (Value-F.Bulk b)

pub null_bulk_text : spelling NullBulk ≡ 36 ∷ 45 ∷ 49 ∷ crlf
null_bulk_text = ap spelling (sym rolls-NullBulk) ∙ fold-roll-Value (List ℕ) spelling_step Value-F.NullBulk

pub array_text : (xs : List Value) → spelling (Array xs) ≡ 42 ∷ (number_text (pos (length xs)) ++ flat_map spelling xs)
array_text xs = ap spelling (sym (rolls-Array xs)) ∙ fold-roll-Value (List ℕ) spelling_step (Value-F.Array xs) ∙ (λ j. 42 ∷ (number_text (pos (length_texts xs j)) ++ flat_texts xs j))

pub null_array_text : spelling NullArray ≡ 42 ∷ 45 ∷ 49 ∷ crlf
null_array_text = ap spelling (sym rolls-NullArray) ∙ fold-roll-Value (List ℕ) spelling_step Value-F.NullArray

are_texts : (R : Value → List ℕ → Type 0) → ((v : Value) (b : List ℕ) → R v b → b ≡ spelling v) → (vs : List Value) (b : List ℕ) → AreSpelled R vs b → b ≡ flat_map spelling vs
are_texts R one [] b r = r
are_texts R one (v ∷ vs) b r = r.2 ∙ (λ j. one v r.0 r.3 j ++ are_texts R one vs r.1 r.4 j)

number_is : (w : NumberKind) (z : ℤ) (b : List ℕ) → IsNumber w z b → b ≡ number_text z
number_is w z b r = r.3 ∙ ap (λ l. l ++ crlf) (text_of_integer r.0 z r.1)

minus_one : number_text (negsuc 0) ≡ 45 ∷ 49 ∷ crlf
minus_one = ap (λ l. 45 ∷ (l ++ crlf)) (decimal_digit 1 (omega arith))

plain_spelling : (v : Value) (b : List ℕ) → IsPlain v b → b ≡ spelling v
plain_spelling v b (as_status r) = r.4 ∙ ap (λ l. 43 ∷ l) r.3.2 ∙ sym (ap spelling r.2 ∙ status_text r.0)
plain_spelling v b (as_error r) = r.4 ∙ ap (λ l. 45 ∷ l) r.3.2 ∙ sym (ap spelling r.2 ∙ error_text r.0)
plain_spelling v b (as_integer r) = r.4 ∙ ap (λ l. 58 ∷ l) (number_is Whole r.0 r.1 r.3) ∙ sym (ap spelling r.2 ∙ integer_text r.0)
plain_spelling v b (as_bulk r) = r.4 ∙ ap (λ l. 36 ∷ (l ++ (r.0 ++ crlf))) (number_is Length (pos (length r.0)) r.1 r.3) ∙ sym (ap spelling r.2 ∙ bulk_text r.0)
plain_spelling v b (as_null_bulk r) = r.3 ∙ ap (λ l. 36 ∷ l) (number_is Length (negsuc 0) r.0 r.2 ∙ minus_one) ∙ sym (ap spelling r.1 ∙ null_bulk_text)

-- a value has one spelling
pub one_spelling : (d : ℕ) (v : Value) (b : List ℕ) → SpellsWithin d v b → b ≡ spelling v
one_spelling zero v b r = plain_spelling v b r
one_spelling (suc d) v b (inl r) = plain_spelling v b r
one_spelling (suc d) v b (inr (inl r)) =
    r.6 ∙ (λ j. 42 ∷ (number_is Count (pos (length r.0)) r.1 r.4 j ++ are_texts (SpellsWithin d) (one_spelling d) r.0 r.2 r.5 j)) ∙ sym (ap spelling r.3 ∙ array_text r.0)
one_spelling (suc d) v b (inr (inr r)) = r.3 ∙ ap (λ l. 42 ∷ l) (number_is Count (negsuc 0) r.0 r.2 ∙ minus_one) ∙ sym (ap spelling r.1 ∙ null_array_text)
