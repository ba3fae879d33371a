-- Values and commands that fit, by what their parts take; and what a command that fits has.
use Rattle.std.proofs.Common.{◌≡◌, ℕ, ℤ, pos, negsuc, suc, ◌+◌, ◌*◌, ◌≤◌, List, [], ◌∷◌, ◌++◌, length, map, false, decimal, refl, sym, ap, subst, ◌∙◌, arith, length-append, inl, inr}
use Rattle.std.specs.Prelude.{All, flat_map}
use Rattle.std.specs.Fmt.{signed_decimal}
use Rattle.std.specs.List.{list_any}
use Rattle.std.proofs.Math.Logic.{∥∥₁_elim}
use Rattle.std.proofs.Math.Nat.{suc-mul}
use Rattle.std.proofs.Props.{props}
use Rattle.std.proofs.lemmas.Fmt.{length-decimal-le}
use Rattle.std.proofs.lemmas.List.Elements.{All-nil, All-cons, All-head, All-tail}
use Rattle.numerals.proofs.Texts.{IsWord, integer_of_text}
use Rattle.wire_values.specs.declared.value.Value.{Value, out-Value, out-roll-Value}
use Rattle.wire_values.specs.declared.value.Value.TheVariants.{Status, Error, Integer, Bulk, NullBulk, Array, rolls-Array, rolls-Bulk}
use Rattle.wire_values.specs.declared.value.Value.TheOpen.{Value-F}
use Rattle.wire_grammar.specs.declared.kind.NumberKind.TheVariants.{Length, Count}
use Rattle.wire_grammar.specs.Limits.{text_limit, depth_limit, value_limit, limit_of, is_end}
use Rattle.wire_grammar.specs.Spells.{crlf, IsNumber, AreSpelled, IsPlain, as_status, as_error, as_integer, as_bulk, as_null_bulk, SpellsWithin}
use Rattle.wire_grammar.specs.Texts.{spelling, number_text}
use Rattle.wire_grammar.specs.Fits.{HasSpelling, IsShort, IsWithinLimits}
use Rattle.wire_grammar.proofs.Writings.{status_text, error_text, integer_text, bulk_text, null_bulk_text, array_text}

-- a value that is no array, and takes at most n bytes
abbrev pub IsSmall : ℕ → Value → Type 0
IsSmall n v = IsPlain v (spelling v) × (length (spelling v) ≤ n)

pub small_more : (n m : ℕ) (v : Value) → n ≤ m → IsSmall n v → IsSmall m v
small_more n m v l s = (s.0, omega (arith, l, s.1))

line_length : (t : List ℕ) → length (t ++ crlf) ≡ length t + 2
line_length t = length-append t crlf

pub status_small : (t : List ℕ) → length t ≤ text_limit → list_any is_end t ≡ false → IsSmall (length t + 3) (Status t)
status_small t l e = (as_status (t, t ++ crlf, refl, (l, e, refl), status_text t), omega (arith, ap length (status_text t), line_length t))

pub error_small : (t : List ℕ) → length t ≤ text_limit → list_any is_end t ≡ false → IsSmall (length t + 3) (Error t)
error_small t l e = (as_error (t, t ++ crlf, refl, (l, e, refl), error_text t), omega (arith, ap length (error_text t), line_length t))

digits_few : (z : ℤ) → IsWord z → length (signed_decimal z) ≤ 20
digits_few (pos n) h = length-decimal-le 20 n (omega arith) (omega (arith, h)) (omega (arith, h))
digits_few (negsuc n) h = let x : length (decimal (suc n)) ≤ 19 = length-decimal-le 19 (suc n) (omega arith) (omega (arith, h)) (omega (arith, h)) in omega (arith, x)

pub integer_small : (z : ℤ) → IsWord z → IsSmall 23 (Integer z)
integer_small z h = (as_integer (z, number_text z, refl, (signed_decimal z, integer_of_text z h, tt, refl), integer_text z), omega (arith, ap length (integer_text z), line_length (signed_decimal z), digits_few z h))

pub bulk_small : (b : List ℕ) → IsShort b → IsSmall (length b + 12) (Bulk b)
bulk_small b l =
    let short : length (decimal (length b)) ≤ 7 = length-decimal-le 7 (length b) (omega arith) (omega (arith, l)) (omega (arith, l)) in
    let number : IsNumber Length (pos (length b)) (number_text (pos (length b))) = (decimal (length b), integer_of_text (pos (length b)) (omega (arith, l)), l, refl) in
    (as_bulk (b, number_text (pos (length b)), refl, number, bulk_text b), omega (arith, ap length (bulk_text b), length-append (number_text (pos (length b))) (b ++ crlf), line_length b, line_length (decimal (length b)), short))

pub null_bulk_small : IsSmall 5 NullBulk
null_bulk_small = (as_null_bulk (45 ∷ 49 ∷ crlf, refl, (45 ∷ 49 ∷ [], refl, refl, refl), null_bulk_text), omega (arith, ap length null_bulk_text))

-- a value that is small enough fits
pub small_fits : (n : ℕ) (v : Value) → n ≤ value_limit → IsSmall n v → HasSpelling v
small_fits n v l s = (spelling v, (inl s.0, omega (arith, l, s.1)))

items_spelled : (n : ℕ) (vs : List Value) → All (IsSmall n) vs → AreSpelled (SpellsWithin 3) vs (flat_map spelling vs)
items_spelled n [] all = refl
items_spelled n (v ∷ vs) all = (spelling v, flat_map spelling vs, refl, inl (All-head (IsSmall n) v vs all).0, items_spelled n vs (All-tail (IsSmall n) v vs all))

-- so many items, of at most n bytes each
items_length : (n : ℕ) (vs : List Value) → All (IsSmall n) vs → length (flat_map spelling vs) ≤ length vs * n
items_length n [] all = omega arith
items_length n (v ∷ vs) all =
    let first = (All-head (IsSmall n) v vs all).1 in
    let rest = items_length n vs (All-tail (IsSmall n) v vs all) in
    omega (arith, first, rest, length-append (spelling v) (flat_map spelling vs), suc-mul (length vs) n)

-- an array of values that are no arrays fits, where they are few and small enough
pub array_fits : (n : ℕ) (vs : List Value) → length vs ≤ limit_of Count false → length vs * n + 7 ≤ value_limit → All (IsSmall n) vs → HasSpelling (Array vs)
array_fits n vs few small all =
    let digits : length (decimal (length vs)) ≤ 4 = length-decimal-le 4 (length vs) (omega arith) (omega (arith, few)) (omega (arith, few)) in
    let number : IsNumber Count (pos (length vs)) (number_text (pos (length vs))) = (decimal (length vs), integer_of_text (pos (length vs)) (omega (arith, few)), few, refl) in
    let text = array_text vs in
    let long : length (spelling (Array vs)) ≤ value_limit = omega (arith, ap length text, length-append (number_text (pos (length vs))) (flat_map spelling vs), line_length (decimal (length vs)), digits, items_length n vs all, small) in
    (spelling (Array vs), (inr (inl (vs, number_text (pos (length vs)), flat_map spelling vs, refl, number, items_spelled n vs all, text)), long))

-- ---- commands

length_bulks : (words : List (List ℕ)) → length (map Bulk words) ≡ length words
length_bulks [] = refl
length_bulks (w ∷ ws) = ap suc (length_bulks ws)

bulks_small : (n : ℕ) (words : List (List ℕ)) → n ≤ limit_of Length false → All (λ w. length w ≤ n) words → All (IsSmall (n + 12)) (map Bulk words)
bulks_small n [] l all = All-nil (IsSmall (n + 12))
bulks_small n (w ∷ ws) l all =
    let short = All-head (λ (x : List ℕ). length x ≤ n) w ws all in
    All-cons (IsSmall (n + 12)) (Bulk w) (map Bulk ws) (small_more (length w + 12) (n + 12) (Bulk w) (omega (arith, short)) (bulk_small w (omega (arith, l, short)))) (bulks_small n ws l (All-tail (λ (x : List ℕ). length x ≤ n) w ws all))

-- an array of bulk strings fits, where they are few and short enough
pub bulks_fit : (n : ℕ) (words : List (List ℕ)) → length words ≤ limit_of Count false → n ≤ limit_of Length false → length words * (n + 12) + 7 ≤ value_limit → All (λ w. length w ≤ n) words → HasSpelling (Array (map Bulk words))
bulks_fit n words few short small all =
    array_fits (n + 12) (map Bulk words) (omega (arith, few, length_bulks words)) (omega (arith, small, ap (λ k. k * (n + 12)) (length_bulks words))) (bulks_small n words short all)

-- and so does a command of such words
pub words_fit : (n : ℕ) (words : List (List ℕ)) → length words ≤ limit_of Count false → n ≤ limit_of Length false → length words * (n + 12) + 7 ≤ value_limit → All (λ w. length w ≤ n) words → IsWithinLimits words
words_fit n words few short small all = ∣ bulks_fit n words few short small all ∣₁

-- what a command that fits has: few words, and each is short
abbrev pub HasShortWords : List (List ℕ) → Type 0
HasShortWords words = (length words ≤ limit_of Count false) × All IsShort words

items_in : Value-F Value → List Value
items_in (Value-F.Array vs) = vs
items_in other = []

array_in : (xs ys : List Value) → Array xs ≡ Array ys → xs ≡ ys
unfolding items_in
array_in xs ys e =
    let layer : (zs : List Value) → items_in (out-Value (Array zs)) ≡ zs = λ zs. ap (λ v. items_in (out-Value v)) (sym (rolls-Array zs)) ∙ ap items_in (out-roll-Value (Value-F.Array zs)) in
    sym (layer xs) ∙ ap (λ v. items_in (out-Value v)) e ∙ layer ys

content_in : Value-F Value → List ℕ
content_in (Value-F.Bulk b) = b
content_in other = []

content_of : Value → List ℕ
content_of v = content_in (out-Value v)

content_is : (b : List ℕ) → content_of (Bulk b) ≡ b
unfolding content_of content_in
content_is b = ap content_of (sym (rolls-Bulk b)) ∙ ap content_in (out-roll-Value (Value-F.Bulk b))

plain_short : (b bytes : List ℕ) → IsPlain (Bulk b) bytes → IsShort b
plain_short b bytes (as_status r) = absurd (cc (r.2))
plain_short b bytes (as_error r) = absurd (cc (r.2))
plain_short b bytes (as_integer r) = absurd (cc (r.2))
plain_short b bytes (as_bulk r) = let same : b ≡ r.0 = sym (content_is b) ∙ ap content_of r.2 ∙ content_is r.0 in omega (arith, ap length same, r.3.2)
plain_short b bytes (as_null_bulk r) = absurd (cc (r.1))

bulk_short : (b bytes : List ℕ) → SpellsWithin 3 (Bulk b) bytes → IsShort b
bulk_short b bytes (inl p) = plain_short b bytes p
bulk_short b bytes (inr (inl r)) = absurd (cc (r.3))
bulk_short b bytes (inr (inr r)) = absurd (cc (r.1))

all_short : (words : List (List ℕ)) (bytes : List ℕ) → AreSpelled (SpellsWithin 3) (map Bulk words) bytes → All IsShort words
all_short [] bytes are = All-nil IsShort
all_short (w ∷ ws) bytes are = All-cons IsShort w ws (bulk_short w are.0 are.3) (all_short ws are.1 are.4)

no_plain : (vs : List Value) (bytes : List ℕ) → IsPlain (Array vs) bytes → ⊥
no_plain vs bytes (as_status r) = cc (r.2)
no_plain vs bytes (as_error r) = cc (r.2)
no_plain vs bytes (as_integer r) = cc (r.2)
no_plain vs bytes (as_bulk r) = cc (r.2)
no_plain vs bytes (as_null_bulk r) = cc (r.1)

spelled_words : (words : List (List ℕ)) (bytes : List ℕ) → SpellsWithin depth_limit (Array (map Bulk words)) bytes → HasShortWords words
spelled_words words bytes (inl p) = absurd (no_plain (map Bulk words) bytes p)
spelled_words words bytes (inr (inl r)) =
    let same = array_in (map Bulk words) r.0 r.3 in (
      omega (arith, ap length same, length_bulks words, r.4.2),
      all_short words r.2 (subst (λ vs. AreSpelled (SpellsWithin 3) vs r.2) (sym same) r.5),
    )
spelled_words words bytes (inr (inr r)) = absurd (cc (r.1))

short_prop : (words : List (List ℕ)) → IsProp (HasShortWords words)
short_prop words = hlevel props

-- the words of a command that fits
pub words_short : (words : List (List ℕ)) → IsWithinLimits words → HasShortWords words
words_short words h = ∥∥₁_elim h (short_prop words) (λ s. spelled_words words s.0 s.1.0)
