-- A command has a spelling just where the lengths of its words make up one.
use Rattle.std.proofs.Common.{◌≡◌, ℕ, zero, suc, ◌+◌, ◌-◌, ◌<◌, ◌≤◌, List, [], ◌∷◌, length, map, Bool, true, false, nat_le, Option, Some, None, get_or, drop, refl, sym, ap, ◌∙◌, arith}
use Rattle.std.specs.Prelude.{◌↔◌, IfSome, IsTrue, is_some, decimal, if◌then◌else◌}
use Rattle.std.proofs.Math.Logic.{∥∥₁_elim}
use Rattle.std.proofs.Props.{props}
use Rattle.std.proofs.lemmas.Bool.Decides.{nat_tests}
use Rattle.wire_values.specs.declared.value.Value.TheVariants.{Array, Bulk}
use Rattle.wire_grammar.specs.Limits.{depth_limit, limit_of, value_limit}
use Rattle.wire_grammar.specs.declared.kind.NumberKind.TheVariants.{Count}
use Rattle.wire_grammar.specs.Fits.{IsWithinLimits}
use Rattle.wire_spelling.specs.Lengths.{joined, bulk_length, items_length, spelled_length}
use Rattle.wire_spelling.proofs.Fitting.{array_told, bulk_told, fits_is, items_none}

-- the test tells whether a command fits
pub command_fits_is : (words : List (List ℕ)) (o : Option ℕ) → o ≡ spelled_length (Array (map Bulk words)) depth_limit → IfSome o (λ n. n ≤ value_limit) → IsTrue (is_some o) ↔ IsWithinLimits words
command_fits_is words o e l =
    let h = fits_is (Array (map Bulk words)) o e l in
    (λ t. ∣ h.0 t ∣₁, λ w. ∥∥₁_elim w (hlevel props) (λ s. h.1 s))

length_maps : (ws : List (List ℕ)) → length (map spelled_length (map Bulk ws)) ≡ length ws
length_maps [] = refl
length_maps (w ∷ ws) = ap suc (length_maps ws)

-- too many words
pub many_words : (ws : List (List ℕ)) → limit_of Count false < length ws → None ≡ spelled_length (Array (map Bulk ws)) depth_limit
many_words ws l =
    let same = length_maps ws in
    let past : nat_le (length (map spelled_length (map Bulk ws))) (limit_of Count false) ≡ false = grind (arith, nat_tests) in
    ap (λ (t : Bool). if t then items_length (depth_limit - 1) (Some (length (decimal (length (map spelled_length (map Bulk ws)))) + 3)) (map spelled_length (map Bulk ws)) else None) (sym past) ∙ sym (array_told (map Bulk ws) depth_limit)

-- before the first word
pub words_begun : (ws : List (List ℕ)) (n m : ℕ) → length ws ≤ limit_of Count false → m ≡ length ws → n ≡ length (decimal m) + 3 → items_length (depth_limit - 1) (Some n) (map spelled_length (map Bulk ws)) ≡ spelled_length (Array (map Bulk ws)) depth_limit
words_begun ws n m l o p =
    let same = length_maps ws in
    let within : nat_le (length (map spelled_length (map Bulk ws))) (limit_of Count false) ≡ true = grind (arith, nat_tests) in
    let begin : n ≡ length (decimal (length (map spelled_length (map Bulk ws)))) + 3 = p ∙ ap (λ (i : ℕ). length (decimal i) + 3) (omega (arith, same, o)) in
    ap (λ (i : ℕ). items_length (depth_limit - 1) (Some i) (map spelled_length (map Bulk ws))) begin
    ∙ ap (λ (t : Bool). if t then items_length (depth_limit - 1) (Some (length (decimal (length (map spelled_length (map Bulk ws)))) + 3)) (map spelled_length (map Bulk ws)) else None) (sym within)
    ∙ sym (array_told (map Bulk ws) depth_limit)

-- with the next word
word_suc : (n i : ℕ) (ws : List (List ℕ)) (w : List ℕ) → i < length ws → w ≡ get_or ws i w
    → items_length (depth_limit - 1) (Some n) (map spelled_length (map Bulk (drop i ws))) ≡ items_length (depth_limit - 1) (joined (Some n) (bulk_length (length w))) (map spelled_length (map Bulk (drop (suc i) ws)))
word_suc n i [] w l e = absurd (omega (arith, l))
word_suc n zero (y ∷ ys) w l e = ap (λ (o : Option ℕ). items_length (depth_limit - 1) (joined (Some n) o) (map spelled_length (map Bulk ys))) (bulk_told y (depth_limit - 1) ∙ ap (λ (x : List ℕ). bulk_length (length x)) (sym e))
word_suc n (suc i) (y ∷ ys) w l e = word_suc n i ys w (omega (arith, l)) e

module _ (n i : ℕ) (ws : List (List ℕ)) (w : List ℕ) (o whole : Option ℕ) (left : items_length (depth_limit - 1) (Some n) (map spelled_length (map Bulk (drop i ws))) ≡ whole) (l : i < length ws) (at : w ≡ get_or ws i w) (is : o ≡ joined (Some n) (bulk_length (length w))) where
  step : items_length (depth_limit - 1) o (map spelled_length (map Bulk (drop (i + 1) ws))) ≡ whole
  step =
      let next : suc i ≡ i + 1 = omega arith in
      ap (λ (p : Option ℕ). items_length (depth_limit - 1) p (map spelled_length (map Bulk (drop (i + 1) ws)))) is
      ∙ sym (word_suc n i ws w l at ∙ ap (λ (k : ℕ). items_length (depth_limit - 1) (joined (Some n) (bulk_length (length w))) (map spelled_length (map Bulk (drop k ws)))) next)
      ∙ left

  pub word_over : o ≡ None → None ≡ whole
  word_over e = sym (items_none 3 (map spelled_length (map Bulk (drop (i + 1) ws)))) ∙ ap (λ (p : Option ℕ). items_length (depth_limit - 1) p (map spelled_length (map Bulk (drop (i + 1) ws)))) (sym e) ∙ step

  pub word_more : (m : ℕ) → o ≡ Some m → items_length (depth_limit - 1) (Some m) (map spelled_length (map Bulk (drop (i + 1) ws))) ≡ whole
  word_more m e = ap (λ (p : Option ℕ). items_length (depth_limit - 1) p (map spelled_length (map Bulk (drop (i + 1) ws)))) (sym e) ∙ step

-- no word is left
pub word_none : (n i : ℕ) (ws : List (List ℕ)) → length ws ≤ i → items_length (depth_limit - 1) (Some n) (map spelled_length (map Bulk (drop i ws))) ≡ Some n
word_none n zero [] l = refl
word_none n (suc i) [] l = refl
word_none n zero (y ∷ ys) l = absurd (omega (arith, l))
word_none n (suc i) (y ∷ ys) l = word_none n i ys (omega (arith, l))
