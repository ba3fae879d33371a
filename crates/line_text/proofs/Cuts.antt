-- Texts and lines, cut where a byte first stands.
use Rattle.std.proofs.Common.{◌≡◌, ℕ, zero, suc, ◌<◌, ◌≤◌, Bool, true, false, List, [], ◌∷◌, length, Some, None, refl, ap, sym, ◌∙◌, subst, arith, rules, tests}
use Rattle.std.proofs.lemmas.List.Elements.{All-from_get_or}
use Rattle.std.proofs.lemmas.List.Splits.{slice_split_none, slice_split_first, length-slice_split, join_with_byte-slice_split}
use Rattle.std.proofs.lemmas.List.Sums.{fails_before_first}
use Rattle.std.proofs.lemmas.List.{length-take}
use Rattle.std.proofs.lemmas.List.Folds.{length-prefix_len}
use Rattle.std.proofs.lemmas.Bool.Decides.{nat_tests}
use Rattle.std.specs.Prelude.{◌==◌, nat_lt, not, if◌then◌else◌}
use Rattle.std.specs.List.{slice_split, position, position_or_len, before_first, after_first, join_with_byte}
use Rattle.line_text.specs.Lines.{lines_of, whole_lines}
use Rattle.line_text.specs.Words.{words_of, joined_after, rest_after}

-- where nothing passes, the list is its one part
split_none : {X : Type 0} (p : X → Bool) (xs : List X) (d : X) → position_or_len p xs ≡ length xs → slice_split p xs ≡ xs ∷ []
split_none p xs d h = slice_split_none p xs (All-from_get_or (λ x. p x ≡ false) xs d (λ i lt. fails_before_first p xs i d (subst (λ n. i < n) (sym h) lt)))

-- a split has a part
split_some : {X : Type 0} (p : X → Bool) (xs : List X) → 0 < length (slice_split p xs)
split_some p xs = omega (arith, length-slice_split p xs)

whole_lines-cons : (l : List ℕ) (ls : List (List ℕ)) → 0 < length ls → whole_lines (l ∷ ls) ≡ l ∷ whole_lines ls
whole_lines-cons l [] h = absurd (omega arith)
whole_lines-cons [] (m ∷ ls) h = refl
whole_lines-cons (b ∷ l) (m ∷ ls) h = refl

-- the first line of a text ends at its first line feed
pub lines_of-first : (text : List ℕ) → position_or_len (λ b. b == 10) text < length text → lines_of text ≡ before_first (λ b. b == 10) text ∷ lines_of (after_first (λ b. b == 10) text)
lines_of-first text h = ap whole_lines (slice_split_first (λ b. b == 10) text 0 h) ∙ whole_lines-cons _ _ (split_some (λ b. b == 10) (after_first (λ b. b == 10) text))

-- a text with no line feed is one line
pub lines_of-last : (text : List ℕ) → 0 < length text → position_or_len (λ b. b == 10) text ≡ length text → lines_of text ≡ text ∷ []
lines_of-last text some h = ap whole_lines (split_none (λ b. b == 10) text 0 h) ∙ one text some where
  one : (l : List ℕ) → 0 < length l → whole_lines (l ∷ []) ≡ l ∷ []
  one [] none = absurd (omega arith)
  one (b ∷ l) some' = refl

-- the rest of a line after no words is the line
pub rest_after-zero : (line : List ℕ) → rest_after 0 line ≡ Some line
rest_after-zero line = by (words_of line) (split_some (λ b. b == 32) line) ∙ ap (λ l. Some l) (join_with_byte-slice_split 32 line) where
  by : (ws : List (List ℕ)) → 0 < length ws → joined_after 0 ws ≡ Some (join_with_byte 32 ws)
  by [] h = absurd (omega arith)
  by (w ∷ ws) h = refl

-- after the first space stands what comes after one word less
pub rest_after-first : (count : ℕ) (line : List ℕ) → position_or_len (λ b. b == 32) line < length line → rest_after (suc count) line ≡ rest_after count (after_first (λ b. b == 32) line)
rest_after-first count line h = ap (joined_after (suc count)) (slice_split_first (λ b. b == 32) line 0 h)

-- a line with no space has one word
pub rest_after-last : (count : ℕ) (line : List ℕ) → position_or_len (λ b. b == 32) line ≡ length line → rest_after (suc count) line ≡ None
rest_after-last count line h = ap (joined_after (suc count)) (split_none (λ b. b == 32) line 0 h) ∙ nothing count where
  nothing : (count' : ℕ) → joined_after count' [] ≡ None
  nothing zero = refl
  nothing (suc count') = refl

-- a place that `position` gives is the first one
pub place_some : {X : Type 0} (p : X → Bool) (xs : List X) (i : ℕ) → Some i ≡ position p xs → (i ≡ position_or_len p xs) × (position_or_len p xs < length xs)
place_some p xs i h = by (nat_lt (position_or_len p xs) (length xs)) refl h where
  by : (b : Bool) → nat_lt (position_or_len p xs) (length xs) ≡ b → Some i ≡ (if b then Some (position_or_len p xs) else None) → (i ≡ position_or_len p xs) × (position_or_len p xs < length xs)
  by true t e = (cc, search (rules, tests, t))
  by false t e = absurd (cc)

-- where `position` gives none, none passes
pub place_none : {X : Type 0} (p : X → Bool) (xs : List X) → None ≡ position p xs → position_or_len p xs ≡ length xs
place_none p xs h = by (nat_lt (position_or_len p xs) (length xs)) refl h where
  by : (b : Bool) → nat_lt (position_or_len p xs) (length xs) ≡ b → None ≡ (if b then Some (position_or_len p xs) else None) → position_or_len p xs ≡ length xs
  by true t e = absurd (cc)
  by false t e = let far : length xs ≤ position_or_len p xs = grind (arith, nat_tests, t) in omega (arith, far, length-prefix_len (λ x. not (p x)) xs, length-take (position_or_len p xs) xs)
