use Rattle.std.proofs.Common.{arith, rules, ◌≡◌, true, false, List, ℕ, ◌<◌, ◌^◌, Bool, None, Some, refl, sym, ◌∙◌, length, [], ◌∷◌}
use Rattle.std.specs.Prelude.{Result, Ok, Err, nat_le, ◌&&◌, if◌then◌else◌}
use Rattle.std.specs.Result.{result_ok}
use Rattle.std.proofs.lemmas.Grind.{common_steps}
use Rattle.std.proofs.lemmas.Str.Parse.{IsNumeralModel, numerals_by_value, parse_digits}
use Rattle.std.specs.Char.{is_ascii_digit}
use Rattle.std.specs.List.{list_all}
use Rattle.std.specs.Str.Parse.{digits_value, ParsesUnsigned}
use Rattle.line_text.specs.Numbers.{number_in, is_number}
use Rattle.line_text.proofs.number.number_in.Goals as goal

own : IsNumeralModel (λ ds. list_all is_ascii_digit ds ≡ true) (digits_value 10)
own = numerals_by_value (λ ds. list_all is_ascii_digit ds ≡ true) (search rules)

left_of : (a b : Bool) → (a && b) ≡ true → a ≡ true
left_of true b e = refl
left_of false b e = e

-- a number that has no room in 64 bits is above each bound that has
none_above : {E : Type 0} (low high : ℕ) (bs : List ℕ) (r : Result ℕ E) → ParsesUnsigned 64 10 bs r → result_ok r ≡ None → is_number bs ≡ true → high < 2 ^ 64 → None ≡ number_in low high bs
none_above low high [] r p o n h = refl
none_above low high (d ∷ ds) (Ok x) p o n h = search rules
none_above low high (d ∷ ds) (Err e) p o n h =
    let far = parse_digits own 64 (d ∷ ds) (Err e) p (left_of _ _ n) in
    let v = digits_value 10 (d ∷ ds) in
    let above : high < v = above_by v far in
    let no : nat_le v high ≡ false = grind (arith, common_steps, above) in
    none_by _ _ no where
      above_by : (v : ℕ) → ((0 < length (d ∷ ds)) × (v < 2 ^ 64) → ⊥) → high < v
      above_by v far = grind (arith, common_steps, far, h)

      none_by : (a b : Bool) → b ≡ false → None ≡ (if a && b then Some (digits_value 10 (d ∷ ds)) else None)
      none_by true b e = grind (arith, common_steps, e)
      none_by false b e = refl

pub returns-in_err-value : goal.returns-in_err-value
returns-in_err-value c = c.from_residual.ensures ∙ none_above c.args.low c.args.high c.args.word.now _ c.parse.ensures.value.0 (sym c.ok.ensures.value ∙ c.in_err-value.was) (search rules) (grind (arith, c.ranges.high.fits))
