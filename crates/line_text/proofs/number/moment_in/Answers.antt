use Rattle.std.proofs.Common.{arith, rules, ◌≡◌, ◌≤◌, true, List, ℕ, ◌<◌, ◌^◌, None, Some, sym, ap, ◌∙◌, length, [], ◌∷◌}
use Rattle.std.specs.Prelude.{Err, if◌then◌else◌, min}
use Rattle.std.proofs.lemmas.Grind.{common_steps}
use Rattle.std.proofs.lemmas.Str.Parse.{parse_digits}
use Rattle.std.specs.Str.Parse.{digits_value, ParsesUnsigned}
use Rattle.line_text.specs.Numbers.{moment_in, is_number}
use Rattle.line_text.proofs.Spelled.{own, digits_of}
use Rattle.line_text.proofs.number.moment_in.Goals as goal

-- a number that has no room in 64 bits is no moment of the store
far : {E : Type 0} (word : List ℕ) (e : E) → ParsesUnsigned 64 10 word (Err e) → is_number word ≡ true → Some 1099511627776 ≡ moment_in word
far [] e p n = search rules
far (d ∷ ds) e p n =
    let none = parse_digits own 64 (d ∷ ds) (Err e) p (digits_of (d ∷ ds) n) in
    let above = above_by (digits_value 10 (d ∷ ds)) none in
    ap Some (sym above) ∙ ap (λ b. if b then Some (min (digits_value 10 (d ∷ ds)) (2 ^ 40)) else None) (sym n) where
      above_by : (v : ℕ) → ((0 < length (d ∷ ds)) × (v < 2 ^ 64) → ⊥) → min v (2 ^ 40) ≡ 1099511627776
      above_by v none' = let above : 2 ^ 64 ≤ v = grind (arith, common_steps, none') in omega (arith, above)

pub returns-in-Err : goal.returns-in-Err
returns-in-Err c = far c.args.word.now c.in-Err.field-0 c.in-Err.ensures.value.0 (search rules)
