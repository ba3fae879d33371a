-- Values that are all integers, one after the other.
use Rattle.std.proofs.Common.{◌≡◌, ◌<◌, ◌+◌, ℕ, List, [], ◌∷◌, length, get_or, drop, Bool, false, Option, Some, None, refl, sym, ap, ◌∙◌, ℤ, ◌&&◌}
use Rattle.std.proofs.lemmas.List.{drop_more}
use Rattle.std.specs.Prelude.{is_some, option_and_then}
use Rattle.wire_values.specs.declared.value.Value.{Value}
use Rattle.command_blocks.specs.Answers.{items_of, number_of}
use Rattle.command_blocks.specs.Scripts.{each_told, onto_told}
use Rattle.returns.specs.Numbers.{are_numbers}

next_of : (values : List Value) (v d : Value) (i : ℕ) → i < length values → v ≡ get_or values i d → drop i values ≡ v ∷ drop (i + 1) values
next_of values v d i lt is = drop_more values i d lt ∙ ap (λ (x : Value). x ∷ drop (i + 1) values) (sym is)

-- one integer more
pub numbers_more : (values : List Value) (v d : Value) (i : ℕ) (z : ℤ) → i < length values → v ≡ get_or values i d → number_of v ≡ Some z → are_numbers values ≡ are_numbers (drop i values) → are_numbers values ≡ are_numbers (drop (i + 1) values)
numbers_more values v d i z lt is some h = h ∙ ap are_numbers (next_of values v d i lt is) ∙ ap (λ (o : Option ℤ). is_some o && are_numbers (drop (i + 1) values)) some

-- a value that is none
pub numbers_not : (values : List Value) (v d : Value) (i : ℕ) → i < length values → v ≡ get_or values i d → number_of v ≡ None → are_numbers values ≡ are_numbers (drop i values) → false ≡ are_numbers values
numbers_not values v d i lt is none h = sym (h ∙ ap are_numbers (next_of values v d i lt is) ∙ ap (λ (o : Option ℤ). is_some o && are_numbers (drop (i + 1) values)) none)

told_so : (o : Option ℤ) (us : Option (List ℤ)) (b : Bool) → b ≡ is_some us → (is_some o && b) ≡ is_some (onto_told o us)
told_so None us b e = refl
told_so (Some z) None b e = e
told_so (Some z) (Some us) b e = e

-- they are told
pub numbers_told : (values : List Value) → are_numbers values ≡ is_some (each_told number_of values)
numbers_told [] = refl
numbers_told (v ∷ vs) = told_so (number_of v) (each_told number_of vs) (are_numbers vs) (numbers_told vs)

-- the values of an array
pub array_told : (r : Value) (vs : List Value) (b : Bool) → items_of r ≡ Some vs → b ≡ are_numbers vs → b ≡ is_some (option_and_then (each_told number_of) (items_of r))
array_told r vs b e h = h ∙ numbers_told vs ∙ ap (λ o. is_some (option_and_then (each_told number_of) o)) (sym e)
