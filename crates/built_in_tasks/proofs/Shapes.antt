-- Arguments of other numbers than a task takes.
use Rattle.std.proofs.Common.{◌≡◌, ◌<◌, ◌≤◌, ℕ, nat_eq, List, [], ◌∷◌, length, Option, Some, None, String, refl, arith}
use Rattle.std.specs.declared.alloc.Global.{Global}
use Rattle.serde_json.specs.View.{items_view, members_view}
use Rattle.serde_json.specs.declared.value.Value.{Value}
use Rattle.built_in_tasks.specs.BuiltIns.{are_none, bad_arguments, items_delay, items_echo, items_sum}

pub no_members : (es : List (String Global × Value)) → nat_eq (length es) 0 ≡ are_none (Some (members_view es))
no_members [] = refl
no_members (e ∷ es) = grind arith

pub more_than_one : (xs : List Value) → 2 ≤ length xs → items_echo (Some (items_view xs)) ≡ bad_arguments
more_than_one [] up = absurd (omega arith)
more_than_one (x ∷ []) up = absurd (omega arith)
more_than_one (x ∷ y ∷ xs) up = refl

pub not_two : (xs : List Value) → 3 ≤ length xs → items_sum (Some (items_view xs)) ≡ None
not_two [] up = absurd (omega arith)
not_two (x ∷ []) up = absurd (omega arith)
not_two (x ∷ y ∷ []) up = absurd (omega arith)
not_two (x ∷ y ∷ z ∷ xs) up = refl

pub many : (xs : List Value) → 2 ≤ length xs → items_delay (Some (items_view xs)) ≡ None
many [] up = absurd (omega arith)
many (x ∷ []) up = absurd (omega arith)
many (x ∷ y ∷ xs) up = refl
