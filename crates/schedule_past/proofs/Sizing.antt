-- The bytes of a value's bulk strings, and what entries cost.
use Rattle.std.proofs.Common.{Option, get_or, subst, ◌<◌, ◌≡◌, ◌+◌, ◌≤◌, ℕ, List, [], ◌∷◌, ◌++◌, length, take, sym, ap, ◌∙◌, sum_by, zero-add, arith}
use Rattle.std.proofs.lemmas.Grind.{common_steps}
use Rattle.std.proofs.lemmas.List.Sums.{sum-map, sum_by-append, sum_by_more}
use Rattle.wire_values.specs.declared.value.Value.{Value}
use Rattle.wire_values.specs.declared.value.Value.TheFolds.{fold-roll-Value}
use Rattle.wire_values.specs.declared.value.Value.TheOpen.{Value-F}
use Rattle.wire_values.specs.declared.value.Value.TheVariants.{Array, rolls-Array}
use Rattle.place_model.specs.declared.heard.Heard.{Heard}
use Rattle.place_model.specs.declared.history.Entry.{Entry}
use Rattle.schedule_model.specs.Costs.{bulk_size, bulk_step, cost, total_cost}
use Rattle.schedule_past.specs.Counted.{IsCounted}

-- those of an array are those of its items
pub bulk_size-array : (items : List Value) → bulk_size (Array items) ≡ sum_by bulk_size items
bulk_size-array items = ap bulk_size (sym (rolls-Array items)) ∙ (fold-roll-Value ℕ bulk_step (Value-F.Array items) ∙ sum-map bulk_size items)

take_whole : {A : Type 0} (i : ℕ) (xs : List A) → length xs ≤ i → take i xs ≡ xs
take_whole i xs h = grind (arith, common_steps)

-- and one more: what is counted with the next item
pub counted_more : {A : Type 0} (f : A → ℕ) (xs : List A) (i : ℕ) (x : A) (size second more : Option ℕ) → i < length xs → x ≡ get_or xs i x → IsCounted (f x) second
    → ((n m : ℕ) → IsCounted n size → IsCounted m second → IsCounted (n + m) more) → IsCounted (sum_by f (take i xs)) size → IsCounted (sum_by f (take (i + 1) xs)) more
counted_more f xs i x size second more lt at counted adds so_far =
    subst (λ n. IsCounted n more) (sym (sum_by_more f xs i x lt ∙ ap (λ y. sum_by f (take i xs) + f y) (sym at))) (adds (sum_by f (take i xs)) (f x) so_far counted)

-- what was counted of all items is what was to be counted of their array
pub counted_array : (v : Value) (items found : List Value) (i : ℕ) (size : Option ℕ) → IsCounted (sum_by bulk_size (take i found)) size → length found ≤ i → found ≡ items → v ≡ Array items → IsCounted (bulk_size v) size
counted_array v items found i size counted h f is =
    subst (λ n. IsCounted n size) (ap (sum_by bulk_size) (take_whole i found h) ∙ (ap (sum_by bulk_size) f ∙ (sym (bulk_size-array items) ∙ ap bulk_size (sym is)))) counted

one_cost : (e : Entry Heard) → sum_by cost (e ∷ []) ≡ cost e
one_cost e = zero-add (cost e)

-- what one more entry makes of the cost
pub cost_more : (es fs : List (Entry Heard)) (e : Entry Heard) (n m : ℕ) → fs ≡ es ++ e ∷ [] → n ≡ total_cost es → m ≡ cost e → n + m ≡ total_cost fs
cost_more es fs e n m grown so_far more =
    ap (λ k. k + m) so_far ∙ (ap (λ k. total_cost es + k) (more ∙ sym (one_cost e)) ∙ (sym (sum_by-append cost es (e ∷ [])) ∙ ap total_cost (sym grown)))
