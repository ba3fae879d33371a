-- An array is typed where its items are, and no deeper than one more than they.
use Rattle.std.proofs.Common.{◌≡◌, ℕ, ◌≤◌, Bool, true, false, List, [], ◌∷◌, refl, sym, ap, ◌∙◌, arith, map}
use Rattle.std.proofs.lemmas.Bool.Decides.{nat_tests}
use Rattle.std.specs.Prelude.{nat_le, ◌&&◌, ◌-◌, ◌<◌}
use Rattle.std.specs.List.{list_all}
use Rattle.wire_values.specs.declared.value.Value.{Value}
use Rattle.wire_values.specs.declared.value.Value.TheVariants.{Array, rolls-Array}
use Rattle.wire_values.specs.declared.value.Value.TheFolds.{fold-roll-Value}
use Rattle.wire_values.specs.declared.value.Value.TheOpen.{Value-F}
use Rattle.history_records.specs.Recordable.{depth, depth_step, greatest, is_typed, typed_step}
use Rattle.record_reading.specs.Reads.{are_at_most, are_typed}

both : (a b : Bool) → (a && b) ≡ true → (a ≡ true) × (b ≡ true)
both true b e = (refl, e)
both false b e = cc

mapped : (vs : List Value) → are_typed vs ≡ true → list_all (λ b. b) (map is_typed vs) ≡ true
mapped [] e = refl
mapped (v ∷ vs) e = let p = both (is_typed v) (are_typed vs) e in ap (λ b. b && list_all (λ b. b) (map is_typed vs)) p.0 ∙ mapped vs p.1

pub typed_array : (vs : List Value) → are_typed vs ≡ true → is_typed (Array vs) ≡ true
typed_array vs e = ap is_typed (sym (rolls-Array vs)) ∙ fold-roll-Value Bool typed_step (Value-F.Array vs) ∙ mapped vs e

bounded : (n : ℕ) (vs : List Value) → are_at_most n vs ≡ true → greatest (map depth vs) ≤ n
bounded n [] e = omega arith
bounded n (v ∷ vs) e =
    let p = both (nat_le (depth v) n) (are_at_most n vs) e in
    let q = p.0 in
    let one : depth v ≤ n = grind (arith, nat_tests, q) in
    let more = bounded n vs p.1 in
    omega (arith, one, more)

pub shallow_array : (d : ℕ) (vs : List Value) → 0 < d → are_at_most (d - 1) vs ≡ true → nat_le (depth (Array vs)) d ≡ true
shallow_array d vs some e =
    let is = ap depth (sym (rolls-Array vs)) ∙ fold-roll-Value ℕ depth_step (Value-F.Array vs) in
    let le = bounded (d - 1) vs e in
    let all : depth (Array vs) ≤ d = omega (arith, is, le, some) in
    grind (arith, nat_tests, all)
