-- Each entry leaves less room.
use Rattle.std.proofs.Common.{◌≡◌, ℕ, ◌+◌, ◌-◌, ◌<◌, ◌^◌, List, [], ◌∷◌, ◌++◌, length, Bool, true, false, arith, ap, ◌∙◌, length-append}
use Rattle.std.specs.Prelude.{◌||◌, nat_le}
use Rattle.std.proofs.lemmas.Bool.Decides.{nat_tests}
use Rattle.place_model.specs.declared.heard.Heard.{Heard}
use Rattle.place_model.specs.declared.history.Entry.{Entry}
use Rattle.schedule_model.specs.Costs.{is_full, total_cost}

neither : (a b : Bool) → (a || b) ≡ false → a ≡ false
neither true b e = cc
neither false b e = λ i. false

under : (n : ℕ) → nat_le 1000000 n ≡ false → n < 1000000
under n e = grind (arith, nat_tests)

-- one entry more in a history that isn't full
pub room_shrinks : (es fs : List (Entry Heard)) (x : Entry Heard) → is_full es ≡ false → fs ≡ es ++ x ∷ [] → 1000000 - length fs < 1000000 - length es
room_shrinks es fs x unfilled more =
    let few : length es < 1000000 = under (length es) (neither (nat_le 1000000 (length es)) (nat_le (2 ^ 30) (total_cost es)) unfilled) in
    let grown : length fs ≡ length es + 1 = ap (λ l. length l) more ∙ length-append es (x ∷ []) in
    omega (arith, few, grown)
