-- What a range by score is: said by what the sorted set holds and by the order, not by a way to find it.
use Rattle.std.specs.Prelude.{◌≡◌, ◌⊎◌, ◌↔◌, true, List, [], ◌∷◌, Some, ℤ, int_le, int_lt}
use Rattle.std.specs.FinMap.{FinMap, get}
use Rattle.std.specs.declared.cmp.Ordering.TheVariants.{Less}
use Rattle.wire_values.specs.Order.{bytes_cmp}
use Rattle.store_model.specs.Words.{Bytes}

-- the one member comes before the other: its score is higher, or it has the same score and is later in byte order
abbrev pub ComesBefore : Bytes × ℤ → Bytes × ℤ → Type 0
ComesBefore a b = (int_lt b.1 a.1 ≡ true) ⊎ ((b.1 ≡ a.1) × (bytes_cmp b.0 a.0 ≡ Less))

-- it comes before each of the others
abbrev pub BeforeAll : Bytes × ℤ → List (Bytes × ℤ) → Type 0
BeforeAll a [] = Unit {0}
BeforeAll a (b ∷ bs) = ComesBefore a b × BeforeAll a bs

-- each comes before all that follow it
abbrev pub AreRanked : List (Bytes × ℤ) → Type 0
AreRanked [] = Unit {0}
AreRanked (a ∷ rest) = BeforeAll a rest × AreRanked rest

-- it is one of them
abbrev pub IsOneOf : Bytes × ℤ → List (Bytes × ℤ) → Type 0
IsOneOf a [] = ⊥
IsOneOf a (b ∷ bs) = (a ≡ b) ⊎ IsOneOf a bs

-- the list has just the members of the sorted set whose scores are within the bounds, with their scores, each before all that follow it
pub record IsRange (high low : ℤ) (h : FinMap bytes_cmp ℤ) (l : List (Bytes × ℤ)) : Type 0 where
  pub ranked : AreRanked l
  pub holds : (x : Bytes) (s : ℤ) → IsOneOf (x, s) l ↔ ((get h x ≡ Some s) × (int_le low s ≡ true) × (int_le s high ≡ true))
