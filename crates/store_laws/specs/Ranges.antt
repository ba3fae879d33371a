-- What ZREVRANGEBYSCORE gives.
use Rattle.std.specs.Prelude.{◌≡◌, ℕ, List, map, take, drop, ℤ}
use Rattle.std.specs.FinMap.{FinMap}
use Rattle.wire_values.specs.Order.{bytes_cmp}
use Rattle.store_model.specs.Limits.{range_limit}
use Rattle.store_model.specs.Words.{Bytes}
use Rattle.store_laws.specs.Rankings.{IsRange}
use Rattle.store_model.specs.SortedSets.{ranks}

-- there is one range between the bounds, and what is given are its members, without the first ones that are passed over, and at most so many, never more than a range's limit
pub record GivesRange (high low : ℤ) (skip most : ℕ) (h : FinMap bytes_cmp ℤ) : Type 0 where
  pub range : List (Bytes × ℤ)
  pub is : IsRange high low h range
  pub only : (l : List (Bytes × ℤ)) → IsRange high low h l → l ≡ range
  pub given : ranks high low skip most h ≡ take range_limit (take most (drop skip (map (λ e. e.0) range)))
