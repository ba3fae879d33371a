-- Trees as reading gives them: each key once and in order, each number within 64 bits. Serves the proofs of code.
use Rattle.std.specs.Prelude.{◌≡◌, ℕ, ◌^◌, ◌<◌, ℤ, pos, negsuc, List}
use Rattle.std.specs.Ordering.{nat_cmp}
use Rattle.std.specs.Cmp.Lexicographic.{slice_cmp}
use Rattle.std.specs.declared.cmp.Ordering.TheVariants.{Less}
use Rattle.serde_json.specs.Data.{Num, unsigned, negative, float, Data, null, boolean, number, string, array, object, Items, no_items, item, Members, no_members, member}

-- a negative number of 64 bits
abbrev pub IsNegative : ℤ → Type 0
IsNegative (pos n) = ⊥
IsNegative (negsuc n) = n < 2 ^ 63

-- a number that reading gives
abbrev pub IsRead : Num → Type 0
IsRead (unsigned n) = n < 2 ^ 64
IsRead (negative z) = IsNegative z
IsRead (float x) = Unit {0}

-- all keys come after this one
abbrev pub After : List ℕ → Members → Type 0
After k no_members = Unit {0}
After k (member l e ms) = (slice_cmp nat_cmp k l ≡ Less) × After k ms

-- each key once and in order, each number within 64 bits
abbrev mutual
  pub Sorted : Data → Type 0
  Sorted null = Unit {0}
  Sorted (boolean b) = Unit {0}
  Sorted (number n) = IsRead n
  Sorted (string s) = Unit {0}
  Sorted (array ds) = SortedItems ds
  Sorted (object ms) = SortedMembers ms

  pub SortedItems : Items → Type 0
  SortedItems no_items = Unit {0}
  SortedItems (item d ds) = Sorted d × SortedItems ds

  pub SortedMembers : Members → Type 0
  SortedMembers no_members = Unit {0}
  SortedMembers (member k d ms) = Sorted d × After k ms × SortedMembers ms
