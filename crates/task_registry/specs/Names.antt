-- The names of registered tasks.
use Rattle.std.specs.Prelude.{ℕ, Bool, List, map, bytes_eq}
use Rattle.std.specs.List.{list_any}
use Rattle.std.specs.declared.alloc.Global.{Global}
use Rattle.std.specs.declared.vec.Vec.{Vec}

-- the names of stored tasks, in the order in which they were registered
abbrev pub names_of : {B : Type 0} → (B → List ℕ) → Vec B Global → List (List ℕ)
names_of name_of bodies = map name_of bodies.items

-- whether a name is among them
abbrev pub has_name : List ℕ → List (List ℕ) → Bool
has_name name names = list_any (bytes_eq name) names
