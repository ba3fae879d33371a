-- What the small types over vectors hold. Serves the proofs of code.
use Rattle.std.specs.Prelude.{List, [], Option, None, Some}
use Rattle.std.specs.declared.alloc.Global.{Global}
use Rattle.std.specs.declared.vec.Vec.{Vec}

-- the items of a vector; none where none was made yet
abbrev pub kept_items : {T : Type 0} → Option (Vec T Global) → List T
kept_items None = []
kept_items (Some v) = v.items
