-- How revokes are kept. This serves the proofs of code.
use Rattle.std.specs.Prelude.{ℕ, List, map}
use Rattle.std.specs.declared.alloc.Global.{Global}
use Rattle.std.specs.declared.vec.Vec.{Vec}

-- the revokes that a map's entries are
abbrev pub revokes_of : List (Vec ℕ Global × ℕ) → List (List ℕ × ℕ)
revokes_of es = map (λ e. (e.0.items, e.1)) es
