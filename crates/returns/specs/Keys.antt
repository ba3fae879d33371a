-- Keys of queues, as words. Serves the proofs of code.
use Rattle.std.specs.Prelude.{◌&&◌, Bool, true, nat_le, List, [], ◌∷◌, length}
use Rattle.queue_keys.specs.Names.{Bytes}

-- whether each of the keys has few bytes
abbrev pub are_few : List Bytes → Bool
are_few [] = true
are_few (k ∷ ks) = nat_le (length k) 258 && are_few ks
