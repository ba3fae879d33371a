-- The parts of a binding's text, found one after the other. Serves the proofs of code.
use Rattle.std.specs.Prelude.{ℕ, suc, Bool, ◌+◌, if◌then◌else◌, List, [], ◌∷◌, drop, take, Option, Some, None, option_map}
use Rattle.queue_keys.specs.Names.{Bytes, has_front, is_name, same}
use Rattle.queue_keys.specs.Lookup.{insert_once}
use Rattle.queue_keys.specs.Patterns.{matches}

-- where the first separator of a text stands, of which so many bytes were passed
abbrev pub separator_from : ℕ → Bytes → Option ℕ
separator_from i [] = None
separator_from i (b ∷ bs) = if has_front (6 ∷ 22 ∷ []) (b ∷ bs) then Some i else separator_from (suc i) bs

-- what stands before it and after it
abbrev pub cut_at : Bytes → ℕ → Bytes × Bytes
cut_at m i = (take i m, drop (i + 2) m)

abbrev pub cut : Bytes → Option (Bytes × Bytes)
cut m = option_map (cut_at m) (separator_from 0 m)

-- three parts, where the third has no separator
abbrev pub if_last : Bytes → Bytes → Bytes → Option (Bytes × Bytes) → Option (Bytes × Bytes × Bytes)
if_last r x q None = Some (r, x, q)
if_last r x q (Some p) = None

abbrev pub second_cut : Bytes → Option (Bytes × Bytes) → Option (Bytes × Bytes × Bytes)
second_cut r None = None
second_cut r (Some p) = if_last r p.0 p.1 (cut p.1)

abbrev pub first_cut : Option (Bytes × Bytes) → Option (Bytes × Bytes × Bytes)
first_cut None = None
first_cut (Some p) = second_cut p.0 (cut p.1)

-- the three parts of a text that has just three
abbrev pub three_parts : Bytes → Option (Bytes × Bytes × Bytes)
three_parts m = first_cut (cut m)

-- whether a routing key goes to a binding of this key and this pattern
abbrev pub binds_by : Bytes → Bytes → Bytes → Bool
binds_by d x r = if same [] x then same d r else matches x r

-- the queue of three parts, where it has a lawful name and the routing key goes to it
abbrev pub if_bound : Bytes → Option (Bytes × Bytes × Bytes) → Option Bytes
if_bound r None = None
if_bound r (Some (d, x, q)) = if is_name q then (if binds_by d x r then Some q else None) else None

-- the queue of a member's binding, where the routing key goes to it
abbrev pub bound_queue : Bytes → Bytes → Option Bytes
bound_queue r m = if_bound r (three_parts m)

-- a list in byte order with that queue, if there is one
abbrev pub with_found_queue : Option Bytes → List Bytes → List Bytes
with_found_queue None qs = qs
with_found_queue (Some q) qs = insert_once q qs
