-- The round of queues.
use Rattle.std.specs.Prelude.{Bool, false, ◌||◌, if◌then◌else◌, List, [], ◌∷◌, ◌++◌}
use Rattle.queue_keys.specs.Names.{Bytes, same}

-- whether one of the queues has this name
abbrev pub has_queue : Bytes → List Bytes → Bool
has_queue q [] = false
has_queue q (x ∷ xs) = same q x || has_queue q xs

-- the queues without the first of this name
abbrev pub without_first : Bytes → List Bytes → List Bytes
without_first q [] = []
without_first q (x ∷ xs) = if same q x then xs else x ∷ without_first q xs

-- the order after a queue of this name gave a message: the first of that name goes to the end, and without one nothing changes
abbrev pub rotated : Bytes → List Bytes → List Bytes
rotated q qs = if has_queue q qs then without_first q qs ++ q ∷ [] else qs
