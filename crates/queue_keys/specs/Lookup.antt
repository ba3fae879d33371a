-- The lookup: the queues of a routing key.
use Rattle.std.specs.Prelude.{ℕ, Bool, if◌then◌else◌, List, [], ◌∷◌, Option, Some, None}
use Rattle.std.specs.Ordering.{match_ordering}
use Rattle.wire_values.specs.Order.{bytes_cmp}
use Rattle.queue_keys.specs.Names.{Bytes, same, is_name}
use Rattle.queue_keys.specs.Layouts.{Layout}
use Rattle.queue_keys.specs.QueueKeys.{keys_at}
use Rattle.queue_keys.specs.Bindings.{Binding, binding_of}
use Rattle.queue_keys.specs.Patterns.{matches}

-- whether a routing key goes to this binding: by its pattern, or with none by the same key
abbrev pub binds : Bytes → Binding → Bool
binds r b = if same [] b.pattern then same b.routing_key r else matches b.pattern r

-- a list in byte order with this text, once
abbrev pub insert_once : Bytes → List Bytes → List Bytes
insert_once q [] = q ∷ []
insert_once q (x ∷ xs) = match_ordering (bytes_cmp q x) (q ∷ x ∷ xs) (x ∷ xs) (x ∷ insert_once q xs)

-- the queues with that of the binding, where the routing key goes to it
abbrev pub with_bound_queue : Bytes → Option Binding → List Bytes → List Bytes
with_bound_queue r None qs = qs
with_bound_queue r (Some b) qs = if binds r b then insert_once b.queue qs else qs

-- the queues of the members that the routing key goes to, distinct, in byte order
abbrev pub lookup : Bytes → List Bytes → List Bytes
lookup r [] = []
lookup r (m ∷ ms) = with_bound_queue r (binding_of m) (lookup r ms)

-- the queues of an exchange's message; with the empty exchange the one queue is the routing key, where it is a lawful name
abbrev pub queues_for : Bytes → Bytes → List Bytes → List Bytes
queues_for [] r ms = if is_name r then r ∷ [] else []
queues_for (e ∷ es) r ms = lookup r ms

-- their keys at a step
abbrev pub route_keys : Layout → ℕ → Bytes → Bytes → List Bytes → List Bytes
route_keys l s e r ms = keys_at l s (queues_for e r ms)
