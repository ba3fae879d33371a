-- What answers bring to a publication. Serves the proofs of code.
use Rattle.std.specs.Prelude.{◌≡◌, ℕ, ◌+◌, ℤ, List, [], length, Option, None, Some}
use Rattle.command_blocks.specs.Answers.{number_of}
use Rattle.command_blocks.specs.Scripts.{texts_of}
use Rattle.delivery_tags.specs.declared.tag.Tag.{Tag}
use Rattle.envelope.specs.Envelopes.{Parts, parts_in}
use Rattle.queue_keys.specs.Lookup.{queues_for}
use Rattle.queue_keys.specs.Names.{Bytes}
use Rattle.routes.specs.declared.brought.Brought.{Brought}
use Rattle.routes.specs.declared.brought.Brought.TheVariants as brought
use Rattle.routes.specs.declared.publish.PublishEnd.{PublishEnd}
use Rattle.routes.specs.declared.publish.PublishEnd.TheVariants.{Sent, NoQueue}
use Rattle.routes.specs.declared.route.Publishing.{Publishing}
use Rattle.routes.specs.declared.route.Publishing.TheVariants.{Direct, Asking, Pushing}
use Rattle.routes.specs.declared.route.Route.{Route}
use Rattle.serde_json.specs.Data.{Data}
use Rattle.wire_values.specs.declared.value.Value.{Value}

-- the push on the empty exchange, by the integer that its answer tells: the message of this tag went to one queue
abbrev pub direct_by : Tag → Option ℤ → Brought
direct_by tag None = brought.Refused
direct_by tag (Some z) = brought.Over (Sent tag 1)

-- the message of this tag ends without a queue, where none was found
abbrev pub IsUnrouted : ℕ → List Bytes → PublishEnd → Type 0
IsUnrouted tag queues (Sent t count) = ⊥
IsUnrouted tag queues (NoQueue t) = (t.0 ≡ tag) × (queues ≡ [])

-- by the queues that were found: it is pushed to the first, where there is one
abbrev pub IsRouted : ℕ → List Bytes → Brought → Type 0
IsRouted tag queues (brought.Next route) = (route.queues ≡ queues) × (route.place ≡ 0)
IsRouted tag queues (brought.Over end) = IsUnrouted tag queues end
IsRouted tag queues brought.Refused = ⊥

-- by the members of the exchange's bindings, where the answer tells some
abbrev pub IsAsked : Parts → Option (List Bytes) → Brought → Type 0
IsAsked p None h = h ≡ brought.Refused
IsAsked p (Some ms) h = IsRouted p.tag (queues_for p.exchange p.routing_key ms) h

-- the message of this tag went to all the queues
abbrev pub IsSentTo : ℕ → Route → PublishEnd → Type 0
IsSentTo tag route (Sent t count) = (t.0 ≡ tag) × (count ≡ length route.queues) × (count ≡ route.place + 1)
IsSentTo tag route (NoQueue t) = ⊥

-- it is pushed to the next queue, or there is none left
abbrev pub IsFurther : ℕ → Route → Brought → Type 0
IsFurther tag old (brought.Next new) = (new.queues ≡ old.queues) × (new.place ≡ old.place + 1)
IsFurther tag old (brought.Over end) = IsSentTo tag old end
IsFurther tag old brought.Refused = ⊥

-- by the integer that the answer to a push tells
abbrev pub IsPushed : ℕ → Route → Option ℤ → Brought → Type 0
IsPushed tag route None h = h ≡ brought.Refused
IsPushed tag route (Some z) h = IsFurther tag route h

-- the push on the empty exchange brings this under the tag of a tree
abbrev pub IsDirect : ℕ → Option ℤ → Brought → Type 0
IsDirect n o h = (t : Tag) × (t.0 ≡ n) × (h ≡ direct_by t o)

-- what an answer to the next command brings
abbrev pub IsBrought : Data → Publishing → Value → Brought → Type 0
IsBrought d Direct r h = IsDirect (parts_in d).tag (number_of r) h
IsBrought d Asking r h = IsAsked (parts_in d) (texts_of r) h
IsBrought d (Pushing route) r h = IsPushed (parts_in d).tag route (number_of r) h
