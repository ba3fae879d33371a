-- The names of queues.
use Rattle.std.specs.Prelude.{ℕ, Bool, true, false, ◌&&◌, ◌||◌, ◌==◌, not, nat_lt, if◌then◌else◌, List, [], ◌∷◌, length, reverse, codes, bytes_eq}

-- a text, as its bytes
abbrev pub Bytes : Type 0
Bytes = List ℕ

-- whether two texts are the same
unfoldable pub same : Bytes → Bytes → Bool
same a b = bytes_eq a b

-- whether the second text begins with the first
abbrev pub has_front : Bytes → Bytes → Bool
has_front [] k = true
has_front (p ∷ ps) [] = false
has_front (p ∷ ps) (b ∷ bs) = if p == b then has_front ps bs else false

-- whether the second text ends with the first
abbrev pub has_end : Bytes → Bytes → Bool
has_end w k = has_front (reverse w) (reverse k)

-- whether it is none of the two bytes that part the texts of a binding, 06 and 16 (hexadecimal)
abbrev pub is_free : ℕ → Bool
is_free b = not (b == 6) && not (b == 22)

-- whether none of the bytes parts texts
abbrev pub all_free : Bytes → Bool
all_free [] = true
all_free (b ∷ bs) = is_free b && all_free bs

-- the table of messages that are taken and not acknowledged yet (Kombu's Redis transport)
abbrev pub unacked_name : Bytes
unacked_name = codes "unacked"

-- its index, by the moments at which the messages were taken
abbrev pub index_name : Bytes
index_name = codes "unacked_index"

-- what a client holds while it restores messages
abbrev pub mutex_name : Bytes
mutex_name = codes "unacked_mutex"

-- what the key of an exchange's bindings begins with
abbrev pub binding_front : Bytes
binding_front = codes "_kombu.binding."

-- what the key of a kept result begins with (Celery's result backend)
abbrev pub result_front : Bytes
result_front = codes "celery-task-meta-"

-- what the key of a list of control replies ends with (Kombu's pidbox)
abbrev pub reply_end : Bytes
reply_end = codes ".reply.celery.pidbox"

-- whether the name is kept for another key
abbrev pub is_reserved : Bytes → Bool
is_reserved q = same unacked_name q || same index_name q || same mutex_name q || has_front binding_front q || has_front result_front q || has_end reply_end q

-- whether it has 1 to 255 bytes
abbrev pub has_length : Bytes → Bool
has_length [] = false
has_length (b ∷ bs) = nat_lt (length bs) 255

-- whether it is a lawful name of a queue: not reserved, of 1 to 255 bytes, none of which parts texts
abbrev pub is_name : Bytes → Bool
is_name q = if is_reserved q then false else all_free q && has_length q
