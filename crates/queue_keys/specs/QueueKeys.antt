-- The keys of a layout.
use Rattle.std.specs.Prelude.{◌≡◌, ◌⊎◌, ℕ, ◌+◌, zero, suc, Bool, true, false, ◌==◌, if◌then◌else◌, List, [], ◌∷◌, ◌++◌, Option, Some, None, option_and_then, is_some}
use Rattle.queue_keys.specs.Names.{Bytes, same, has_end, is_name, unacked_name, index_name, mutex_name, binding_front, reply_end}
use Rattle.queue_keys.specs.Layouts.{Layout}

-- the key that is sent for this one
abbrev pub key : Layout → Bytes → Bytes
key l k = l.prefix ++ k

-- what follows a queue's name in its key at a step: nothing, or 06 16 (hexadecimal) and the step's digit
abbrev pub step_mark : ℕ → Bytes
step_mark zero = []
step_mark (suc s) = 6 ∷ 22 ∷ (49 + s) ∷ []

-- the key of a queue's list at a step
abbrev pub queue_key : Layout → Bytes → ℕ → Bytes
queue_key l q s = key l (q ++ step_mark s)

-- the key of the table of messages that aren't acknowledged
abbrev pub unacked_key : Layout → Bytes
unacked_key l = key l unacked_name

-- the key of the table's index
abbrev pub index_key : Layout → Bytes
index_key l = key l index_name

-- the key of the mutex
abbrev pub mutex_key : Layout → Bytes
mutex_key l = key l mutex_name

-- the key of an exchange's bindings
abbrev pub binding_key : Layout → Bytes → Bytes
binding_key l e = key l (binding_front ++ e)

-- what follows a front, where the text begins with it
abbrev pub after_front : Bytes → Bytes → Option Bytes
after_front [] k = Some k
after_front (p ∷ ps) [] = None
after_front (p ∷ ps) (b ∷ bs) = if p == b then after_front ps bs else None

-- the bytes before the first 06 (hexadecimal)
abbrev pub name_part : Bytes → Bytes
name_part [] = []
name_part (b ∷ bs) = if b == 6 then [] else b ∷ name_part bs

-- and those from there on
abbrev pub mark_part : Bytes → Bytes
mark_part [] = []
mark_part (b ∷ bs) = if b == 6 then b ∷ bs else mark_part bs

-- the first of the steps that has this mark
abbrev pub marked_step : List ℕ → Bytes → Option ℕ
marked_step [] m = None
marked_step (s ∷ ss) m = if same (step_mark s) m then Some s else marked_step ss m

-- the name with the step, where the name is lawful
abbrev pub if_name : Bytes → ℕ → Option (Bytes × ℕ)
if_name q s = if is_name q then Some (q, s) else None

-- what a key without its prefix is made of, by the steps
abbrev pub split_rest : List ℕ → Bytes → Option (Bytes × ℕ)
split_rest ss r = option_and_then (if_name (name_part r)) (marked_step ss (mark_part r))

-- the queue and the step whose key it is, if it is one
unfoldable pub split_key : Layout → Bytes → Option (Bytes × ℕ)
split_key l k = option_and_then (split_rest l.steps) (after_front l.prefix k)

-- whether it is the key of a queue at a step
abbrev pub is_queue_key : Layout → Bytes → Bool
is_queue_key l k = is_some (split_key l k)

-- whether what follows the prefix ends as the key of control replies
abbrev pub ends_as_reply : Option Bytes → Bool
ends_as_reply None = false
ends_as_reply (Some r) = has_end reply_end r

-- whether it is the key of a list of control replies
abbrev pub is_reply_key : Layout → Bytes → Bool
is_reply_key l k = ends_as_reply (after_front l.prefix k)

-- the keys of some queues at one step
abbrev pub keys_at : Layout → ℕ → List Bytes → List Bytes
keys_at l s [] = []
keys_at l s (q ∷ qs) = queue_key l q s ∷ keys_at l s qs

-- their keys at these steps
abbrev pub keys_by : Layout → List ℕ → List Bytes → List Bytes
keys_by l [] qs = []
keys_by l (s ∷ ss) qs = keys_at l s qs ++ keys_by l ss qs

-- the keys of a pop: all its queues at step 0, then all at the next step, and so on
abbrev pub pop_keys : Layout → List Bytes → List Bytes
pop_keys l qs = keys_by l l.steps qs

-- each of the texts passes the test
abbrev pub Each : (Bytes → Bool) → List Bytes → Type 0
Each p [] = Unit {0}
Each p (k ∷ ks) = (p k ≡ true) × Each p ks

-- it is none of them
abbrev pub IsAway : {A : Type 0} → A → List A → Type 0
IsAway k [] = Unit {0}
IsAway k (a ∷ ks) = (k ≡ a → ⊥) × IsAway k ks

-- none of them stands twice
abbrev pub Differ : {A : Type 0} → List A → Type 0
Differ [] = Unit {0}
Differ (k ∷ ks) = IsAway k ks × Differ ks

-- it is one of them
abbrev pub Among : {A : Type 0} → A → List A → Type 0
Among k [] = ⊥
Among k (a ∷ ks) = (k ≡ a) ⊎ Among k ks
