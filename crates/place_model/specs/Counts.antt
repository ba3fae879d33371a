-- The five counts of a message's places.
use Rattle.std.specs.Prelude.{◌≡◌, ℕ, ℤ, suc, zero, ◌+◌, ◌≤◌, Bool, false, ◌&&◌, List, [], ◌∷◌, is_some, Option, None, Some, if◌then◌else◌}
use Rattle.std.specs.FinMap.{get, entries}
use Rattle.store_model.specs.Keys.{Keys, value_at}
use Rattle.store_model.specs.declared.held.Held.{Held}
use Rattle.store_model.specs.declared.held.Stored.{Stored}
use Rattle.store_model.specs.declared.held.Stored.TheVariants.{Items, Hash, Scores}
use Rattle.queue_keys.specs.Names.{Bytes, same}
use Rattle.command_blocks.specs.Setting.{Setting, is_queue}
use Rattle.place_model.specs.Histories.{History, Client, SystemState, after}
use Rattle.place_model.specs.Seen.{Ran, seen, tag_weight, deletes, queued_pushes}

-- how often the tag is among them
abbrev pub count : Bytes → List Bytes → ℕ
count t [] = 0
count t (x ∷ xs) = (if same x t then 1 else 0) + count t xs

-- the sum of f over a list
abbrev pub sum_of : {A : Type 0} → (A → ℕ) → List A → ℕ
sum_of f [] = 0
sum_of f (x ∷ xs) = f x + sum_of f xs

-- the sum of f over the entries of a map
abbrev pub total : {K X : Type 0} → (K → X → ℕ) → List (K × X) → ℕ
total f [] = 0
total f (e ∷ es) = f e.0 e.1 + total f es

-- the sum of f over the clients
abbrev pub over_clients : SystemState → (ℕ → Client → ℕ) → ℕ
over_clients w f = total f (entries w.clients)

-- ---- lists

-- how many of the elements are messages of t
abbrev pub tagged : Setting → Bytes → List Bytes → ℕ
tagged σ t [] = 0
tagged σ t (x ∷ xs) = tag_weight t (σ.tag_of x) + tagged σ t xs

-- how many messages of t a value holds
abbrev pub in_value : Setting → Bytes → Stored → ℕ
in_value σ t (Items xs) = tagged σ t xs
in_value σ t other = 0

-- how many messages of t what is held under a key has, where the key is a queue's
abbrev pub in_held : Setting → Bytes → Bytes → Held → ℕ
in_held σ t k h = if is_queue σ k then in_value σ t h.value else 0

-- how many messages of t stand in the lists of queues
abbrev pub list_count : Setting → Keys → Bytes → ℕ
list_count σ m t = total (in_held σ t) (entries m)

-- ---- the table

-- the field of a hash
abbrev pub field_of : Option Stored → Bytes → Option Bytes
field_of (Some (Hash h)) t = get h t
field_of other t = None

-- whether a hash has the field
abbrev pub has_field : Option Stored → Bytes → Bool
has_field o t = is_some (field_of o t)

-- whether a sorted set has the member
abbrev pub has_member : Option Stored → Bytes → Bool
has_member (Some (Scores h)) t = is_some (get h t)
has_member other t = false

-- the score of a member of a sorted set
abbrev pub score_of : Option Stored → Bytes → Option ℤ
score_of (Some (Scores h)) t = get h t
score_of other t = None

-- what the table has of a tag
abbrev pub table_entry : Setting → Keys → Bytes → Option Bytes
table_entry σ m t = field_of (value_at m σ.unacked) t

-- whether t is in the table
abbrev pub is_field : Setting → Keys → Bytes → Bool
is_field σ m t = has_field (value_at m σ.unacked) t

-- whether t is in the table's index
abbrev pub is_member : Setting → Keys → Bytes → Bool
is_member σ m t = has_member (value_at m σ.index) t

-- the score of a tag in the table's index
abbrev pub score_at : Setting → Keys → Bytes → Option ℤ
score_at σ m t = score_of (value_at m σ.index) t

-- 1 where t is in the table and in its index
abbrev pub table_count : Setting → Keys → Bytes → ℕ
table_count σ m t = if is_field σ m t && is_member σ m t then 1 else 0

-- ---- clients

-- 1 where a client that isn't stopped has t in hand
abbrev pub hand_weight : Setting → Bytes → ℕ → Client → ℕ
hand_weight σ t c cl = if cl.stopped then 0 else tag_weight t (seen σ cl.calls).hand

-- 1 where a stopped client had t in hand
abbrev pub loss_weight : Setting → Bytes → ℕ → Client → ℕ
loss_weight σ t c cl = if cl.stopped then tag_weight t (seen σ cl.calls).hand else 0

-- 1 for 0, else 0
abbrev pub one_if_none : ℕ → ℕ
one_if_none zero = 1
one_if_none (suc n) = 0

-- 1 for 2 and more, else 0
abbrev pub one_if_more : ℕ → ℕ
one_if_more zero = 0
one_if_more (suc zero) = 0
one_if_more (suc (suc n)) = 1

-- 1 where a transaction took t out of the table and pushed it nowhere
abbrev pub end_one : Setting → Bytes → Ran → ℕ
end_one σ t r = if deletes σ t r.commands r.answers then one_if_none (queued_pushes σ t r.commands) else 0

-- 1 where a transaction pushed t more than once
abbrev pub copy_one : Setting → Bytes → Ran → ℕ
copy_one σ t r = one_if_more (queued_pushes σ t r.commands)

-- how many of a client's transactions ended t
abbrev pub end_weight : Setting → Bytes → ℕ → Client → ℕ
end_weight σ t c cl = sum_of (end_one σ t) (seen σ cl.calls).ran

-- how many of a client's transactions copied t
abbrev pub copy_weight : Setting → Bytes → ℕ → Client → ℕ
copy_weight σ t c cl = sum_of (copy_one σ t) (seen σ cl.calls).ran

-- how many direct pushes of t a client made
abbrev pub push_weight : Setting → Bytes → ℕ → Client → ℕ
push_weight σ t c cl = count t (seen σ cl.calls).pushes

-- how many clients have t in hand
abbrev pub hand_count : Setting → SystemState → Bytes → ℕ
hand_count σ w t = over_clients w (hand_weight σ t)

-- how many stopped clients had t in hand
abbrev pub loss_count : Setting → SystemState → Bytes → ℕ
loss_count σ w t = over_clients w (loss_weight σ t)

-- how many transactions ended t
abbrev pub end_count : Setting → SystemState → Bytes → ℕ
end_count σ w t = over_clients w (end_weight σ t)

-- how many transactions pushed t more than once
abbrev pub copy_count : Setting → SystemState → Bytes → ℕ
copy_count σ w t = over_clients w (copy_weight σ t)

-- how many direct pushes of t there are
abbrev pub direct_pushes : Setting → SystemState → Bytes → ℕ
direct_pushes σ w t = over_clients w (push_weight σ t)

-- the five counts together
abbrev pub place_count : Setting → SystemState → Bytes → ℕ
place_count σ w t = list_count σ w.store.keys t + table_count σ w.store.keys t + hand_count σ w t + loss_count σ w t + end_count σ w t

-- ---- accepted, single and placed

-- how often t stands in the keys that a history begins with
abbrev pub start_count : Setting → Keys → Bytes → ℕ
start_count σ m t = list_count σ m t + (if is_field σ m t then 1 else 0)

-- t stood in the start, or was pushed directly
abbrev pub IsAccepted : {N : Type 0} → Setting → History N → Bytes → Type 0
IsAccepted σ h t = 1 ≤ start_count σ h.start t + direct_pushes σ (after h) t

-- t was pushed directly at most once, not at all where it stood in the start, and no transaction pushed it twice
abbrev pub IsSingle : {N : Type 0} → Setting → History N → Bytes → Type 0
IsSingle σ h t = (start_count σ h.start t + direct_pushes σ (after h) t ≤ 1) × (copy_count σ (after h) t ≡ 0)

-- t is in one place, and a field of the table just where it is a member of the index
abbrev pub IsPlacedIn : Setting → SystemState → Bytes → Type 0
IsPlacedIn σ w t = (place_count σ w t ≡ 1) × (is_field σ w.store.keys t ≡ is_member σ w.store.keys t)

-- the same after a history
abbrev pub IsPlaced : {N : Type 0} → Setting → History N → Bytes → Type 0
IsPlaced σ h t = IsPlacedIn σ (after h) t
