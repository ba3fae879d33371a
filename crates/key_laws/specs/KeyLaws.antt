-- What holds of keys, lookups and tokens.
use Rattle.std.specs.Prelude.{length, ◌*◌, ◌≡◌, ℕ, ◌^◌, ◌<◌, true, false, List, Some}
use Rattle.queue_keys.specs.Names.{Bytes, same, all_free, is_name}
use Rattle.queue_keys.specs.Layouts.{Layout, is_layout, HasStep, step_of}
use Rattle.queue_keys.specs.QueueKeys.{queue_key, unacked_key, index_key, mutex_key, binding_key, split_key, is_queue_key, is_reply_key, pop_keys, Each, Differ}
use Rattle.queue_keys.specs.Bindings.{member, binding_of}
use Rattle.queue_keys.specs.Lookup.{route_keys}
use Rattle.queue_keys.specs.Texts.{token}

-- a queue's key tells the queue and the step
abbrev pub KeyTells : Type 0
KeyTells = (l : Layout) (q : Bytes) (s : ℕ) (q' : Bytes) (s' : ℕ) → is_name q ≡ true → is_name q' ≡ true → HasStep l.steps s → HasStep l.steps s' → queue_key l q s ≡ queue_key l q' s' → (q ≡ q') × (s ≡ s')

-- the split gives them
abbrev pub SplitTells : Type 0
SplitTells = (l : Layout) (q : Bytes) (s : ℕ) → is_name q ≡ true → HasStep l.steps s → split_key l (queue_key l q s) ≡ Some (q, s)

-- and nothing else
abbrev pub OnlyKeysSplit : Type 0
OnlyKeysSplit = (l : Layout) (k q : Bytes) (s : ℕ) → split_key l k ≡ Some (q, s) → (is_name q ≡ true) × HasStep l.steps s × (k ≡ queue_key l q s)

-- the key is no queue's, and not that of the table or its index
abbrev pub IsOther : Layout → Bytes → Type 0
IsOther l k = (is_queue_key l k ≡ false) × (same (unacked_key l) k ≡ false) × (same (index_key l) k ≡ false)

-- the keys of the table, its index, the mutex, bindings and replies
abbrev pub OthersApart : Type 0
OthersApart = (l : Layout) → (is_queue_key l (unacked_key l) ≡ false) × (is_queue_key l (index_key l) ≡ false) × (same (unacked_key l) (index_key l) ≡ false)
    × IsOther l (mutex_key l) × ((e : Bytes) → IsOther l (binding_key l e)) × ((k : Bytes) → is_reply_key l k ≡ true → IsOther l k)

-- the keys of a pop are queues'
abbrev pub PopsTell : Type 0
PopsTell = (l : Layout) (qs : List Bytes) → Each is_name qs → Each (is_queue_key l) (pop_keys l qs)

-- a pop has a key for each of its queues at each step: with four steps, 1,023 queues have 4,092 keys
abbrev pub PopsCount : Type 0
PopsCount = (l : Layout) (qs : List Bytes) → length (pop_keys l qs) ≡ length l.steps * length qs

-- a priority has a step of a lawful layout
abbrev pub StepsTell : Type 0
StepsTell = (l : Layout) (p : ℕ) → is_layout l ≡ true → HasStep l.steps (step_of l p)

-- the keys of a lookup at a step are queues', and no key stands twice
abbrev pub RoutesTell : Type 0
RoutesTell = (l : Layout) (s : ℕ) (e r : Bytes) (ms : List Bytes) → HasStep l.steps s → Each (is_queue_key l) (route_keys l s e r ms) × Differ (route_keys l s e r ms)

-- a member is read as what it was made of
abbrev pub MembersTell : Type 0
MembersTell = (r x q : Bytes) → all_free r ≡ true → all_free x ≡ true → is_name q ≡ true → binding_of (member r x q) ≡ Some (record { routing_key = r; pattern = x; queue = q })

-- a token tells its seed and number
abbrev pub TokenTells : Type 0
TokenTells = (s n s' n' : ℕ) → s < 2 ^ 64 → n < 2 ^ 64 → s' < 2 ^ 64 → n' < 2 ^ 64 → token s n ≡ token s' n' → (s ≡ s') × (n ≡ n')
