-- The one place of a message, as it is reported.
use Rattle.std.specs.Prelude.{◌≡◌, ◌⊎◌, ℕ, suc, zero, ◌+◌, List, [], ◌∷◌, Option, None, Some}
use Rattle.std.specs.FinMap.{entries}
use Rattle.queue_keys.specs.Names.{Bytes}
use Rattle.command_blocks.specs.Setting.{Setting}
use Rattle.place_model.specs.Histories.{History, SystemState, and_then, after}
use Rattle.place_model.specs.Counts.{in_held, table_count, hand_weight, loss_weight, end_count, direct_pushes, copy_count, start_count}
use Rattle.place_model.specs.declared.history.Entry.TheVariants.{Stop}
use Rattle.place_model.specs.declared.place.Place.{Place}
use Rattle.place_model.specs.declared.place.Place.TheVariants.{List as InList, Unacked, Hand, Ended, Lost, Copies, Never}

-- this key where its weight is above 0, else what comes later
abbrev pub pick : {K : Type 0} → ℕ → K → Option K → Option K
pick zero k later = later
pick (suc n) k later = Some k

-- the least key with a weight above 0
abbrev pub first_with : {K X : Type 0} → (K → X → ℕ) → List (K × X) → Option K
first_with f [] = None
first_with f (e ∷ es) = pick (f e.0 e.1) e.0 (first_with f es)

-- the place of a key that was found, else what comes later
abbrev pub or_place : {K : Type 0} → (K → Place) → Option K → Place → Place
or_place f None later = later
or_place f (Some k) later = f k

-- the place where the count is above 0, else what comes later
abbrev pub if_any : ℕ → Place → Place → Place
if_any zero here later = later
if_any (suc n) here later = here

-- the place of a queue and a step
abbrev pub list_place : Option (Bytes × ℕ) → Place
list_place None = Never
list_place (Some p) = InList p.0 p.1

-- the first that holds: the list of the least key that has it, the table, the hand of the least client, ended, or lost with the least stopped client
abbrev pub first_place : Setting → SystemState → Bytes → Place
first_place σ w t =
    or_place (λ k. list_place (σ.split k)) (first_with (in_held σ t) (entries w.store.keys))
    (if_any (table_count σ w.store.keys t) Unacked
    (or_place Hand (first_with (hand_weight σ t) (entries w.clients))
    (if_any (end_count σ w t) Ended
    (or_place Lost (first_with (loss_weight σ t) (entries w.clients)) Never))))

-- by how often the tag was accepted, and how often it was copied
abbrev pub by_counts : ℕ → ℕ → Place → Place
by_counts zero copied p = Never
by_counts (suc zero) zero p = p
by_counts (suc zero) (suc n) p = Copies
by_counts (suc (suc n)) copied p = Copies

-- the place of a tag after a history
abbrev pub place_of : {N : Type 0} → Setting → History N → Bytes → Place
place_of σ h t = by_counts (start_count σ h.start t + direct_pushes σ (after h) t) (copy_count σ (after h) t) (first_place σ (after h) t)

-- a stop of connection c after the history alters no key, and moves one message at most: the one in that client's hand, which is lost with it
abbrev pub StopMoves : {N : Type 0} → Setting → History N → ℕ → Type 0
StopMoves σ p c =
    ((after (and_then p (Stop c ∷ []))).store.keys ≡ (after p).store.keys)
    × ((hand : Option Bytes) × ((t : Bytes) → (place_of σ (and_then p (Stop c ∷ [])) t ≡ place_of σ p t)
    ⊎ ((hand ≡ Some t) × (place_of σ p t ≡ Hand c) × (place_of σ (and_then p (Stop c ∷ [])) t ≡ Lost c))))
