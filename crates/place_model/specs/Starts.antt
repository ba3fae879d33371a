-- Sound starts, and sound histories.
use Rattle.std.specs.Prelude.{◌≡◌, ℕ, ◌≤◌, true, List, [], Option, None, Some}
use Rattle.std.specs.FinMap.{get}
use Rattle.store_model.specs.Keys.{Keys, value_at, expiry_of}
use Rattle.store_model.specs.declared.held.Stored.{Stored}
use Rattle.store_model.specs.declared.held.Stored.TheVariants.{Items, Hash, Scores}
use Rattle.queue_keys.specs.Names.{Bytes}
use Rattle.queue_keys.specs.QueueKeys.{Among}
use Rattle.command_blocks.specs.Setting.{Setting, is_queue}
use Rattle.command_blocks.specs.ReturnBlocks.{Carries}
use Rattle.command_blocks.specs.Blocks.{IsMannered}
use Rattle.place_model.specs.Histories.{History, calls_of, IsLegal, IsTable}
use Rattle.place_model.specs.Counts.{table_entry, is_field, is_member, start_count}

-- a list or nothing
abbrev pub IsListOrNone : Option Stored → Type 0
IsListOrNone None = Unit {0}
IsListOrNone (Some (Items xs)) = Unit {0}
IsListOrNone (Some other) = ⊥

-- a hash or nothing
abbrev pub IsHashOrNone : Option Stored → Type 0
IsHashOrNone None = Unit {0}
IsHashOrNone (Some (Hash h)) = Unit {0}
IsHashOrNone (Some other) = ⊥

-- a sorted set or nothing
abbrev pub IsScoresOrNone : Option Stored → Type 0
IsScoresOrNone None = Unit {0}
IsScoresOrNone (Some (Scores h)) = Unit {0}
IsScoresOrNone (Some other) = ⊥

-- the elements of a list
abbrev pub elements_of : Option Stored → List Bytes
elements_of (Some (Items xs)) = xs
elements_of other = []

-- the elements of the list under a key
abbrev pub elements_at : Keys → Bytes → List Bytes
elements_at m k = elements_of (value_at m k)

-- the keys that a history may begin with, where these seeds were used before
pub record IsSoundStart (σ : Setting) (m : Keys) (used : List ℕ) : Type 0 where
  -- a queue's key holds a list, the table is a hash, and its index a sorted set
  pub lists : (k : Bytes) → is_queue σ k ≡ true → IsListOrNone (value_at m k)
  pub table : IsHashOrNone (value_at m σ.unacked)
  pub members : IsScoresOrNone (value_at m σ.index)
  -- each element of a queue is an envelope
  pub envelopes : (k v : Bytes) → is_queue σ k ≡ true → Among v (elements_at m k) → (t : Bytes) × (σ.tag_of v ≡ Some t)
  -- the fields of the table are the members of its index; each is a tag's text, and its value is an entry of that tag
  pub alike : (t : Bytes) → is_field σ m t ≡ is_member σ m t
  pub tags : (t : Bytes) → is_field σ m t ≡ true → σ.is_tag t ≡ true
  pub carries : (t u : Bytes) → table_entry σ m t ≡ Some u → (v : Bytes) × Carries σ u t v
  -- each tag stands once in all, and its seed was used
  pub once : (t : Bytes) → start_count σ m t ≤ 1
  pub known : (t : Bytes) → 1 ≤ start_count σ m t → (s : ℕ) × (n : ℕ) × Among s used × (t ≡ σ.tag s n)
  -- no key expires
  pub lasts : (k : Bytes) → expiry_of (get m k) ≡ None

-- a history whose start is sound, whose replies are the store's, and whose clients, of different seeds, keep their manner
pub record IsSound {N : Type 0} (σ : Setting) (h : History N) : Type 0 where
  pub start : IsSoundStart σ h.start h.used
  pub table : IsTable h.clients h.used
  pub legal : IsLegal h
  pub mannered : (c s : ℕ) → Among (c, s) h.clients → IsMannered σ s (calls_of c h.entries)
