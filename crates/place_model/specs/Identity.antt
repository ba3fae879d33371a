-- Where the envelopes of a tag come from, and what it is that a tag stands nowhere.
use Rattle.std.specs.Prelude.{◌≡◌, ◌⊎◌, ℕ, ℤ, true, false, List, [], ◌∷◌, Option, None, Some, option_map, if◌then◌else◌}
use Rattle.std.specs.FinMap.{get}
use Rattle.wire_values.specs.declared.value.Value.{Value}
use Rattle.store_model.specs.Words.{command_of}
use Rattle.store_model.specs.Keys.{Keys}
use Rattle.store_model.specs.declared.command.Command.{Command}
use Rattle.store_model.specs.declared.command.Command.TheVariants.{Brpop, Exec, Lpush}
use Rattle.queue_keys.specs.Names.{Bytes}
use Rattle.queue_keys.specs.QueueKeys.{Among}
use Rattle.command_blocks.specs.Answers.{number_of, pair_of}
use Rattle.command_blocks.specs.Setting.{Setting, is_queue}
use Rattle.command_blocks.specs.Calls.{Call}
use Rattle.place_model.specs.Histories.{History, SystemState, Client, after}
use Rattle.place_model.specs.Counts.{copy_count, direct_pushes, table_entry, is_field, is_member, place_count, start_count}
use Rattle.place_model.specs.Starts.{elements_at}

-- an envelope with this tag, which is b but for its two marks, stands in the list of a queue or in the table
pub data HasEnvelope (σ : Setting) (m : Keys) (t b : Bytes) : Type 0 where
  In_a_list : (k v : Bytes) → is_queue σ k ≡ true → Among v (elements_at m k) → σ.tag_of v ≡ Some t → σ.body_of v ≡ b → HasEnvelope σ m t b
  In_the_table : (u : Bytes) → table_entry σ m t ≡ Some u → σ.body_in u ≡ b → HasEnvelope σ m t b

-- what is in hand, an envelope with its tag, after a key and an element were popped, if they were; a key that is no queue's changes nothing
abbrev pub held_from : Setting → Option (Bytes × Bytes) → Option (Bytes × Bytes) → Option (Bytes × Bytes)
held_from σ old None = old
held_from σ old (Some p) = if is_queue σ p.0 then option_map (λ t. (t, p.1)) (σ.tag_of p.1) else old

-- the same after a call
abbrev pub held_by : Setting → Option (Bytes × Bytes) → Command → Value → Option (Bytes × Bytes)
held_by σ old Exec r = None
held_by σ old (Brpop ks) r = held_from σ old (pair_of r)
held_by σ old other r = old

-- and after further calls
abbrev pub held_after : Setting → Option (Bytes × Bytes) → List Call → Option (Bytes × Bytes)
held_after σ old [] = old
held_after σ old (x ∷ xs) = held_after σ (held_by σ old (command_of x.words) x.answer) xs

-- a client has it in hand, or had it when it was stopped: its last BRPOP that named a queue gave an envelope with this tag, which is b but for its two marks, and no EXEC came since
pub record HoldsEnvelope (σ : Setting) (w : SystemState) (t b : Bytes) : Type 0 where
  pub connection : ℕ
  pub client : Client
  pub known : get w.clients connection ≡ Some client
  pub envelope : Bytes
  pub in_hand : held_after σ None client.calls ≡ Some (t, envelope)
  pub body : σ.body_of envelope ≡ b

-- it stands in the list of a queue, in the table or in a hand, that of a stopped client too
abbrev pub HasAnywhere : Setting → SystemState → Bytes → Bytes → Type 0
HasAnywhere σ w t b = HasEnvelope σ w.store.keys t b ⊎ HoldsEnvelope σ w t b

-- the call published it
pub record IsPush (σ : Setting) (t b : Bytes) (command : Command) (answer : Value) : Type 0 where
  pub key : Bytes
  pub bytes : Bytes
  pub size : ℤ
  pub pushes : command ≡ Lpush key (bytes ∷ [])
  pub answered : number_of answer ≡ Some size
  pub queue : is_queue σ key ≡ true
  pub tag : σ.tag_of bytes ≡ Some t
  pub body : σ.body_of bytes ≡ b

-- one of the calls published it
abbrev pub PushedIn : Setting → Bytes → Bytes → List Call → Type 0
PushedIn σ t b [] = ⊥
PushedIn σ t b (x ∷ xs) = IsPush σ t b (command_of x.words) x.answer ⊎ PushedIn σ t b xs

-- a client published it
abbrev pub IsPublished : Setting → SystemState → Bytes → Bytes → Type 0
IsPublished σ w t b = (c : ℕ) × (cl : Client) × (get w.clients c ≡ Some cl) × PushedIn σ t b cl.calls

-- it stood in the start, or a client published it
abbrev pub HasOrigin : {N : Type 0} → Setting → History N → Bytes → Bytes → Type 0
HasOrigin σ h t b = HasEnvelope σ h.start t b ⊎ IsPublished σ (after h) t b

-- a tag stands nowhere: nobody published it, no list, no table, no index and no start has it, it is in no hand, and no transaction ended or copied it
pub record IsNowhere {N : Type 0} (σ : Setting) (h : History N) (t : Bytes) : Type 0 where
  pub unpublished : (b : Bytes) → IsPublished σ (after h) t b → ⊥
  pub not_stored : (b : Bytes) → HasEnvelope σ (after h).store.keys t b → ⊥
  pub not_in_start : (b : Bytes) → HasEnvelope σ h.start t b → ⊥
  pub no_start : start_count σ h.start t ≡ 0
  pub no_push : direct_pushes σ (after h) t ≡ 0
  pub no_field : is_field σ (after h).store.keys t ≡ false
  pub no_member : is_member σ (after h).store.keys t ≡ false
  pub no_place : place_count σ (after h) t ≡ 0
  pub no_copy : copy_count σ (after h) t ≡ 0
