-- Soundness of what a schedule determines.
use Rattle.std.specs.Prelude.{◌≡◌, ℕ, ◌<◌, ◌≤◌, true, List, [], ◌∷◌, length, min, Option, Some}
use Rattle.store_model.specs.Limits.{moment_limit}
use Rattle.queue_keys.specs.Names.{Bytes, is_name}
use Rattle.queue_keys.specs.Layouts.{Layout, is_layout}
use Rattle.command_blocks.specs.Setting.{Setting, Texts, IsTexts, IsLawful, named_or_none, setting_of}
use Rattle.place_model.specs.Histories.{after}
use Rattle.place_model.specs.Starts.{IsSound}
use Rattle.place_model.specs.declared.history.Entry.{Entry}
use Rattle.place_model.specs.declared.history.Entry.TheVariants.{Call as Called, Heard, Stop}
use Rattle.manner_laws.specs.Cursor.{IsReadable}
use Rattle.manner_laws.specs.LayoutKeys.{TellsShortExchanges}
use Rattle.schedule_model.specs.Costs.{is_full}
use Rattle.schedule_model.specs.Desk.{ScheduleReader, first_desk}
use Rattle.schedule_model.specs.Faults.{Craft}
use Rattle.schedule_model.specs.Filled.{FilledDesk, IsLedBy, lines_read}
use Rattle.schedule_model.specs.Schedules.{Determined, Whole, Full, Bad_line, schedule_run, reader_history}

-- the envelope v, as it is written, tells what was asked: a tag's seed and counter, an exchange, and with the empty exchange one key, that of the queue k at a step
pub record IsSealed (σ : Setting) (s n : ℕ) (x k v : Bytes) : Type 0 where
  pub tag : σ.written_tag v ≡ Some (σ.tag s n)
  pub exchange : σ.exchange_of v ≡ named_or_none x
  pub key : x ≡ [] → is_name k ≡ true → (q : Bytes) × (step : ℕ) × (σ.keys_for v [] ≡ q ∷ []) × (σ.split q ≡ Some (k, step))

-- the names and texts are lawful, keys tell what they were made of, sealed envelopes tell what was asked, and as many queues as a line may name can be popped
pub record IsCraft (κ : Craft) : Type 0 where
  pub lawful : IsLawful κ.setting
  pub exchange_at : Bytes → Option Bytes
  pub readable : IsReadable κ.setting exchange_at
  pub seals : (s n : ℕ) (x k : Bytes) (p : ℕ) (t j v : Bytes) → κ.sealed s n x k p t j ≡ Some v → IsSealed κ.setting s n x k v
  pub pops : (q : Bytes) (qs : List Bytes) → length (q ∷ qs) ≤ 1023 → (k : Bytes) × (ks : List Bytes) × (κ.setting.pop_keys (q ∷ qs) ≡ k ∷ ks) × (length (k ∷ ks) ≤ 4094)

-- the moments of the calls never fall, from the first moment to the last
abbrev pub RisesTo : {N : Type 0} → ℕ → List (Entry N) → ℕ → Type 0
RisesTo m [] n = m ≤ n
RisesTo m (Called c at words reply ∷ es) n = (m ≤ at) × RisesTo at es n
RisesTo m (Heard c note ∷ es) n = RisesTo m es n
RisesTo m (Stop c ∷ es) n = RisesTo m es n

-- the history of a desk is sound and leaves the desk's store, and its moments never fall, up to a present one below 2^40
pub record IsSoundDesk (σ : Setting) (d : ScheduleReader) : Type 0 where
  pub history : IsSound σ (reader_history d)
  pub store : (after (reader_history d)).store ≡ d.store
  pub moments : RisesTo 0 d.entries d.moment
  pub present : d.moment < moment_limit

-- a whole history is sound; where one was full, the desk that the lines filled has a sound history that is full
abbrev pub IsSoundlyDetermined : Craft → List Bytes → Determined → Type 0
IsSoundlyDetermined κ ls (Whole d) = IsSoundDesk κ.setting d
IsSoundlyDetermined κ ls (Full n cost) = (f : FilledDesk κ first_desk ls n cost) × IsSoundDesk κ.setting f.desk × (is_full f.desk.entries ≡ true)
IsSoundlyDetermined κ ls (Bad_line n reason) = Unit {0}

-- what each schedule determines is sound
abbrev pub SchedulesSound : Type 0
SchedulesSound = (κ : Craft) → IsCraft κ → (bytes : Bytes) → IsSoundlyDetermined κ (lines_read bytes) (schedule_run κ bytes)

-- what a schedule determines is where its lines lead from the first desk
abbrev pub SchedulesLead : Type 0
SchedulesLead = (κ : Craft) (bytes : Bytes) → IsLedBy κ first_desk (lines_read bytes) (schedule_run κ bytes)

-- ---- crafts of layouts

-- sealed envelopes stand as they are written, tell the tag of the seed and the counter, and go where was asked, with the priority that was asked, held within 0 to 9
abbrev pub SealsTell : Texts → Craft → Type 0
SealsTell τ κ = (s n : ℕ) (x k : Bytes) (p : ℕ) (t j v : Bytes) → κ.sealed s n x k p t j ≡ Some v
    → (τ.written_tag v ≡ Some (τ.tag s n)) × (τ.way_of v ≡ Some (record { exchange = x; routing_key = k; priority = min p 9 }))

-- a lawful layout of at most four steps makes a craft, with texts that keep their facts and envelopes that tell what was asked
abbrev pub LayoutsMakeCrafts : Type 0
LayoutsMakeCrafts = (l : Layout) (τ : Texts) (κ : Craft) → is_layout l ≡ true → length l.steps ≤ 4 → κ.setting ≡ setting_of l τ → IsTexts τ → TellsShortExchanges τ → SealsTell τ κ → IsCraft κ
