-- A setting with what the proofs rest on, and the keys of messages as the laws of the store take them.
use Rattle.std.proofs.Common.{List, Some, arith, bytes_eq, false, ◌≡◌}
use Rattle.std.proofs.lemmas.Bool.Decides.{nat_tests}
use Rattle.store_model.specs.Keys.{Keys, is_long}
use Rattle.store_laws.proofs.Changes.{Kinds as StoreKinds}
use Rattle.store_laws.proofs.Names.{Names}
use Rattle.place_model.specs.Counts.{is_field, is_member}
use Rattle.queue_keys.specs.Names.{Bytes, same}
use Rattle.queue_keys.specs.QueueKeys.{Each}
use Rattle.place_model.specs.Seen.{tag_weight}
use Rattle.command_blocks.specs.Setting.{IsLawful, Setting, is_queue}

-- a setting, and that it is lawful
pub record Full : Type 0 where
  pub names : Setting
  pub laws : IsLawful names

-- the table and its index have different keys
pub tables_apart : (σ : Full) → bytes_eq σ.names.unacked σ.names.index ≡ false
unfolding same
tables_apart σ = σ.laws.apart

-- the keys of messages
abbrev pub keys_of : Full → Names
keys_of σ = record {
  is_queue = is_queue σ.names;
  unacked = σ.names.unacked;
  index = σ.names.index;
  weigh = λ t v. tag_weight t (σ.names.tag_of v);
  unacked_not = σ.laws.unacked_not;
  index_not = σ.laws.index_not;
  apart = tables_apart σ;
}

-- what each of these keys holds, and that it lasts
abbrev pub Kinds : Full → Keys → Type 0
Kinds σ m = StoreKinds (keys_of σ) m

-- the table and its index have the same tags
abbrev pub Alike : Full → Keys → Type 0
Alike σ m = (t : Bytes) → is_field σ.names m t ≡ is_member σ.names m t

-- all of them are keys of queues
abbrev pub QueueKeys : Full → List Bytes → Type 0
QueueKeys σ ks = Each (is_queue σ.names) ks

-- a tag's text is short enough for the table and its index
pub tag_short : (σ : Full) (v t : Bytes) → σ.names.tag_of v ≡ Some t → is_long t ≡ false
tag_short σ v t tag = grind (arith, nat_tests, σ.laws.tag_short t (σ.laws.tag_text v t tag))
