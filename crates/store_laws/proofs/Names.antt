-- The keys that the places of messages are read from.
use Rattle.std.proofs.Common.{◌≡◌, ℕ, Bool, false}
use Rattle.std.specs.Prelude.{bytes_eq}
use Rattle.store_model.specs.Words.{Bytes}

-- the keys of queues, the table and its index, all apart, and how much an element of a list counts for a tag
pub record Names : Type 0 where
  pub is_queue : Bytes → Bool
  pub unacked : Bytes
  pub index : Bytes
  pub weigh : Bytes → Bytes → ℕ
  pub unacked_not : is_queue unacked ≡ false
  pub index_not : is_queue index ≡ false
  pub apart : bytes_eq unacked index ≡ false
