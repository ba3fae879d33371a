-- What a pass reads, and what becomes of it.
use Rattle.std.specs.Prelude.{nat_le, ◌-◌, pos, negsuc, if◌then◌else◌, ◌≡◌, ℕ, ◌+◌, ℤ, List, [], ◌∷◌, ◌++◌, Option, Some, ◌<◌, ◌^◌, length}
use Rattle.store_model.specs.Keys.{value_at}
use Rattle.store_model.specs.Store.{settled}
use Rattle.store_model.specs.Replies.{bulks, done}
use Rattle.store_model.specs.SortedSets.{ranks}
use Rattle.store_model.specs.declared.reply.Reply.{Reply}
use Rattle.store_model.specs.declared.held.Stored.{Stored}
use Rattle.store_model.specs.declared.held.Stored.TheVariants.{Scores}
use Rattle.queue_keys.specs.Names.{Bytes}
use Rattle.command_blocks.specs.Setting.{Setting}
use Rattle.command_blocks.specs.ReturnBlocks.{ReturnEnd, Moved, Gone, Stayed}
use Rattle.command_blocks.specs.PassBlocks.{Done, IsRelease, IsReturns, due_words, lock_words, tags_among}
use Rattle.place_model.specs.Histories.{SystemState, History, IsHistoryPrefix, after, and_then, calls_of}
use Rattle.place_model.specs.declared.history.Entry.TheVariants.{Call as Called}
use Rattle.command_blocks.specs.Calls.{Call, call}

-- the members with scores between these bounds of what stands at a key, the highest first
abbrev pub ranks_of : ℤ → ℤ → ℕ → ℕ → Option Stored → List Bytes
ranks_of high low skip most (Some (Scores h)) = ranks high low skip most h
ranks_of high low skip most other = []

-- what was read at this moment are the members of the index with these scores, the highest first, and each of them is a tag
pub record ReadsTags (σ : Setting) (w : SystemState) (at : ℕ) (high low : ℤ) (skip most : ℕ) (ms : List Bytes) : Type 0 where
  pub members : ms ≡ ranks_of high low skip most (value_at (settled w.store at).keys σ.index)
  pub tags : tags_among σ ms ≡ ms

-- a number less another
abbrev pub less : ℕ → ℕ → ℤ
less a b = if nat_le b a then pos (a - b) else negsuc (b - a - 1)

-- of the messages of the table that were taken at least v seconds before this moment the ten youngest, the youngest first
abbrev pub due_members : Setting → SystemState → ℕ → ℕ → List Bytes
due_members σ w at v = ranks_of (less at v) (pos 0) 0 10 (value_at (settled w.store at).keys σ.index)

-- how many returns moved their message
abbrev pub moved_count : List ReturnEnd → ℕ
moved_count [] = 0
moved_count (Moved ∷ ends) = 1 + moved_count ends
moved_count (other ∷ ends) = moved_count ends

-- how many returns found nothing
abbrev pub gone_count : List ReturnEnd → ℕ
gone_count [] = 0
gone_count (Gone ∷ ends) = 1 + gone_count ends
gone_count (other ∷ ends) = gone_count ends

-- how many returns left the message where it was
abbrev pub stayed_count : List ReturnEnd → ℕ
stayed_count [] = 0
stayed_count (Stayed ∷ ends) = 1 + stayed_count ends
stayed_count (other ∷ ends) = stayed_count ends

-- the calls came before the moment 2 ^ 63, so that their moments are integers of 64 bits
abbrev pub AreEarly : List Call → Type 0
AreEarly [] = Unit {0}
AreEarly (x ∷ xs) = (x.at < 2 ^ 63) × AreEarly xs

-- what a pass of connection c did, whose calls are l and came after the calls `earlier` of that connection: its range call came after a prefix of the history and was answered the messages that were due there; its returns are those of these messages, in their order, with these ends; and the three counts of its ends are all that it read
pub record AccountsForAll {N : Type 0} (σ : Setting) (h : History N) (c v : ℕ) (token : Bytes) (ends : List ReturnEnd) (earlier l : List Call) : Type 0 where
  pub before : History N
  pub locked : ℕ
  pub at : ℕ
  pub reply : Reply
  pub is_before : IsHistoryPrefix (and_then before (Called c at (due_words σ at v) reply ∷ [])) h
  pub its_own : calls_of c before.entries ≡ earlier ++ call locked (lock_words σ token) done ∷ []
  pub members : List Bytes
  pub answered : reply.answer ≡ bulks members
  pub due : members ≡ due_members σ (after before) at v
  pub returns : List Call
  pub release : List Call
  pub calls : l ≡ call locked (lock_words σ token) done ∷ call at (due_words σ at v) (bulks members) ∷ returns ++ release
  pub in_order : IsReturns σ members (Done ends) returns
  pub released : IsRelease σ token release
  pub counted : moved_count ends + gone_count ends + stayed_count ends ≡ length members
