-- What a walk over a history gathered of its messages, by the numbers of their tags: it is what is counted after the history.
use Rattle.std.specs.Prelude.{◌≡◌, ℕ, zero, suc, ◌<◌, ◌^◌, Bool, true, false, List, [], ◌∷◌, map, Some, option_map}
use Rattle.std.specs.List.{flat_map}
use Rattle.std.specs.FinMap.{get}
use Rattle.delivery_tags.specs.Tags.{tag_of_text, tag_text}
use Rattle.command_blocks.specs.EnvelopeTexts.{plain_setting}
use Rattle.place_model.specs.Accepted.{accepted_by}
use Rattle.place_model.specs.Counts.{copy_count, direct_pushes, end_count}
use Rattle.place_model.specs.Histories.{History, after}
use Rattle.place_model.specs.declared.heard.Heard.{Heard}
use Rattle.message_acts.specs.Numbers.{has, times}
use Rattle.place_walk.specs.Seats.{seat_of}
use Rattle.place_walk.specs.declared.walk.HistoryWalk.{HistoryWalk}

-- whether a number is above 0
abbrev pub positive : ℕ → Bool
positive zero = false
positive (suc n) = true

-- each of the numbers is read off the text of its tag
abbrev pub AreTagNumbers : List ℕ → Type 0
AreTagNumbers [] = Unit {0}
AreTagNumbers (n ∷ ns) = (tag_of_text (tag_text n) ≡ Some n) × AreTagNumbers ns

-- of each client what it has in hand and what its commands since MULTI do; of each message that was pushed directly its number, in order; and how often the clients of the table pushed a message directly, and whether they ended or copied it
pub record IsWalkOf (h : History Heard) (w : HistoryWalk) : Type 0 where
  pub seats : (c : ℕ) → get w.seats c ≡ option_map (seat_of plain_setting) (get (after h).clients c)
  pub numbers : AreTagNumbers w.accepted
  pub accepted : map tag_text w.accepted ≡ flat_map (accepted_by plain_setting) h.entries
  pub pushes : (t : ℕ) → t < 2 ^ 128 → times t w.pushes ≡ direct_pushes plain_setting (after h) (tag_text t)
  pub ended : (t : ℕ) → t < 2 ^ 128 → has t w.ended ≡ positive (end_count plain_setting (after h) (tag_text t))
  pub copied : (t : ℕ) → t < 2 ^ 128 → has t w.copied ≡ positive (copy_count plain_setting (after h) (tag_text t))
