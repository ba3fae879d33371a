-- What is looked up of a history's messages, by the numbers of their tags. Serves the proofs of code.
use Rattle.std.specs.Prelude.{◌≡◌, ℕ, Bool, true, false, if◌then◌else◌, Option, None, Some, is_some}
use Rattle.std.specs.FinMap.{entries, get}
use Rattle.store_model.specs.Keys.{Keys}
use Rattle.command_blocks.specs.EnvelopeTexts.{plain_setting}
use Rattle.place_model.specs.Histories.{History, after}
use Rattle.place_model.specs.PlaceOf.{or_place}
use Rattle.place_model.specs.declared.heard.Heard.{Heard}
use Rattle.place_model.specs.declared.place.Place.{Place}
use Rattle.place_model.specs.declared.place.Place.TheVariants.{Unacked, Hand, Ended, Lost, Copies, Never}
use Rattle.message_acts.specs.Numbers.{times}
use Rattle.place_walk.specs.Gathered.{IsWalkOf}
use Rattle.place_walk.specs.Seats.{hands}
use Rattle.place_walk.specs.declared.walk.HistoryWalk.{HistoryWalk}
use Rattle.place_index.specs.Kept.{is_kept}
use Rattle.place_index.specs.Places.{first_of, listed_place}
use Rattle.place_index.specs.Standing.{standing_in}
use Rattle.place_index.specs.Tallies.{tally}
use Rattle.place_index.specs.declared.index.Index.{Index}
use Rattle.place_index.specs.declared.tables.MessageHands.{MessageHands}
use Rattle.place_index.specs.declared.tables.MessageTallies.{MessageTallies}
use Rattle.place_index.specs.declared.tables.WalkTables.{WalkTables}

-- of each message whether it was pushed, ended and copied, and whether more than once
pub record AreTalliesOf (w : HistoryWalk) (x : MessageTallies) : Type 0 where
  pub pushes : (t : ℕ) → get x.pushes t ≡ tally (times t w.pushes)
  pub ended : (t : ℕ) → get x.ended t ≡ tally (times t w.ended)
  pub copied : (t : ℕ) → get x.copied t ≡ tally (times t w.copied)

-- of each message the first client that has it in hand, and the first that is gone with it
pub record AreHandsOf (w : HistoryWalk) (x : MessageHands) : Type 0 where
  pub there : (t : ℕ) → get x.there t ≡ first_of t (hands false (entries w.seats))
  pub gone : (t : ℕ) → get x.gone t ≡ first_of t (hands true (entries w.seats))

-- the tables have of each message what a walk gathered of it
pub record AreTablesOf (w : HistoryWalk) (x : WalkTables) : Type 0 where
  pub accepted : x.accepted ≡ w.accepted
  pub tallies : AreTalliesOf w x.tallies
  pub hands : AreHandsOf w x.hands

-- the tables have of each message what a walk over the history gathers
abbrev pub HasTables : History Heard → WalkTables → Type 0
HasTables h x = (w : HistoryWalk) × IsWalkOf h w × AreTablesOf w x

-- the index has of each message what a history tells of it
pub record IsIndexOf (h : History Heard) (x : Index) : Type 0 where
  pub walked : HasTables h x.walked
  pub standing : (t : ℕ) → get x.standing t ≡ first_of t (standing_in plain_setting (entries (after h).store.keys))

-- by whether a message was accepted and how often, and whether it was copied
abbrev pub by_tally : Option Bool → Bool → Place → Place
by_tally None copied p = Never
by_tally (Some true) copied p = Copies
by_tally (Some false) true p = Copies
by_tally (Some false) false p = p

-- the place of a message that is in no list and not in the table
abbrev pub elsewhere_in : Index → ℕ → Place
elsewhere_in x t =
    or_place Hand (get x.walked.hands.there t)
    (if is_some (get x.walked.tallies.ended t) then Ended else
    or_place Lost (get x.walked.hands.gone t) Never)

-- the place of a message of which nothing is pushed twice
abbrev pub single_in : Index → Keys → ℕ → Place
single_in x m t =
    or_place listed_place (get x.standing t)
    (if is_kept m t then Unacked else elsewhere_in x t)

-- the place of a message, beside the keys that the history leaves
abbrev pub place_in : Index → Keys → ℕ → Place
place_in x m t = by_tally (get x.walked.tallies.pushes t) (is_some (get x.walked.tallies.copied t)) (single_in x m t)
