-- What a walk over a history keeps of its clients, by the numbers of tags.
use Rattle.std.specs.Prelude.{ℕ, Bool, if◌then◌else◌, List, [], ◌∷◌, ◌++◌, map, Option, None}
use Rattle.command_blocks.specs.Setting.{Setting}
use Rattle.place_model.specs.Histories.{Client}
use Rattle.place_model.specs.Seen.{seen}
use Rattle.message_acts.specs.Acts.{act_of}
use Rattle.message_acts.specs.Numbers.{listed, number_told}
use Rattle.place_walk.specs.declared.seat.ClientSeat.{ClientSeat}

-- what is kept of a client: the message in its hand, what its commands since MULTI do, and whether it is gone
abbrev pub seat_of : Setting → Client → ClientSeat
seat_of σ cl = record { hand = number_told (seen σ cl.calls).hand; acts = map (act_of σ) (seen σ cl.calls).since; stopped = cl.stopped }

-- the message in the hand of a client that is gone, or of one that isn't
abbrev pub hand_if : Bool → ClientSeat → Option ℕ
hand_if gone seat = if seat.stopped then (if gone then seat.hand else None) else (if gone then None else seat.hand)

-- the messages in the hands of clients that are gone, or that aren't, in the order of connections
abbrev pub hands : Bool → List (ℕ × ClientSeat) → List (ℕ × ℕ)
hands gone [] = []
hands gone (e ∷ es) = map (λ n. (n, e.0)) (listed (hand_if gone e.1)) ++ hands gone es
