-- The kinds of place that a report counts. Serves the proofs of code.
use Rattle.std.specs.Prelude.{ℕ, Bool, List, ◌++◌, codes, decimal}
use Rattle.place_model.specs.declared.place.Place.{Place}
use Rattle.replay.specs.declared.place_text.PlaceKind.{PlaceKind}
use Rattle.replay.specs.declared.place_text.PlaceKind.TheVariants.{Lists, Unacked, Hands, Ended, Lost, Copies}
use Rattle.schedule_model.specs.Reports.{is_copies, is_ended, is_hand, is_list, is_lost, is_unacked}

-- whether a place is of a kind
abbrev pub is_of : PlaceKind → Place → Bool
is_of Lists = is_list
is_of Unacked = is_unacked
is_of Hands = is_hand
is_of Ended = is_ended
is_of Lost = is_lost
is_of Copies = is_copies

-- the line of how many messages there are in lists, unacked, in hands, ended, lost and copied
abbrev pub totals : ℕ → ℕ → ℕ → ℕ → ℕ → ℕ → List ℕ
totals lists unacked hands ended lost copies =
    codes "total list " ++ (decimal lists ++ (codes " unacked " ++ (decimal unacked ++ (codes " hand " ++ (decimal hands
    ++ (codes " ended " ++ (decimal ended ++ (codes " lost " ++ (decimal lost ++ (codes " copies " ++ (decimal copies ++ codes "\n")))))))))))
