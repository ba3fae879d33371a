-- How a run of a program that waits for others ends.
use Rattle.std.specs.Prelude.{List, None, Some, ℕ, ◌≡◌, ◌⊎◌}
use Rattle.links.specs.Views.{SinkView}
use Rattle.serve_run.specs.NetViews.{NetView}
use Rattle.serve_run.specs.ServeRuns.{HasServedRun}
use Rattle.serve_run.specs.declared.ending.ServingEnd.{ServingEnd}
use Rattle.top_call.specs.declared.ending.Ended.{Ended}
use Rattle.waiting_call.specs.Endings.{TellsEnd, TellsIf, waited_by}
use Rattle.wait_words.specs.Words.{bad_wait_place, connections_in, turns_in}
use Rattle.waiting_call.specs.declared.ending.WaitEnd.TheVariants.{BadWord}

-- a word was bad, and nothing was done but to tell its place
abbrev pub HasRefused : List (List ℕ) → NetView → NetView → SinkView → SinkView → Ended → Type 0
HasRefused words before after old new result =
    (place : ℕ) × (bad_wait_place words ≡ Some place) × (after ≡ before) × TellsEnd (BadWord place) old new result

-- connections were served as the words ask, each session was told as it ended, and then how serving ended
abbrev pub HasServedWords : (ℕ → Type 0) → List (List ℕ) → NetView → NetView → SinkView → SinkView → Ended → Type 0
HasServedWords gives words before after old new result = (end : ServingEnd) × (shown : SinkView)
    × HasServedRun gives (turns_in words) (connections_in words) before after old shown end × TellsIf (waited_by end) shown new result

-- how a run ends
abbrev pub HasWaited : (ℕ → Type 0) → List (List ℕ) → NetView → NetView → SinkView → SinkView → Ended → Type 0
HasWaited gives words before after old new result =
    HasRefused words before after old new result ⊎ ((bad_wait_place words ≡ None) × HasServedWords gives words before after old new result)
