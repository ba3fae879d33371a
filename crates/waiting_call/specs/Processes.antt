-- How a process' run ends, whichever program its words name.
use Rattle.std.specs.Prelude.{Bool, List, [], bytes_eq, codes, false, true, ℕ, ◌||◌, ◌≡◌, ◌∷◌, ◌⊎◌}
use Rattle.links.specs.Views.{SinkView, SourceView}
use Rattle.publish_run.specs.PublishRuns.{NetShows}
use Rattle.top_call.specs.Endings.{HasEnded, Took}
use Rattle.top_call.specs.declared.ending.Ended.{Ended}
use Rattle.waiting_call.specs.Publishes.{HasRunWait}

-- whether the first word is a program that waits for nobody
abbrev pub names_run : List (List ℕ) → Bool
names_run [] = false
names_run (word ∷ words) = bytes_eq word (codes "replay") || bytes_eq word (codes "show")

-- a program that waits for nobody ended, and the net wasn't used; or one that waits for others did
abbrev pub HasAnsweredWords : (ℕ → Type 0) → List (List ℕ) → SourceView → SourceView → NetShows → NetShows → SinkView → SinkView → Ended → Type 0
HasAnsweredWords gives words src src2 before after old new result =
    ((names_run words ≡ true) × (after ≡ before) × Took src src2 × HasEnded words src src2 old new result)
    ⊎ ((names_run words ≡ false) × HasRunWait gives words src src2 before after old new result)
