-- What each status of a run of `replay --make` says by itself.
use Rattle.std.specs.Io.KnownBytes.{Appends}
use Rattle.std.specs.Prelude.{Contains, List, [], ℕ, ◌∷◌, ◌≡◌, ◌≤◌}
use Rattle.links.specs.Causes.{AppendsFront, Rose}
use Rattle.links.specs.Views.{SinkView, SourceView}
use Rattle.schedule_maker.specs.Made.{made_text}
use Rattle.top_call.specs.Endings.{MadeEnds, text_of}
use Rattle.top_call.specs.Replays.{IsMadeText, calm_statuses, replay_run}
use Rattle.top_call.specs.Statuses.{WritesBadLine, WritesFull}
use Rattle.top_call.specs.declared.ending.End.TheVariants.{Memory}
use Rattle.top_call.specs.declared.ending.End.{End}
use Rattle.top_call.specs.declared.ending.Ended.{Ended}

-- the two lines of the made schedule's history were written
abbrev pub WritesMade : SinkView → SinkView → ℕ → Type 0
WritesMade old new n = (text : List ℕ) × IsMadeText n text × Appends old.taken new.taken text

-- the sink's count rose, and a front was written of a text to which the made schedule may lead
abbrev pub IsMakingCut : SinkView → SinkView → ℕ → Type 0
IsMakingCut old new n = (old.faults ≤ new.faults) × Rose old.faults new.faults
    × ((end : End) × MadeEnds n end × AppendsFront old.taken new.taken (text_of end))

-- what each status of `replay --make` says for so many messages, and which it can have; nothing is read
pub record IsMaking (n : ℕ) (before now : SourceView) (old new : SinkView) (result : Ended) : Type 0 where
  pub unread : now ≡ before
  pub made : result.status ≡ 0 → WritesMade old new n
  pub bad_line : result.status ≡ 3 → WritesBadLine old new (made_text n) result.place
  pub write_fault : result.status ≡ 5 → IsMakingCut old new n
  pub history_full : result.status ≡ 9 → WritesFull old new (made_text n)
  pub out_of_memory : result.status ≡ 11 → Appends old.taken new.taken (text_of Memory)
  pub statuses : Contains (0 ∷ 3 ∷ 5 ∷ 9 ∷ 11 ∷ []) result.status
  pub complete : ¬ (Rose old.faults new.faults) → Contains (calm_statuses (replay_run (made_text n))) result.status
