-- How connections are served and told.
use Rattle.std.specs.Io.KnownBytes.{Appends}
use Rattle.std.specs.Prelude.{List, [], false, length, ℕ, ◌+◌, ◌++◌, ◌<◌, ◌≡◌, ◌≤◌, ◌⊎◌}
use Rattle.links.specs.Causes.{AppendsFront, Rose}
use Rattle.links.specs.Views.{SinkView}
use Rattle.store_model.specs.Store.{StoreView, empty_state}
use Rattle.sessions.specs.declared.conversing.SessionEnd.{SessionEnd}
use Rattle.store_server.specs.Servings.{HasServedAll}
use Rattle.serve_run.specs.Endings.{end_after}
use Rattle.serve_run.specs.Lines.{session_lines}
use Rattle.serve_run.specs.NetViews.{NetView}
use Rattle.serve_run.specs.declared.ending.ServingEnd.{ServingEnd}
use Rattle.serve_run.specs.declared.ending.ServingEnd.TheVariants.{Full, Memory, Net, Served, WriteFault}

-- why serving stops before as many sessions ended as were wanted, and which of them are untold: the net failed, and none is; the sink failed, and the last one is; or memory was wanting, and perhaps the last one is
abbrev pub IsStop : NetView → NetView → List SessionEnd → ServingEnd → Type 0
IsStop before after untold Net = (untold ≡ []) × (before.faults ≤ after.faults) × Rose before.faults after.faults
IsStop before after untold WriteFault = (length untold ≡ 1) × (after.faults ≡ before.faults)
IsStop before after untold Memory = (length untold ≤ 1) × (after.faults ≡ before.faults)
IsStop before after untold Served = ⊥
IsStop before after untold (Full entries bytes) = ⊥

-- as many sessions ended as were wanted, all of them were told, the net didn't fail, and they make serving end so
pub record IsAllServed (wanted : ℕ) (before after : NetView) (ends untold : List SessionEnd) (end : ServingEnd) : Type 0 where
  pub count : length ends ≡ wanted
  pub all_told : untold ≡ []
  pub no_fault : after.faults ≡ before.faults
  pub ends_so : end ≡ end_after Served ends

-- why serving ends: all sessions ended; or the net failed, or memory was wanting, before that, or before any was wanted; or the sink failed within the line of a wanted one
abbrev pub IsServingEnd : ℕ → NetView → NetView → List SessionEnd → List SessionEnd → ServingEnd → Type 0
IsServingEnd wanted before after ends untold Served = IsAllServed wanted before after ends untold Served
IsServingEnd wanted before after ends untold (Full entries bytes) = IsAllServed wanted before after ends untold (Full entries bytes)
IsServingEnd wanted before after ends untold Net = IsStop before after untold Net × ((length ends < wanted) ⊎ (ends ≡ []))
IsServingEnd wanted before after ends untold WriteFault = IsStop before after untold WriteFault × (length ends < wanted)
IsServingEnd wanted before after ends untold Memory = IsStop before after untold Memory × ((length ends < wanted) ⊎ (ends ≡ []))

-- what was written after the lines of all sessions that were told: a front of the next one's line where the sink failed, and else nothing
abbrev pub TellsCut : SinkView → SinkView → ℕ → List SessionEnd → ServingEnd → Type 0
TellsCut old new number untold WriteFault = AppendsFront old.taken new.taken (session_lines number untold) × (old.faults ≤ new.faults) × Rose old.faults new.faults
TellsCut old new number untold Served = new ≡ old
TellsCut old new number untold (Full entries bytes) = new ≡ old
TellsCut old new number untold Net = new ≡ old
TellsCut old new number untold Memory = new ≡ old

-- connections were served one after the other, numbered from 1, and the line of each session was written as it ended; then serving ended so
pub record HasServedOn (gives : ℕ → Type 0) (turns wanted : ℕ) (store store2 : StoreView) (before after : NetView) (old new : SinkView) (end : ServingEnd) : Type 0 where
  pub ends : List SessionEnd
  pub untold : List SessionEnd
  pub between : SinkView
  pub served : HasServedAll gives turns 1 store store2 before.closed after.closed (ends ++ untold)
  pub few : length (ends ++ untold) ≤ wanted
  pub told : Appends old.taken between.taken (session_lines 1 ends)
  pub calm : between.faults ≡ old.faults
  pub cut : TellsCut between new (length ends + 1) untold end
  pub cause : IsServingEnd wanted before after ends untold end

-- the same at a store that began empty
abbrev pub HasServedRun : (ℕ → Type 0) → ℕ → ℕ → NetView → NetView → SinkView → SinkView → ServingEnd → Type 0
HasServedRun gives turns wanted before after old new end =
    (left : StoreView) × HasServedOn gives turns wanted (record { state = empty_state; spent = false }) left before after old new end
