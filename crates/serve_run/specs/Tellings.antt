-- What is known of one session amid serving. This serves the proofs of code.
use Rattle.std.specs.Io.KnownBytes.{Appends}
use Rattle.std.specs.Prelude.{Err, List, Ok, Result, length, ⊤, ℕ, ◌≡◌, ◌≤◌}
use Rattle.links.specs.Causes.{AppendsFront, Rose}
use Rattle.links.specs.Views.{SinkView}
use Rattle.store_model.specs.Store.{StoreView}
use Rattle.sessions.specs.declared.conversing.SessionEnd.{SessionEnd}
use Rattle.store_server.specs.Servings.{HasServedAll, HasServedOne}
use Rattle.serve_run.specs.Endings.{end_after}
use Rattle.serve_run.specs.Lines.{session_line, session_lines}
use Rattle.serve_run.specs.NetViews.{NetView}
use Rattle.serve_run.specs.ServeRuns.{IsStop, TellsCut}
use Rattle.serve_run.specs.declared.ending.ServingEnd.{ServingEnd}
use Rattle.serve_run.specs.declared.ending.ServingEnd.TheVariants.{Full, Memory, Net, Served, WriteFault}

-- these bytes were written, and no fault
abbrev pub WritesLine : SinkView → SinkView → List ℕ → Type 0
WritesLine old new line = Appends old.taken new.taken line × (new.faults ≡ old.faults)

-- a line was written; or the sink failed within it, or there was no memory for it
abbrev pub TellsLine : SinkView → SinkView → List ℕ → Result ⊤ ServingEnd → Type 0
TellsLine old new line (Ok done) = WritesLine old new line
TellsLine old new line (Err WriteFault) = AppendsFront old.taken new.taken line × (old.faults ≤ new.faults) × Rose old.faults new.faults
TellsLine old new line (Err Memory) = new ≡ old
TellsLine old new line (Err Served) = ⊥
TellsLine old new line (Err (Full entries bytes)) = ⊥
TellsLine old new line (Err Net) = ⊥

-- one session more was had and told; or serving stops, with at most this one untold
abbrev pub TellsSession : (ℕ → Type 0) → ℕ → ℕ → StoreView → StoreView → NetView → NetView → SinkView → SinkView → Result SessionEnd ServingEnd → Type 0
TellsSession gives turns c store store2 before after old new (Ok end) =
    HasServedOne gives turns c store store2 before.closed after.closed end × (after.faults ≡ before.faults) × WritesLine old new (session_line c end)
TellsSession gives turns c store store2 before after old new (Err stop) =
    (untold : List SessionEnd) × HasServedAll gives turns c store store2 before.closed after.closed untold × (length untold ≤ 1) × IsStop before after untold stop × TellsCut old new c untold stop

-- amid serving, so many sessions ended, each was told, and neither net nor sink failed; if no more are wanted, serving ends so
pub record InServing (gives : ℕ → Type 0) (turns : ℕ) (store store2 : StoreView) (before after : NetView) (old new : SinkView) (number : ℕ) (so_far : ServingEnd) : Type 0 where
  pub ends : List SessionEnd
  pub count : length ends ≡ number
  pub served : HasServedAll gives turns 1 store store2 before.closed after.closed ends
  pub no_fault : after.faults ≡ before.faults
  pub told : WritesLine old new (session_lines 1 ends)
  pub ends_so : so_far ≡ end_after Served ends
