-- What a link carried of a script, however publishing ended.
use Rattle.std.specs.Prelude.{◌≡◌, ◌++◌, ◌⊎◌, ℕ, List, [], Some}
use Rattle.wire_values.specs.declared.value.Value.{Value}
use Rattle.links.specs.Views.{SourceView}
use Rattle.net_links.specs.Traffics.{KeepsClosed}
use Rattle.store_model.specs.Words.{Words}
use Rattle.command_blocks.specs.Calls.{Call}
use Rattle.command_blocks.specs.Scripts.{Plan}
use Rattle.queue_keys.specs.Names.{Bytes}
use Rattle.link_desk.specs.LinkDeeds.{command_bytes}
use Rattle.publish_script.specs.Scripts.{Blocks, script_told}
use Rattle.publish_run.specs.Blocks.{AreBlocksTold, BeginsNext, IsNextCommand, IsNextTold, IsRefusedNext, drawn_after}
use Rattle.publish_run.specs.PublishRuns.{HasScript, NetShows}
use Rattle.publish_run_laws.specs.Published.{ClosesSuch, calls_bytes}

-- amid the block of the next of these plans these calls were said, and after them this front of a command sent: none of it was begun; or the calls begin it, or are all of it, or the last of them has an answer that it doesn't list there, and nothing more was sent; or a front of its next command was
abbrev pub IsFrontOfNext : ℕ → ℕ → List Plan → List Call → List ℕ → Type 0
IsFrontOfNext s n left calls front =
    (((calls ≡ []) ⊎ (BeginsNext s n left calls ⊎ (((line : List ℕ) × IsNextTold s n left calls line) ⊎ ((answer : Value) × IsRefusedNext s n left calls answer)))) × (front ≡ []))
    ⊎ ((words : Words) × (behind : List ℕ) × IsNextCommand s n left calls words × (command_bytes words ≡ front ++ behind))

-- the closed link sent the commands of the whole blocks of the first plans, in order, and then of the next one's no more than a front
pub record IsPublishedFront (s : ℕ) (plans : List Plan) (before after : NetShows) : Type 0 where
  pub done : List Plan
  pub left : List Plan
  pub calls : List Call
  pub begun : List Call
  pub front : List ℕ
  pub text : List ℕ
  pub all : plans ≡ done ++ left
  pub blocks : AreBlocksTold s 0 done calls text
  pub next : IsFrontOfNext s (drawn_after 0 done) left begun front
  pub sent : ClosesSuch before.closed after.closed (λ link. link.sent ≡ Some (calls_bytes (calls ++ begun) ++ front))

-- no link was closed; or one was, which sent a front of what the script determines
abbrev pub IsSentInOrder : ℕ → SourceView → SourceView → NetShows → NetShows → Type 0
IsSentInOrder s src src2 before after =
    KeepsClosed before.closed after.closed
    ⊎ ((bytes : Bytes) × (plans : List Plan) × HasScript src src2 bytes × (script_told s bytes ≡ Blocks plans) × IsPublishedFront s plans before after)
