-- What a run of publishing came to.
use Rattle.std.specs.Io.KnownBytes.{Appends}
use Rattle.std.specs.Prelude.{◌≡◌, ◌++◌, ◌+◌, ◌⊎◌, ℕ, List, [], ◌∷◌, ⊤, Option, None, Some, flat_map, length}
use Rattle.wire_values.specs.declared.value.Value.{Value}
use Rattle.wire_grammar.specs.Streams.{Leads}
use Rattle.wire_grammar.specs.declared.kind.WireKind.{WireKind}
use Rattle.resp_wire.specs.Stands.{IsFault}
use Rattle.links.specs.Causes.{Rose}
use Rattle.links.specs.Ends.{IsWholeInput}
use Rattle.links.specs.Views.{SinkView, SourceView}
use Rattle.net_links.specs.LinkViews.{LinkView}
use Rattle.command_blocks.specs.Calls.{Call}
use Rattle.command_blocks.specs.Scripts.{Plan}
use Rattle.queue_keys.specs.Names.{Bytes}
use Rattle.schedule_model.specs.Schedules.{max_input}
use Rattle.link_desk.specs.LinkDeeds.{command_bytes}
use Rattle.link_desk.specs.PushedValues.{ArePushed, pushed_limit}
use Rattle.publish_script.specs.Scripts.{Blocks, script_told}
use Rattle.publish_run.specs.Blocks.{AreBlocksTold}
use Rattle.publish_run.specs.PublishRuns.{NetShows}

-- the bytes of a call's command
abbrev pub call_bytes : Call → List ℕ
call_bytes x = command_bytes x.words

-- the bytes of the commands of calls, one after the other
abbrev pub calls_bytes : List Call → List ℕ
calls_bytes calls = flat_map call_bytes calls

-- one link more was closed, and this holds of it, where the net tells of its links
abbrev pub ClosesSuch : Option (List LinkView) → Option (List LinkView) → (LinkView → Type 0) → Type 0
ClosesSuch None closed2 Holds = ⊤
ClosesSuch (Some closed) closed2 Holds = (link : LinkView) × (closed2 ≡ Some (closed ++ link ∷ [])) × Holds link

-- a whole script was published for a client of this seed: the input was read to its end; the blocks that it determines were said, whole and in order; the closed link sent just their commands; and just the lines of the publications were written
pub record IsPublishedWhole (s : ℕ) (src src2 : SourceView) (before after : NetShows) (old new : SinkView) : Type 0 where
  pub bytes : Bytes
  pub plans : List Plan
  pub calls : List Call
  pub text : List ℕ
  pub read : IsWholeInput max_input src src2 bytes
  pub script : script_told s bytes ≡ Blocks plans
  pub blocks : AreBlocksTold s 0 plans calls text
  pub sent : ClosesSuch before.closed after.closed (λ link. link.sent ≡ Some (calls_bytes calls))
  pub written : Appends old.taken new.taken text
  pub no_fault : after.faults ≡ before.faults
  pub no_write_fault : new.faults ≡ old.faults

-- behind some values these bytes are no RESP2
abbrev pub HasWireFault : List ℕ → Type 0
HasWireFault bytes = (values : List Value) × (from : ℕ) × (left : List ℕ) × (kind : WireKind) × (place : ℕ) × Leads 0 bytes values from left × IsFault from left kind place

-- the values that these bytes begin with end with one pushed value more than may stand before a reply
abbrev pub HasFlood : List ℕ → Type 0
HasFlood bytes = (values : List Value) × (pushed : List Value) × (from : ℕ) × (left : List ℕ) × Leads 0 bytes (values ++ pushed) from left × ArePushed pushed × (length pushed ≡ pushed_limit + 1)

-- a link received bytes that are no RESP2, or too many pushed values
abbrev pub ReceivesNoReply : LinkView → Type 0
ReceivesNoReply link = (bytes : List ℕ) × (link.received ≡ Some bytes) × (HasWireFault bytes ⊎ HasFlood bytes)

-- the net failed; or the link that was closed had failed or ended; or it received what is no reply
abbrev pub IsLinkShown : NetShows → NetShows → Type 0
IsLinkShown before after = Rose before.faults after.faults ⊎ (Rose before.closed_faults after.closed_faults ⊎ ClosesSuch before.closed after.closed ReceivesNoReply)
