-- How a run of publishing ends, by what it read, what its link carried and what it wrote.
use Rattle.std.specs.Prelude.{◌≡◌, ◌≤◌, ◌+◌, ◌⊎◌, ℕ, List, [], Option, Result, Ok, Err, true, false}
use Rattle.links.specs.Causes.{Rose}
use Rattle.links.specs.Ends.{HasReadUpTo, IsPast, IsWholeInput}
use Rattle.links.specs.Views.{SinkView, SourceView}
use Rattle.net_links.specs.LinkViews.{LinkView}
use Rattle.net_links.specs.NetCauses.{HasClosedFaults}
use Rattle.net_links.specs.Traffics.{ClosesOne, IsFresh, KeepsClosed}
use Rattle.command_blocks.specs.Scripts.{Plan}
use Rattle.queue_keys.specs.Names.{Bytes}
use Rattle.resp_wire.specs.Stands.{Stands}
use Rattle.schedule_model.specs.Schedules.{max_input}
use Rattle.link_desk.specs.Exchanges.{RefusesWords}
use Rattle.link_desk.specs.LinkDeeds.{CarriesDeeds, LinkDeskView, StandsReady, standing_of}
use Rattle.publish_script.specs.Scripts.{Blocks, Wrong_line, script_told}
use Rattle.publish_run.specs.Publishings.{HasSaidScript}
use Rattle.publish_run.specs.Saids.{DeskShows}
use Rattle.publish_run.specs.declared.ending.PublishingEnd.{PublishingEnd}
use Rattle.publish_run.specs.declared.ending.PublishingEnd.TheVariants.{BadLine, LinkFault, Memory, ReadFault}

-- a net at one moment: what the links told that it closed, where it tells it, its count of faults, and the count of links that were closed with a fault or an end
pub record NetShows : Type 0 where
  pub closed : Option (List LinkView)
  pub faults : ℕ
  pub closed_faults : ℕ

-- a net by the ghost members of its type
abbrev pub net_shows : {N : Type 0} → (N → Option (List LinkView)) → (N → ℕ) → (N → ℕ) → N → NetShows
net_shows closed faults closed_faults n = record { closed = closed n; faults = faults n; closed_faults = closed_faults n }

-- nothing was closed, and no link that had failed
pub record ClosesNone (before after : NetShows) : Type 0 where
  pub closed : KeepsClosed before.closed after.closed
  pub closed_faults : after.closed_faults ≡ before.closed_faults

-- these bytes were read: the whole input, or one byte more than its limit
abbrev pub HasScript : SourceView → SourceView → Bytes → Type 0
HasScript src src2 bytes = IsWholeInput max_input src src2 bytes ⊎ IsPast max_input src src2 bytes

-- the script wasn't read whole: the source failed, or there was no memory for it; at most one byte more than its limit was read
abbrev pub IsUnread : SourceView → SourceView → PublishingEnd → Type 0
IsUnread src src2 ReadFault = (bytes : Bytes) × HasReadUpTo max_input src src2 bytes × (src.faults ≤ src2.faults) × Rose src.faults src2.faults
IsUnread src src2 Memory = (bytes : Bytes) × HasReadUpTo (max_input + 1) src src2 bytes × (src2.faults ≡ src.faults)
IsUnread src src2 other = ⊥

-- the script was read, and nothing of it said: a line is bad, or there was no memory to check it
abbrev pub IsUnsaid : ℕ → Bytes → PublishingEnd → Type 0
IsUnsaid s bytes (BadLine bad) = script_told s bytes ≡ Wrong_line bad.line bad.reason
IsUnsaid s bytes Memory = Unit {0}
IsUnsaid s bytes other = ⊥

-- there is no link: the net failed, or there was no memory
abbrev pub IsUnlinked : NetShows → NetShows → PublishingEnd → Type 0
IsUnlinked before after LinkFault = (before.faults ≤ after.faults) × Rose before.faults after.faults
IsUnlinked before after Memory = after.faults ≡ before.faults
IsUnlinked before after other = ⊥

-- the blocks of the plans were said over a link by a desk that began and ended with it, and told, up to where it ended so
pub record HasCarried (s : ℕ) (plans : List Plan) (link link2 : LinkView) (old new : SinkView) (end : PublishingEnd) : Type 0 where
  pub desk : LinkDeskView
  pub desk2 : LinkDeskView
  pub shows : DeskShows
  pub shows2 : DeskShows
  -- the desk begins open, with nothing unread
  pub opened : desk.standing ≡ StandsReady
  pub stands : Stands desk.decoder 0 []
  pub begins : (desk.sent ≡ link.sent) × (desk.received ≡ link.received) × (shows.faults ≡ link.faults) × (shows.ends ≡ link.ends)
  pub stands2 : desk2.standing ≡ standing_of shows2.fault shows2.stopped
  pub ends : (desk2.sent ≡ link2.sent) × (desk2.received ≡ link2.received) × (shows2.faults ≡ link2.faults) × (shows2.ends ≡ link2.ends)
  pub said : HasSaidScript CarriesDeeds RefusesWords true false s 0 plans desk desk2 shows shows2 old new end

-- one link was opened, which nobody had used; the blocks of the plans were said over it, and told, up to where it ended so; and it was closed
pub record HasLinked (s : ℕ) (plans : List Plan) (before after : NetShows) (old new : SinkView) (end : PublishingEnd) : Type 0 where
  pub link : LinkView
  pub link2 : LinkView
  pub fresh : IsFresh before.closed link
  pub carried : HasCarried s plans link link2 old new end
  pub closed : ClosesOne before.closed after.closed link2
  pub closed_faults : HasClosedFaults before.closed_faults after.closed_faults link2.faults link2.ends
  pub no_fault : after.faults ≡ before.faults

-- the script's plans were said as far as it came; or there was no link for it
abbrev pub HasSaidOver : ℕ → List Plan → NetShows → NetShows → SinkView → SinkView → PublishingEnd → Type 0
HasSaidOver s plans before after old new end =
    (IsUnlinked before after end × ClosesNone before after × (new ≡ old)) ⊎ HasLinked s plans before after old new end

-- a reading gave the script, or ended publishing
abbrev pub HasReadScript : SourceView → SourceView → Result Bytes PublishingEnd → Type 0
HasReadScript src src2 (Ok bytes) = HasScript src src2 bytes
HasReadScript src src2 (Err end) = IsUnread src src2 end

-- how publishing these bytes ends: nothing of them is said; or their blocks are, over one link, as far as it came
abbrev pub HasPublishedBytes : ℕ → Bytes → NetShows → NetShows → SinkView → SinkView → PublishingEnd → Type 0
HasPublishedBytes s bytes before after old new end =
    (IsUnsaid s bytes end × (after ≡ before) × (new ≡ old))
    ⊎ ((plans : List Plan) × (script_told s bytes ≡ Blocks plans) × HasSaidOver s plans before after old new end)

-- how a run ends, for a client of this seed: the script wasn't read; or it was read, and nothing of it said; or its blocks were said over one link as far as it came. Before the whole script is read and each of its lines is good the net isn't used, and nothing is written
abbrev pub HasPublishedRun : ℕ → SourceView → SourceView → NetShows → NetShows → SinkView → SinkView → PublishingEnd → Type 0
HasPublishedRun s src src2 before after old new end =
    (IsUnread src src2 end × (after ≡ before) × (new ≡ old))
    ⊎ ((bytes : Bytes) × HasScript src src2 bytes × HasPublishedBytes s bytes before after old new end)
