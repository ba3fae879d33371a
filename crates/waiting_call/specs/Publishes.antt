-- How a run of `publish` ends.
use Rattle.std.specs.Prelude.{List, Some, None, [], codes, decimal, true, false, ℕ, ◌++◌, ◌≡◌, ◌⊎◌}
use Rattle.wire_values.specs.declared.value.Value.{Value}
use Rattle.line_text.specs.Reason.{reason_text}
use Rattle.line_text.specs.Short.{short_value}
use Rattle.links.specs.Views.{SinkView, SourceView}
use Rattle.publish_run.specs.PublishRuns.{HasPublishedRun, NetShows}
use Rattle.publish_run.specs.declared.ending.PublishingEnd.{PublishingEnd}
use Rattle.publish_run.specs.declared.ending.PublishingEnd.TheVariants.{BadLine, LinkFault, Memory, Published, ReadFault, Refused, WriteFault}
use Rattle.schedule_model.specs.Shapes.{shape_of}
use Rattle.serve_run.specs.NetViews.{NetView}
use Rattle.top_call.specs.Endings.{WritesText}
use Rattle.top_call.specs.declared.ending.Ended.{Ended}
use Rattle.wait_words.specs.Words.{bad_wait_place, names_publish, seed_in}
use Rattle.waiting_call.specs.Endings.{TellsEnd}
use Rattle.waiting_call.specs.Servings.{HasWaited}
use Rattle.waiting_call.specs.declared.ending.WaitEnd.TheVariants.{BadWord}

-- what is written of an answer that isn't listed
abbrev pub refused_text : Value → List ℕ
refused_text answer = codes "store refused " ++ short_value shape_of answer ++ codes "\n"

-- the text of the end of publishing
abbrev pub publishing_text : PublishingEnd → List ℕ
publishing_text Published = []
publishing_text (BadLine bad) = codes "bad line " ++ (decimal bad.line ++ (codes ": " ++ (reason_text bad.reason ++ codes "\n")))
publishing_text ReadFault = codes "read fault\n"
publishing_text LinkFault = codes "link fault\n"
publishing_text (Refused answer) = refused_text answer
publishing_text WriteFault = []
publishing_text Memory = codes "out of memory\n"

-- its status, and its place
abbrev pub publishing_ended : PublishingEnd → Ended
publishing_ended Published = record { status = 0; place = 0; left = 0 }
publishing_ended (BadLine bad) = record { status = 3; place = bad.line; left = 0 }
publishing_ended ReadFault = record { status = 4; place = 0; left = 0 }
publishing_ended LinkFault = record { status = 6; place = 0; left = 0 }
publishing_ended (Refused answer) = record { status = 10; place = 0; left = 0 }
publishing_ended WriteFault = record { status = 5; place = 0; left = 0 }
publishing_ended Memory = record { status = 11; place = 0; left = 0 }

-- its text was written, or the sink failed within it
abbrev pub WritesPublishing : PublishingEnd → SinkView → SinkView → Ended → Type 0
WritesPublishing end old new result = WritesText old new (publishing_text end) (publishing_ended end) result

-- it was told: nothing more where the sink failed; of a bad line or of an answer perhaps that there was no memory for its text
abbrev pub TellsPublishing : PublishingEnd → SinkView → SinkView → Ended → Type 0
TellsPublishing WriteFault old new result = (result ≡ publishing_ended WriteFault) × (new ≡ old)
TellsPublishing (BadLine bad) old new result = WritesPublishing (BadLine bad) old new result ⊎ WritesPublishing Memory old new result
TellsPublishing Published old new result = WritesPublishing Published old new result
TellsPublishing ReadFault old new result = WritesPublishing ReadFault old new result
TellsPublishing LinkFault old new result = WritesPublishing LinkFault old new result
TellsPublishing (Refused answer) old new result = WritesPublishing (Refused answer) old new result ⊎ WritesPublishing Memory old new result
TellsPublishing Memory old new result = WritesPublishing Memory old new result

-- a script was published as the words ask, each publication was told as it ended, and then how publishing ended
abbrev pub HasPublishedWords : List (List ℕ) → SourceView → SourceView → NetShows → NetShows → SinkView → SinkView → Ended → Type 0
HasPublishedWords words src src2 before after old new result = (end : PublishingEnd) × (shown : SinkView)
    × HasPublishedRun (seed_in words) src src2 before after old shown end × TellsPublishing end shown new result

-- how a run of `publish` ends: a word was bad, and nothing was done but to tell its place; or a script was published
abbrev pub HasPublishedCall : List (List ℕ) → SourceView → SourceView → NetShows → NetShows → SinkView → SinkView → Ended → Type 0
HasPublishedCall words src src2 before after old new result =
    ((place : ℕ) × (bad_wait_place words ≡ Some place) × (src2 ≡ src) × (after ≡ before) × TellsEnd (BadWord place) old new result)
    ⊎ ((bad_wait_place words ≡ None) × HasPublishedWords words src src2 before after old new result)

-- a net without the count of its links that were closed with a fault
abbrev pub net_of : NetShows → NetView
net_of n = record { closed = n.closed; faults = n.faults }

-- how a run of a program that waits for others ends: `publish`, where the first word names it; else `serve`, of which nothing is read
abbrev pub HasRunWait : (ℕ → Type 0) → List (List ℕ) → SourceView → SourceView → NetShows → NetShows → SinkView → SinkView → Ended → Type 0
HasRunWait gives words src src2 before after old new result =
    ((names_publish words ≡ true) × HasPublishedCall words src src2 before after old new result)
    ⊎ ((names_publish words ≡ false) × (src2 ≡ src) × HasWaited gives words (net_of before) (net_of after) old new result)
