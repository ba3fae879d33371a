-- What the end of a pass tells of its calls, by their answers. Serves the proofs of code.
use Rattle.std.specs.Prelude.{◌≡◌, List, [], ◌∷◌, ◌++◌, Some, take}
use Rattle.wire_values.specs.declared.value.Value.{Value}
use Rattle.wire_values.specs.declared.value.Value.TheVariants.{NullBulk}
use Rattle.delivery_tags.specs.Tags.{tag_text}
use Rattle.delivery_tags.specs.declared.tag.Tag.{Tag}
use Rattle.store_model.specs.Replies.{done}
use Rattle.queue_keys.specs.Names.{Bytes}
use Rattle.command_blocks.specs.Calls.{Call}
use Rattle.command_blocks.specs.EnvelopeTexts.{plain_setting}
use Rattle.command_blocks.specs.PassBlocks.{tags_among}
use Rattle.command_blocks.specs.Scripts.{Over, rest_of, return_script, texts_of}
use Rattle.command_blocks.specs.declared.side.Side.TheVariants.{Right}
use Rattle.returns.specs.Returns.{TellsReturned, TryingHad, return_stage_left}
use Rattle.returns.specs.declared.returned.Returned.{Returned}
use Rattle.returns.specs.declared.returned.Returned.TheVariants as returned
use Rattle.returns.specs.declared.trying.Trying.{Trying}
use Rattle.passes.specs.Counts.{returned_count, tag_texts, tally}
use Rattle.passes.specs.declared.counts.Counts.{Counts}
use Rattle.passes.specs.declared.ended.PassEnd.{PassEnd}
use Rattle.passes.specs.declared.ended.PassEnd.TheVariants.{Done, Held, Contended}

-- ---- one return

-- by their answers the calls are a whole return of this tag, with this end
pub record IsReturned (t : Bytes) (end : Returned) (calls : List Call) : Type 0 where
  pub over : rest_of (return_script plain_setting Right t) calls ≡ Over
  pub tells : TellsReturned t calls end

-- by their answers the calls are so much of a return of this tag
pub record IsReturning (t : Bytes) (trying : Trying) (calls : List Call) : Type 0 where
  pub left : rest_of (return_script plain_setting Right t) calls ≡ return_stage_left trying
  pub had : TryingHad t calls trying

-- a pass goes on after a return that ended so
abbrev pub IsOn : Returned → Type 0
IsOn returned.Moved = Unit {0}
IsOn returned.Gone = Unit {0}
IsOn returned.Stayed = Unit {0}
IsOn (returned.Contended tag) = ⊥

-- ---- the returns

-- the calls are the returns of these tags, one after the other, with these ends
abbrev pub AreReturned : List Bytes → List Returned → List Call → Type 0
AreReturned [] [] calls = calls ≡ []
AreReturned [] (end ∷ ends) calls = ⊥
AreReturned (t ∷ ts) [] calls = ⊥
AreReturned (t ∷ ts) (end ∷ ends) calls = (l : List Call) × (more : List Call) × (calls ≡ l ++ more) × IsReturned t end l × IsOn end × AreReturned ts ends more

-- the calls took the mutex and read these members of the index, and then there are more
pub record HasDue (members : List Bytes) (more calls : List Call) : Type 0 where
  pub lock : Call
  pub range : Call
  pub is : calls ≡ lock ∷ range ∷ more
  pub locked : lock.answer ≡ done
  pub read : texts_of range.answer ≡ Some members

-- the tags are those among the members that the calls read; the first of them were returned, as many as are counted; and then there are more calls
pub record HasReturned (tags : List Tag) (counts : Counts) (more calls : List Call) : Type 0 where
  pub members : List Bytes
  pub ends : List Returned
  pub before : List Call
  pub read : HasDue members (before ++ more) calls
  pub found : tags_among plain_setting members ≡ tag_texts tags
  pub through : AreReturned (take (returned_count counts) (tag_texts tags)) ends before
  pub tally : tally ends ≡ counts

-- ---- the end

-- this holds of the first answer
abbrev pub IsFirst : (Value → Type 0) → List Call → Type 0
IsFirst P [] = ⊥
IsFirst P (x ∷ xs) = P x.answer

-- each tag among the members was returned, with these counts, and then the mutex was let go of
pub record IsDone (counts : Counts) (calls : List Call) : Type 0 where
  pub members : List Bytes
  pub ends : List Returned
  pub returns : List Call
  pub release : List Call
  pub read : HasDue members (returns ++ release) calls
  pub through : AreReturned (tags_among plain_setting members) ends returns
  pub tally : tally ends ≡ counts

-- the tags among the members were returned up to this one, whose return was contended, and then the mutex was let go of
pub record IsStuck (tag : Tag) (calls : List Call) : Type 0 where
  pub members : List Bytes
  pub ends : List Returned
  pub first : List Bytes
  pub others : List Bytes
  pub before : List Call
  pub tries : List Call
  pub release : List Call
  pub read : HasDue members (before ++ (tries ++ release)) calls
  pub tags : tags_among plain_setting members ≡ first ++ tag_text tag.0 ∷ others
  pub through : AreReturned first ends before
  pub contended : IsReturned (tag_text tag.0) (returned.Contended tag) tries

-- the end of a pass tells of its calls: the null bulk string to SET; or that each tag was returned, with the counts; or that the return of this tag was contended
abbrev pub TellsPass : List Call → PassEnd → Type 0
TellsPass calls (Done m g s) = IsDone (record { moved = m; gone = g; stayed = s }) calls
TellsPass calls Held = IsFirst (λ r. r ≡ NullBulk) calls
TellsPass calls (Contended tag) = IsStuck tag calls
