-- What is left of a pass where it stands, and what that tells of its calls. Serves the proofs of code.
use Rattle.std.specs.Prelude.{◌≡◌, ◌+◌, ℕ, true, refl, get_or, List, [], ◌∷◌, ◌++◌, drop}
use Rattle.wire_values.specs.declared.value.Value.{Value}
use Rattle.store_model.specs.Replies.{done}
use Rattle.queue_keys.specs.Names.{Bytes}
use Rattle.command_blocks.specs.Calls.{Call}
use Rattle.command_blocks.specs.Cores.{is_saying}
use Rattle.command_blocks.specs.EnvelopeTexts.{plain_setting}
use Rattle.command_blocks.specs.PassBlocks.{due_words, tags_among}
use Rattle.command_blocks.specs.Scripts.{Pass, Script, Say, on_texts, pass_script, release_script, returns_script}
use Rattle.block_core.specs.Cores.{HasHad, core_left}
use Rattle.block_core.specs.Stages.{TellsOn}
use Rattle.block_core.specs.declared.block.BlockCore.{BlockCore}
use Rattle.block_core.specs.declared.stage.Progress.{Progress}
use Rattle.returns.specs.Returns.{spots_say}
use Rattle.returns.specs.Spots.{trying_left}
use Rattle.returns.specs.declared.returned.Returned.{Returned}
use Rattle.returns.specs.declared.returned.Returned.TheVariants as returned
use Rattle.passes.specs.Counts.{returned_count, tag_texts}
use Rattle.passes.specs.Releases.{release_left}
use Rattle.passes.specs.Told.{HasReturned, IsReturned, IsReturning, TellsPass}
use Rattle.passes.specs.declared.ended.PassEnd.{PassEnd}
use Rattle.passes.specs.declared.passing.PassStage.{PassStage}
use Rattle.passes.specs.declared.passing.Passing.{Passing}
use Rattle.passes.specs.declared.passing.Passing.TheVariants.{Lock, Range, Returning, Releasing}
use Rattle.passes.specs.declared.turns.Returns.{Returns}
use Rattle.passes.specs.declared.release.Release.{Release}
use Rattle.passes.specs.declared.release.Release.TheVariants as release
use Rattle.passes.specs.declared.terms.Terms.{Terms}

-- ---- what is left

-- ZREVRANGEBYSCORE is next
abbrev pub range_left : Terms → Script
range_left terms = Say (λ at. due_words plain_setting at terms.visibility) (on_texts (λ ms. returns_script plain_setting terms.token (tags_among plain_setting ms)))

-- the returns of the tags after so many are next
abbrev pub turns_left : Terms → Returns → ℕ → Script
turns_left terms returns count = returns_script plain_setting terms.token (drop count (tag_texts returns.tags))

-- what follows the present return
abbrev pub after_return : Terms → Returns → Script
after_return terms returns = turns_left terms returns (returned_count returns.counts + 1)

-- the release is next
abbrev pub let_go_left : Terms → Script
let_go_left terms = release_script plain_setting terms.token

-- what is left at a command
abbrev pub passing_left : Terms → Passing → Script
passing_left terms Lock = pass_script plain_setting terms.token terms.visibility
passing_left terms Range = range_left terms
passing_left terms (Returning trying returns) = trying_left (after_return terms returns) (let_go_left terms) trying
passing_left terms (Releasing at end) = release_left terms.token at

abbrev pub pass_stage_left : PassStage → Script
pass_stage_left stage = passing_left stage.terms stage.at

-- what is left to say of a pass
abbrev pub pass_left : BlockCore PassStage PassEnd → Script
pass_left core = core_left pass_stage_left core

-- what follows the present return, which ended so
abbrev pub returned_so : Terms → Returns → Returned → Script
returned_so terms returns returned.Moved = after_return terms returns
returned_so terms returns returned.Gone = after_return terms returns
returned_so terms returns returned.Stayed = after_return terms returns
returned_so terms returns (returned.Contended tag) = let_go_left terms

-- ---- what is told of the calls

-- the tag whose return is said
abbrev pub tag_now : Returns → Bytes
tag_now returns = get_or (tag_texts returns.tags) (returned_count returns.counts) []

-- what is next tells of the calls so far
abbrev pub PassingHad : Passing → List Call → Type 0
PassingHad Lock calls = calls ≡ []
PassingHad Range calls = (lock : Call) × (calls ≡ lock ∷ []) × (lock.answer ≡ done)
PassingHad (Returning trying returns) calls = (tries : List Call) × HasReturned returns.tags returns.counts tries calls × IsReturning (tag_now returns) trying tries
PassingHad (Releasing at end) calls = TellsPass calls end

abbrev pub PassHad : List Call → PassStage → Type 0
PassHad calls stage = PassingHad stage.at calls

-- the present return ended so by these calls
abbrev pub HasEnded : Returns → Returned → List Call → Type 0
HasEnded returns end calls = (tries : List Call) × HasReturned returns.tags returns.counts tries calls × IsReturned (tag_now returns) end tries

-- what an answer brought tells of the calls up to it, of which this was told before
abbrev pub TellsNext : (List Call → Type 0) → Value → Progress PassStage PassEnd → Type 0
TellsNext Had r p = (calls : List Call) (last : Call) → last.answer ≡ r → Had calls → TellsOn PassHad TellsPass (calls ++ last ∷ []) p

-- the core of a pass under this visibility timeout had these calls so far
abbrev pub HasPassing : ℕ → ℕ → ℕ → List Call → BlockCore PassStage PassEnd → Type 0
HasPassing s p v calls core = HasHad pass_stage_left (λ plan calls stage. PassHad calls stage) (λ plan calls end. TellsPass calls end) s p (Pass v) calls core

-- ---- at each of its commands there are words

releases_say : (token : Bytes) (at : Release) → is_saying (release_left token at) ≡ true
releases_say token release.Watch = refl
releases_say token release.Read = refl
releases_say token release.Begin = refl
releases_say token release.Remove = refl
releases_say token release.Run = refl
releases_say token release.Leave = refl

pub passing_says : (terms : Terms) (at : Passing) → is_saying (passing_left terms at) ≡ true
passing_says terms Lock = refl
passing_says terms Range = refl
passing_says terms (Returning trying returns) = spots_say (after_return terms returns) (let_go_left terms) trying.aim trying.spot
passing_says terms (Releasing at end) = releases_say terms.token at
