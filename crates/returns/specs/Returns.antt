-- What the end of a return tells of its calls, by their answers. Serves the proofs of code.
use Rattle.std.specs.Prelude.{◌≡◌, ℕ, ℤ, Bool, true, false, drop, refl, List, [], ◌∷◌, ◌++◌}
use Rattle.wire_values.specs.Layer.{layer}
use Rattle.wire_values.specs.declared.value.Value.{Value}
use Rattle.wire_values.specs.declared.value.Value.TheVariants.{NullArray}
use Rattle.delivery_tags.specs.Tags.{tag_text}
use Rattle.store_model.specs.Replies.{done}
use Rattle.queue_keys.specs.Names.{Bytes}
use Rattle.command_blocks.specs.Answers.{integers}
use Rattle.command_blocks.specs.Calls.{Call}
use Rattle.command_blocks.specs.Cores.{is_saying}
use Rattle.command_blocks.specs.Scripts.{Plan, Return, Script, Over, null_bulk_in, queued_script}
use Rattle.command_blocks.specs.declared.side.Side.{Side}
use Rattle.block_core.specs.Cores.{HasHad, core_left}
use Rattle.block_core.specs.declared.block.BlockCore.{BlockCore}
use Rattle.block_core.specs.declared.stage.Progress.{Progress}
use Rattle.block_core.specs.declared.stage.Progress.TheVariants as progress
use Rattle.returns.specs.Spots.{point_left, run_left, spot_left, trying_left}
use Rattle.returns.specs.declared.returned.Returned.{Returned}
use Rattle.returns.specs.declared.returned.Returned.TheVariants as returned
use Rattle.returns.specs.declared.spot.Aim.{Aim}
use Rattle.returns.specs.declared.spot.Point.{Point}
use Rattle.returns.specs.declared.spot.Point.TheVariants.{Begin, Index, Table, After}
use Rattle.returns.specs.declared.spot.Spot.{Spot}
use Rattle.returns.specs.declared.spot.Spot.TheVariants.{Watch, Read, Ask, Take, Leave}
use Rattle.returns.specs.declared.spot.Unmoved.{Unmoved}
use Rattle.returns.specs.declared.spot.Unmoved.TheVariants as unmoved
use Rattle.returns.specs.declared.trying.Trying.{Trying}

-- what is left of a return alone
abbrev pub return_stage_left : Trying → Script
return_stage_left trying = trying_left Over Over trying

-- what is left to say of a return
abbrev pub return_left : BlockCore Trying Returned → Script
return_left core = core_left return_stage_left core

-- ---- what is told of the calls

-- this holds of the last answer
abbrev pub IsLast : (Value → Type 0) → List Call → Type 0
IsLast P calls = (before : List Call) × (last : Call) × (calls ≡ before ++ last ∷ []) × P last.answer

-- this holds of the last answer but one, and the last is +OK
abbrev pub IsBeforeLast : (Value → Type 0) → List Call → Type 0
IsBeforeLast P calls = (before : List Call) × (x : Call) × (last : Call) × (calls ≡ (before ++ x ∷ []) ++ last ∷ []) × P x.answer × (last.answer ≡ done)

-- the answer is an array of integers
abbrev pub AreIntegers : Value → Type 0
AreIntegers r = (zs : List ℤ) × (r ≡ integers zs)

-- whether the answer is the null bulk string
abbrev pub IsNullBulk : Bool → Value → Type 0
IsNullBulk b r = null_bulk_in (layer r) ≡ b

-- the end of a return of a tag tells of the answers: integers to EXEC; UNWATCH after the null bulk string; UNWATCH after another answer; the null array to EXEC, and the tag
abbrev pub TellsReturned : Bytes → List Call → Returned → Type 0
TellsReturned t calls returned.Moved = IsLast AreIntegers calls
TellsReturned t calls returned.Gone = IsBeforeLast (IsNullBulk true) calls
TellsReturned t calls returned.Stayed = IsBeforeLast (IsNullBulk false) calls
TellsReturned t calls (returned.Contended tag) = IsLast (λ r. r ≡ NullArray) calls × (tag_text tag.0 ≡ t)

-- the last answer is the reason to leave
abbrev pub IsReason : Unmoved → Value → Type 0
IsReason unmoved.Gone r = IsNullBulk true r
IsReason unmoved.Stayed r = IsNullBulk false r

abbrev pub SpotHad : List Call → Spot → Type 0
SpotHad calls Watch = Unit {0}
SpotHad calls Read = Unit {0}
SpotHad calls (Ask carried) = Unit {0}
SpotHad calls (Take carried keys point) = Unit {0}
SpotHad calls (Leave why) = IsLast (IsReason why) calls

-- a return of this tag stands at a spot, which tells of the calls so far
abbrev pub TryingHad : Bytes → List Call → Trying → Type 0
TryingHad t calls trying = (tag_text trying.aim.tag.0 ≡ t) × SpotHad calls trying.spot

-- the same of the plan of a return
abbrev pub ReturnHad : Plan → List Call → Trying → Type 0
ReturnHad (Return side t) calls trying = TryingHad t calls trying
ReturnHad other calls trying = ⊥

abbrev pub TellsReturn : Plan → List Call → Returned → Type 0
TellsReturn (Return side t) calls end = TellsReturned t calls end
TellsReturn other calls end = ⊥

-- the core of the return of a tag had these calls so far
abbrev pub HasReturning : ℕ → ℕ → Side → Bytes → List Call → BlockCore Trying Returned → Type 0
HasReturning s p side t calls core = HasHad return_stage_left ReturnHad TellsReturn s p (Return side t) calls core

-- ---- what an answer brings

-- a spot tells of the answer that brought it
abbrev pub SpotTells : Value → Spot → Type 0
SpotTells r Watch = Unit {0}
SpotTells r Read = Unit {0}
SpotTells r (Ask carried) = Unit {0}
SpotTells r (Take carried keys point) = Unit {0}
SpotTells r (Leave why) = IsReason why r

-- the end of a try of this aim tells of the answer to EXEC
abbrev pub EndTells : Aim → Value → Returned → Type 0
EndTells aim r returned.Moved = AreIntegers r
EndTells aim r returned.Gone = ⊥
EndTells aim r returned.Stayed = ⊥
EndTells aim r (returned.Contended tag) = (r ≡ NullArray) × (tag.0 ≡ aim.tag.0)

-- what an answer brought to a return of this aim, other than that to UNWATCH, tells of it
abbrev pub AnswerTells : Aim → Value → Progress Trying Returned → Type 0
AnswerTells aim r (progress.Next trying) = (trying.aim.tag.0 ≡ aim.tag.0) × SpotTells r trying.spot
AnswerTells aim r (progress.Over end) = EndTells aim r end
AnswerTells aim r progress.Refused = Unit {0}

-- a spot that isn't the leave of a message that was gone
abbrev pub IsOn : Spot → Type 0
IsOn Watch = Unit {0}
IsOn Read = Unit {0}
IsOn (Ask carried) = Unit {0}
IsOn (Take carried keys point) = Unit {0}
IsOn (Leave unmoved.Gone) = ⊥
IsOn (Leave unmoved.Stayed) = Unit {0}

-- an answer brought a return of this aim to such a spot, or was refused
abbrev pub GoesOn : Aim → Progress Trying Returned → Type 0
GoesOn aim (progress.Next trying) = (trying.aim.tag.0 ≡ aim.tag.0) × IsOn trying.spot
GoesOn aim (progress.Over end) = ⊥
GoesOn aim progress.Refused = Unit {0}

-- how a return that leaves ends
abbrev pub end_of : Unmoved → Returned
end_of unmoved.Gone = returned.Gone
end_of unmoved.Stayed = returned.Stayed

-- ---- at each spot a command is next

pushes_say : (ended stuck : Script) (aim : Aim) (text : Bytes) (keys : List Bytes) → is_saying (queued_script aim.side text keys (run_left ended stuck aim)) ≡ true
pushes_say ended stuck aim text [] = refl
pushes_say ended stuck aim text (k ∷ ks) = refl

points_say : (ended stuck : Script) (aim : Aim) (text : Bytes) (keys : List Bytes) (point : Point) → is_saying (point_left ended stuck aim text keys point) ≡ true
points_say ended stuck aim text keys Begin = refl
points_say ended stuck aim text keys Index = refl
points_say ended stuck aim text keys Table = refl
points_say ended stuck aim text keys (After count) = pushes_say ended stuck aim text (drop count keys)

pub spots_say : (ended stuck : Script) (aim : Aim) (spot : Spot) → is_saying (spot_left ended stuck aim spot) ≡ true
spots_say ended stuck aim Watch = refl
spots_say ended stuck aim Read = refl
spots_say ended stuck aim (Ask carried) = refl
spots_say ended stuck aim (Take carried keys point) = points_say ended stuck aim carried.value.text keys.words point
spots_say ended stuck aim (Leave why) = refl
