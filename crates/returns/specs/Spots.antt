-- What is left of a return from the spot where it stands, by what follows its end. Serves the proofs of code.
use Rattle.std.specs.Prelude.{◌≡◌, List, [], ◌∷◌, codes, drop}
use Rattle.serde_json.specs.Data.{Data}
use Rattle.serde_json.specs.Written.{compact_text}
use Rattle.wire_values.specs.declared.value.Value.{Value}
use Rattle.delivery_tags.specs.Tags.{tag_text}
use Rattle.envelope.specs.Entries.{EntryParts}
use Rattle.envelope.specs.Envelopes.{priority_of}
use Rattle.queue_keys.specs.Layouts.{plain, step_of}
use Rattle.queue_keys.specs.Lookup.{route_keys}
use Rattle.queue_keys.specs.Names.{Bytes}
use Rattle.command_blocks.specs.Calls.{call, push_word}
use Rattle.command_blocks.specs.declared.side.Side.{Side}
use Rattle.store_model.specs.Words.{Words}
use Rattle.command_blocks.specs.EnvelopeTexts.{plain_setting}
use Rattle.command_blocks.specs.Scripts.{Script, Off, plainly, on_done, on_queued, on_ran, on_entry, on_texts, queued_script, leave_script, take_script, route_script, carried_for, try_script, tries_script, after_call}
use Rattle.block_core.specs.declared.stage.Progress.{Progress}
use Rattle.block_core.specs.declared.stage.Progress.TheVariants as progress
use Rattle.returns.specs.declared.carried.Carried.{Carried}
use Rattle.returns.specs.declared.returned.Returned.{Returned}
use Rattle.returns.specs.declared.returned.Returned.TheVariants.{Moved, Gone, Stayed, Contended}
use Rattle.returns.specs.declared.spot.Aim.{Aim}
use Rattle.returns.specs.declared.spot.Point.{Point}
use Rattle.returns.specs.declared.spot.Point.TheVariants.{Begin, Index, Table, After}
use Rattle.returns.specs.declared.spot.Spot.{Spot}
use Rattle.returns.specs.declared.spot.Spot.TheVariants.{Watch, Read, Ask, Take, Leave}
use Rattle.returns.specs.declared.trying.Trying.{Trying}

-- ---- what is carried

-- the keys to which it returns, by the members of its exchange's bindings
abbrev pub carried_keys : Carried → List Bytes → List Bytes
carried_keys c ms = route_keys plain (step_of plain c.priority) c.exchange c.routing_key ms

-- it has the text of this redelivered envelope, and the names of this entry
pub record IsCarried (c : Carried) (made : Data) (e : EntryParts) : Type 0 where
  pub text : c.text ≡ compact_text made
  pub exchange : c.exchange ≡ e.exchange
  pub routing_key : c.routing_key ≡ e.routing_key
  pub priority : c.priority ≡ priority_of made

-- ---- the spots

-- the text of the tag
abbrev pub aimed : Aim → Bytes
aimed aim = tag_text aim.tag.0

-- what follows a try whose EXEC failed
abbrev pub failed_left : Script → Script → Aim → Script
failed_left ended stuck aim = tries_script plain_setting aim.side (aimed aim) ended stuck aim.more

-- EXEC is next
abbrev pub run_left : Script → Script → Aim → Script
run_left ended stuck aim = plainly (codes "EXEC" ∷ []) (on_ran ended (failed_left ended stuck aim))

-- the pushes to these keys are next
abbrev pub push_left : Script → Script → Aim → Bytes → List Bytes → Script
push_left ended stuck aim text keys = queued_script aim.side text keys (run_left ended stuck aim)

-- the next of these pushes, or EXEC after all
abbrev pub pushed_words : Side → Bytes → List Bytes → Words
pushed_words side text [] = codes "EXEC" ∷ []
pushed_words side text (k ∷ ks) = push_word side ∷ k ∷ text ∷ []

-- HDEL of the table is next
abbrev pub table_left : Script → Script → Aim → Bytes → List Bytes → Script
table_left ended stuck aim text keys = plainly (codes "HDEL" ∷ plain_setting.unacked ∷ aimed aim ∷ []) (on_queued (push_left ended stuck aim text keys))

-- ZREM of the index is next
abbrev pub index_left : Script → Script → Aim → Bytes → List Bytes → Script
index_left ended stuck aim text keys = plainly (codes "ZREM" ∷ plain_setting.index ∷ aimed aim ∷ []) (on_queued (table_left ended stuck aim text keys))

-- MULTI is next
abbrev pub begin_left : Script → Script → Aim → Bytes → List Bytes → Script
begin_left ended stuck aim text keys = plainly (codes "MULTI" ∷ []) (on_done (index_left ended stuck aim text keys))

-- the transaction that pushes a text to these keys, from a point on
abbrev pub point_left : Script → Script → Aim → Bytes → List Bytes → Point → Script
point_left ended stuck aim text keys Begin = begin_left ended stuck aim text keys
point_left ended stuck aim text keys Index = index_left ended stuck aim text keys
point_left ended stuck aim text keys Table = table_left ended stuck aim text keys
point_left ended stuck aim text keys (After count) = push_left ended stuck aim text (drop count keys)

-- the lookup is known
abbrev pub sent_left : Script → Script → Aim → Carried → List Bytes → Script
sent_left ended stuck aim carried ms = take_script plain_setting aim.side (aimed aim) carried.text ended (failed_left ended stuck aim) (carried_keys carried ms)

-- SMEMBERS is next
abbrev pub ask_left : Script → Script → Aim → Carried → Script
ask_left ended stuck aim carried = plainly (codes "SMEMBERS" ∷ plain_setting.binding carried.exchange ∷ []) (on_texts (λ ms. sent_left ended stuck aim carried ms))

-- an entry was read
abbrev pub entry_left : Script → Script → Aim → Bytes → Script
entry_left ended stuck aim u = route_script plain_setting aim.side (aimed aim) u ended (failed_left ended stuck aim) (carried_for plain_setting (aimed aim) u)

-- HGET is next
abbrev pub read_left : Script → Script → Aim → Script
read_left ended stuck aim = plainly (codes "HGET" ∷ plain_setting.unacked ∷ aimed aim ∷ []) (on_entry (leave_script ended) (λ u. entry_left ended stuck aim u))

-- a try, from a spot on
abbrev pub spot_left : Script → Script → Aim → Spot → Script
spot_left ended stuck aim Watch = try_script plain_setting aim.side (aimed aim) ended (failed_left ended stuck aim)
spot_left ended stuck aim Read = read_left ended stuck aim
spot_left ended stuck aim (Ask carried) = ask_left ended stuck aim carried.value
spot_left ended stuck aim (Take carried keys point) = point_left ended stuck aim carried.value.text keys.words point
spot_left ended stuck aim (Leave why) = leave_script ended

-- what is left of a return, by what follows its end: the one, or the other where it was contended
abbrev pub trying_left : Script → Script → Trying → Script
trying_left ended stuck trying = spot_left ended stuck trying.aim trying.spot

-- ---- what an answer brings

-- what follows an end
abbrev pub returned_left : Script → Script → Returned → Script
returned_left ended stuck Moved = ended
returned_left ended stuck Gone = ended
returned_left ended stuck Stayed = ended
returned_left ended stuck (Contended tag) = stuck

-- what is left by what an answer brought
abbrev pub tried_left : Script → Script → Progress Trying Returned → Script
tried_left ended stuck (progress.Next trying) = trying_left ended stuck trying
tried_left ended stuck (progress.Over end) = returned_left ended stuck end
tried_left ended stuck progress.Refused = Off

-- whatever follows the return, an answer brings what goes on after it
abbrev pub HasTried : Trying → Value → Progress Trying Returned → Type 0
HasTried trying answer p = (ended stuck : Script) → tried_left ended stuck p ≡ after_call (trying_left ended stuck trying) (call 0 [] answer)
