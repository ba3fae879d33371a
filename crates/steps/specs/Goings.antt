-- What a client's begin and its replies leave.
use Rattle.std.specs.Prelude.{◌≡◌, Bool, true, false, List, [], ◌∷◌, ◌++◌, ⊤, Result, Ok, Err}
use Rattle.store_model.specs.declared.reply.Reply.{Reply}
use Rattle.block_core.specs.declared.fault.ReplyFault.{ReplyFault}
use Rattle.block_core.specs.declared.fault.ReplyFault.TheVariants as reply
use Rattle.command_blocks.specs.Calls.{call}
use Rattle.command_blocks.specs.Scripts.{Script, Over, Off, Say, after_call}
use Rattle.steps.specs.declared.counts.ClientCounts.{ClientCounts}
use Rattle.steps.specs.Errands.{Errand, client_after, errand_script}
use Rattle.steps.specs.Trips.{RoundTrip}
use Rattle.steps.specs.declared.begun.BeginFault.{BeginFault}
use Rattle.steps.specs.declared.begun.BeginFault.TheVariants as fault

-- whether a block may begin
abbrev pub is_idle : Script → Bool
is_idle Over = true
is_idle Off = false
is_idle (Say w go) = false

-- a client with these counters began this errand: its counters moved, its script is left, and nothing was said of it yet
pub record IsBegun {T : Type 0} (client : T → ClientCounts) (left : T → Script) (had : T → ClientCounts → Errand → List RoundTrip → Type 0) (c : ClientCounts) (errand : Errand) (new : T) : Type 0 where
  pub client_is : client new ≡ client_after c errand
  pub left_is : left new ≡ errand_script c errand
  pub had_none : had new c errand []

-- it began the errand; or it didn't, for this reason and no other, and nothing changed; want of memory spends it
abbrev pub HasBegun : {T : Type 0} → (T → ClientCounts) → (T → Script) → (T → ClientCounts → Errand → List RoundTrip → Type 0) → (T → Bool) → T → T → Result Errand BeginFault → Result ⊤ BeginFault → Type 0
HasBegun client left had spent old new errand (Ok u) = (e : Errand) × (errand ≡ Ok e) × IsBegun client left had (client old) e new
HasBegun client left had spent old new errand (Err fault.NoTag) = (errand ≡ Err fault.NoTag) × (new ≡ old)
HasBegun client left had spent old new errand (Err (fault.Name f)) = (errand ≡ Err (fault.Name f)) × (new ≡ old)
HasBegun client left had spent old new errand (Err (fault.Draft f)) = (errand ≡ Err (fault.Draft f)) × (new ≡ old)
HasBegun client left had spent old new errand (Err fault.BadNeutral) = (errand ≡ Err fault.BadNeutral) × (new ≡ old)
HasBegun client left had spent old new errand (Err fault.Memory) = spent new ≡ true

-- what follows a reply, whose answer the script lists or not
abbrev pub script_after : Script → Reply → Script
script_after script r = after_call script (call 0 [] r.answer)

-- the reply was taken, and the script goes on by its answer; or that isn't listed, and nothing is said after it; want of memory spends the client
abbrev pub HasTakenReply : {T : Type 0} → (T → Script) → (T → Bool) → T → T → Reply → Result ⊤ ReplyFault → Type 0
HasTakenReply left spent old new r (Ok u) = (left new ≡ script_after (left old) r) × (left new ≡ Off → ⊥)
HasTakenReply left spent old new r (Err (reply.Refused given)) = (left new ≡ script_after (left old) r) × (left new ≡ Off) × (given ≡ r) × (spent new ≡ false)
HasTakenReply left spent old new r (Err reply.Memory) = spent new ≡ true

-- it had one round trip more, also where it refused the reply; of one that is spent nothing more is told
abbrev pub HasHeardOn : (List RoundTrip → Type 0) → List RoundTrip → RoundTrip → Result ⊤ ReplyFault → Type 0
HasHeardOn Had trips t (Ok u) = Had (trips ++ t ∷ [])
HasHeardOn Had trips t (Err (reply.Refused given)) = Had (trips ++ t ∷ [])
HasHeardOn Had trips t (Err reply.Memory) = Unit {0}
