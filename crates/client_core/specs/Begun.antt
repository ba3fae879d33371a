-- Blocks that were made, and a client that takes one up. Serves the proofs of code.
use Rattle.std.specs.Prelude.{◌≡◌, ℕ, true, [], ⊤, Option, Some, Result, Ok, Err}
use Rattle.std.specs.declared.alloc.AllocError.{AllocError}
use Rattle.block_laws.specs.Rows.{IsLawfulPlan}
use Rattle.command_blocks.specs.EnvelopeTexts.{plain_setting}
use Rattle.command_blocks.specs.Scripts.{Plan}
use Rattle.client_blocks.specs.declared.left.BlockLeft.{BlockLeft}
use Rattle.envelope.specs.Envelopes.{parts_in}
use Rattle.envelope.specs.declared.envelope.Envelope.{Envelope}
use Rattle.routes.specs.Publishes.{IsPublishable}
use Rattle.sealed_drafts.specs.declared.sealing.Draft.{Draft}
use Rattle.serde_json.specs.View.{view as data_of}
use Rattle.steps.specs.Begins.{drafted_errand, publish_errand}
use Rattle.steps.specs.declared.counts.ClientCounts.{ClientCounts}
use Rattle.steps.specs.Errands.{Errand}
use Rattle.steps.specs.Goings.{HasBegun}
use Rattle.steps.specs.declared.begun.BeginFault.{BeginFault}
use Rattle.steps.specs.declared.begun.BeginFault.TheVariants as fault
use Rattle.client_core.specs.Lefts.{LeftHad}
use Rattle.client_core.specs.declared.client.ClientCore.{ClientCore}
use Rattle.client_core.specs.Works.{ClientHad, client_left, core_client}
use Rattle.client_core.specs.declared.work.Work.TheVariants as work

-- the block of a lawful plan of a client with these counters, which had no call yet
pub record IsMade (c : ClientCounts) (plan : Plan) (left : BlockLeft) : Type 0 where
  pub lawful : IsLawfulPlan plain_setting c.seed c.drawn plan
  pub had : LeftHad c.seed c.passes plan [] left

-- a client took up what was made, where it was; want of memory spends it
abbrev pub TookUp : ClientCore → ClientCore → Result BlockLeft AllocError → Result ⊤ BeginFault → Type 0
TookUp old new (Ok left) result = (new ≡ record old { work = work.Block left }) × (result ≡ Ok tt)
TookUp old new (Err e) result = (new ≡ record old { spent = true }) × (result ≡ Err fault.Memory)

-- a client began an errand, or didn't
abbrev pub Began : ClientCore → ClientCore → Result Errand BeginFault → Result ⊤ BeginFault → Type 0
Began old new errand result = HasBegun core_client client_left ClientHad (λ (s : ClientCore). s.spent) old new errand result

-- a draft was sealed under this tag, where there is one
abbrev pub GaveSealed : Draft → Option ℕ → Result Envelope BeginFault → Type 0
GaveSealed draft tag (Ok e) = (drafted_errand draft tag ≡ Ok (publish_errand (data_of e))) × (tag ≡ Some (parts_in (data_of e)).tag) × IsPublishable (data_of e)
GaveSealed draft tag (Err fault.NoTag) = drafted_errand draft tag ≡ Err fault.NoTag
GaveSealed draft tag (Err (fault.Name f)) = drafted_errand draft tag ≡ Err (fault.Name f)
GaveSealed draft tag (Err (fault.Draft f)) = drafted_errand draft tag ≡ Err (fault.Draft f)
GaveSealed draft tag (Err fault.BadNeutral) = ⊥
GaveSealed draft tag (Err fault.Memory) = Unit {0}
