-- What a reading gives is an envelope or an entry, member by member.
use Rattle.std.proofs.Common.{ℕ, List, Result, Ok, Err}
use Rattle.std.specs.Prelude.{IfOk}
use Rattle.serde_json.specs.Data.{Data}
use Rattle.envelope_trees.specs.Reading.{Gives}
use Rattle.envelope_trees.specs.declared.fault.EnvelopeFault.{EnvelopeFault}
use Rattle.envelope.specs.Entries.{EntryParts, entry_at}
use Rattle.envelope.specs.Envelopes.{envelope_at}
use Rattle.envelope.specs.Relations.{IsEntry, IsEnvelope}
use Rattle.envelope.proofs.EntryRelations.{entry_from}
use Rattle.envelope.proofs.Relations.{envelope_from}

-- what was given as an envelope is one
pub envelope_given : {X : Type 0} (view : X → Data) (r : Result X EnvelopeFault) (b : List ℕ) → Gives view r (envelope_at b) → IfOk r (λ x. IsEnvelope (view x) b)
envelope_given view (Ok x) b h = envelope_from (view x) b h
envelope_given view (Err f) b h = tt

-- what was given as an entry is one
pub entry_given : {X : Type 0} (view : X → EntryParts) (r : Result X EnvelopeFault) (b : List ℕ) → Gives view r (entry_at b) → IfOk r (λ x. IsEntry (view x) b)
entry_given view (Ok x) b h = entry_from (view x) b h
entry_given view (Err f) b h = tt
